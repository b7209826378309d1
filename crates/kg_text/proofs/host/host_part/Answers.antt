-- The colon before the digits at the end is the last one.
use Rattle.std.proofs.Common.{◌≡◌, arith}
use Rattle.kg_text.proofs.HostLemmas.{with_port, without_port}
use Rattle.kg_text.proofs.host.host_part.Goals as goal
use Rattle.kg_text.proofs.host.host_part.Goals.{else-end-gt0-via-then-end-gt0+else-value-end-eq58, else-end-gt0-via-else-end-gt0}

pub returns-then-value-end-eq58 : goal.returns-then-value-end-eq58
returns-then-value-end-eq58 c =
    with_port c.args.value.now c.digits_len.result c.digits_len.ensures.count (omega arith) c.if-value-end-eq58.true

pub returns-else-end-gt0 : goal.returns-else-end-gt0
returns-else-end-gt0 c =
    without_port c.args.value.now c.digits_len.result c.digits_len.ensures.count (λ within found.
    elim c.else-end-gt0.branch [
      | else-end-gt0-via-then-end-gt0+else-value-end-eq58 w ↦ w.if-value-end-eq58.false found
      | else-end-gt0-via-else-end-gt0 w ↦ let none = w.if-end-gt0.false in absurd (omega arith)
    ])

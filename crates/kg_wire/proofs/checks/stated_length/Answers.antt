use Rattle.std.proofs.Common.{◌≡◌, sym, ap, ◌∙◌, arith}
use Rattle.std.specs.Prelude.{codes}
use Rattle.std.specs.Option.{option_copied}
use Rattle.kg_message.specs.HeaderLists.{is_named}
use Rattle.kg_wire.proofs.StatedLemmas.{none_stated, one_stated, many_stated}
use Rattle.kg_wire.proofs.checks.stated_length.Goals as goal

pub returns-then-count-eq1 : goal.returns-then-count-eq1
returns-then-count-eq1 c =
    c.length_of.ensures
    ∙ sym (one_stated (is_named (codes "content-length")) c.args.headers.now c.in-Some.value.now
    (sym c.first.ensures ∙ ap option_copied c.in-Some.is) (sym c.count.ensures ∙ c.if-count-eq1.true))

pub returns-else-count-eq1 : goal.returns-else-count-eq1
returns-else-count-eq1 c =
    sym (many_stated (is_named (codes "content-length")) c.args.headers.now c.in-Some.value.now
    (sym c.first.ensures ∙ ap option_copied c.in-Some.is)
    (λ one. let count : c.count.result ≡ 1 = c.count.ensures ∙ one in omega arith))

pub returns-in-None : goal.returns-in-None
returns-in-None c =
    sym (none_stated (is_named (codes "content-length")) c.args.headers.now
    (sym c.first.ensures ∙ ap option_copied c.in-None.is))

use Rattle.std.proofs.Common.{arith}
use Rattle.kg_wire.proofs.HeadEndLemmas.{none_missed}
use Rattle.kg_wire.proofs.head_end.has_head_end.Goals as goal

pub returns : goal.returns
returns c = λ same front.
    none_missed c.args.bytes.now c.args.before (λ k from within. c.loop-end.invariant k from (omega arith)) front

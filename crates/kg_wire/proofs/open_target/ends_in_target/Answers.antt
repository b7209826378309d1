use Rattle.std.proofs.Common.{◌∙◌}
use Rattle.kg_wire.proofs.OpenTargetLemmas.{target_ends, ends_target}
use Rattle.kg_wire.proofs.open_target.ends_in_target.Goals as goal

pub returns-in-Target-clause-ends : goal.returns-in-Target-clause-ends
returns-in-Target-clause-ends c = λ is. target_ends c.args.bytes.now c.state_after.result c.state_after.ensures c.in-Target.is

pub returns-in_default : goal.returns-in_default
returns-in_default c = record {
  ends = λ is. absurd (cc);
  other = λ is ends. c.in_default.not-Target (c.state_after.ensures ∙ ends_target c.args.bytes.now ends);
}

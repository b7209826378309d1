use Rattle.std.proofs.Common.{◌≡◌, take}
use Rattle.std.specs.List.{fold}
use Rattle.kg_wire.specs.OpenTargets.{next_state}
use Rattle.kg_wire.specs.declared.open_target.State.TheVariants.{Blank}
use Rattle.kg_wire.proofs.open_target.state_after.Given as goal

abbrev pub invariant-loop-b : goal.invariant-loop-b
invariant-loop-b l = l.state ≡ fold next_state Blank (take l.b-index l.bytes)

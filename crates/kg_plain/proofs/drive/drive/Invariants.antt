use Rattle.std.proofs.Common.{◌-◌}
use Rattle.kg_plain.specs.Driving.{GoesOn}
use Rattle.kg_plain.proofs.DriveLemmas.{passed_by_now}
use Rattle.kg_plain.proofs.drive.drive.Given as goal

abbrev pub invariant-loop-windows : goal.invariant-loop-windows
invariant-loop-windows l = GoesOn l.gateway l.initial.visit l.initial.windows l.visit l.windows

abbrev pub decreases-loop-windows : goal.decreases-loop-windows
decreases-loop-windows l = 9 - passed_by_now l.visit

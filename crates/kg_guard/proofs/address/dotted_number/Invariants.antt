use Rattle.std.proofs.Common.{length}
use Rattle.kg_guard.specs.DottedSteps.{IsLeft}
use Rattle.kg_guard.proofs.address.dotted_number.Given as goal

-- the octets so far and those left make the number
abbrev pub invariant-loop-behind : goal.invariant-loop-behind
invariant-loop-behind l = IsLeft l.fn.text l.number l.rest

abbrev pub decreases-loop-behind : goal.decreases-loop-behind
decreases-loop-behind l = length l.rest

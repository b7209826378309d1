-- the claims before this one are touched
use Rattle.std.proofs.Common.{◌≡◌, ◌++◌, drop, map, take}
use Rattle.kg_level2.specs.Claims.{touched_by_jump}
use Rattle.kg_level2.proofs.notes.touch_each.Given as goal

abbrev pub invariant-loop-claim : goal.invariant-loop-claim
invariant-loop-claim g l = l.claim-items ≡ map (touched_by_jump l.to) (take l.claim-index l.fn.out.items) ++ drop l.claim-index l.fn.out.items

-- the claims before this one are touched
use Rattle.std.proofs.Common.{◌≡◌, ◌++◌, drop, map, take}
use Rattle.kg_level2.specs.Claims.{touched}
use Rattle.kg_level2.proofs.notes.touch_all.Given as goal

abbrev pub invariant-loop-claim : goal.invariant-loop-claim
invariant-loop-claim g l = l.claim-items ≡ map (touched g.K.PartialEq.eq l.from l.above l.lists) (take l.claim-index l.fn.out.items) ++ drop l.claim-index l.fn.out.items

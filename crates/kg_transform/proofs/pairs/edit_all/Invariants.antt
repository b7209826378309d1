use Rattle.std.proofs.Common.{◌≡◌, take}
use Rattle.kg_transform.specs.Edits.{pairs_after}
use Rattle.kg_transform.proofs.pairs.edit_all.Given as goal

-- the members so far
abbrev pub invariant-loop-member : goal.invariant-loop-member
invariant-loop-member l = l.pairs ≡ pairs_after l.step (take l.member-index l.members) l.fn.pairs

use Rattle.std.proofs.Common.{◌≡◌, take}
use Rattle.kg_transform.specs.Edits.{fields_after}
use Rattle.kg_transform.proofs.fields.edit_all.Given as goal

-- the members so far
abbrev pub invariant-loop-member : goal.invariant-loop-member
invariant-loop-member l = l.headers ≡ fields_after l.step (take l.member-index l.members) l.fn.headers

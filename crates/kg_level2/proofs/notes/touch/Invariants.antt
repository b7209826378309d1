-- the commits that are left leave of the claim what all of them leave
use Rattle.std.proofs.Common.{◌≡◌, ◌+◌, drop}
use Rattle.kg_level2.specs.Claims.{touched}
use Rattle.kg_level2.proofs.notes.touch.Given as goal

abbrev pub invariant-loop-keys : goal.invariant-loop-keys
invariant-loop-keys g l = (touched g.K.PartialEq.eq l.number l.above (drop l.keys-index l.lists) l.claim ≡ touched g.K.PartialEq.eq l.from l.above l.lists l.initial.claim)
    × (l.number ≡ l.from + l.keys-index)

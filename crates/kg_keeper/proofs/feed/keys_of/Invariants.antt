use Rattle.std.proofs.Common.{◌≡◌, map, take}
use Rattle.kg_keeper.proofs.feed.keys_of.Given as goal

-- the keys so far are listed
abbrev pub invariant-loop-one : goal.invariant-loop-one
invariant-loop-one l = l.keys ≡ map (λ one. one.keys) (take l.one-index l.touched)

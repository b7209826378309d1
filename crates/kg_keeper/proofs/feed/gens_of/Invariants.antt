use Rattle.std.proofs.Common.{◌≡◌, map, take}
use Rattle.kg_keeper.proofs.feed.gens_of.Given as goal

-- the generations so far are listed
abbrev pub invariant-loop-one : goal.invariant-loop-one
invariant-loop-one l = l.gens ≡ map (λ one. one.gens) (take l.one-index l.touched)

use Rattle.std.proofs.Common.{◌≡◌, take}
use Rattle.kg_keeper.proofs.feed.copied.Given as goal

-- those so far are copied
abbrev pub invariant-loop-which : goal.invariant-loop-which
invariant-loop-which l = l.copy ≡ take l.which-index l.gens

use Rattle.std.proofs.Common.{◌≡◌, take}
use Rattle.kg_context.specs.PairLists.{pairs_renamed}
use Rattle.kg_context.proofs.pairs.renamed.Given as goal

-- the pairs so far
abbrev pub invariant-loop-pair : goal.invariant-loop-pair
invariant-loop-pair l = l.made ≡ pairs_renamed l.old l.new (take l.pair-index l.pair-items)

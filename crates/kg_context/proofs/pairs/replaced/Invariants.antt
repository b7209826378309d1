use Rattle.std.proofs.Common.{◌≡◌, take}
use Rattle.std.specs.List.{list_any}
use Rattle.kg_context.specs.PairLists.{has_pair_name, pairs_replaced}
use Rattle.kg_context.proofs.pairs.replaced.Given as goal

-- the pairs so far, and whether one of them has the name
abbrev pub invariant-loop-pair : goal.invariant-loop-pair
invariant-loop-pair l =
    (l.found ≡ list_any (has_pair_name l.name) (take l.pair-index l.pair-items))
    × (l.made ≡ pairs_replaced l.name l.value (take l.pair-index l.pair-items))

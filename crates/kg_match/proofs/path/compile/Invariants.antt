use Rattle.std.specs.Prelude.{◌≡◌, ◌<◌, ℕ, List, false, take, slice_index_or}
use Rattle.kg_match.specs.RoutePaths.{patterns_of, has_bad_pattern}
use Rattle.kg_match.proofs.path.compile.Given as goal

-- the patterns of the paths so far, none of which is bad
abbrev pub invariant-loop-index : goal.invariant-loop-index
invariant-loop-index l =
    (l.patterns.items ≡ patterns_of (take l.index l.paths))
    × ((k : ℕ) (d : List ℕ) → k < l.index → has_bad_pattern (slice_index_or l.paths k d) ≡ false)

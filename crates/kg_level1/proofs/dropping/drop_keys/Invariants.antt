-- what is left to drop of what stands is what there was to drop
use Rattle.std.proofs.Common.{◌≡◌, drop, filter}
use Rattle.kg_level1.specs.Commits.{outlasts}
use Rattle.kg_level1.proofs.dropping.drop_keys.Given as goal

abbrev pub invariant-loop-key : goal.invariant-loop-key
invariant-loop-key g l = (filter (outlasts g.K.PartialEq.eq l.number (drop l.key-index l.keys)) l.cache.entries ≡ filter (outlasts g.K.PartialEq.eq l.number l.keys) l.initial.cache.entries)
    × (l.cache.cap ≡ l.initial.cache.cap)

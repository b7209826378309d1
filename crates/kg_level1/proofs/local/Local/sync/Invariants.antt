-- the commits that are left leave of the level what all of them leave
use Rattle.std.proofs.Common.{◌≡◌, ◌+◌, drop}
use Rattle.kg_level1.specs.Commits.{after_commits}
use Rattle.kg_level1.proofs.local.Local.sync.Given as goal

abbrev pub invariant-loop-keys : goal.invariant-loop-keys
invariant-loop-keys g l = (after_commits g.K.PartialEq.eq l.number (drop l.keys-index l.lists) l.self ≡ after_commits g.K.PartialEq.eq l.from l.lists l.initial.self)
    × (l.number ≡ l.from + l.keys-index)

use Rattle.std.proofs.Common.{◌≡◌, ◌-◌, ◌++◌, length, take}
use Rattle.std.specs.Map.{keys_of}
use Rattle.kg_tables.proofs.table.first_ids.Given as goal

abbrev pub invariant-loop-above : goal.invariant-loop-above
invariant-loop-above l = keys_of (take l.most l.initial.above) ≡ l.ids ++ keys_of (take (l.most - length l.ids) l.above)

abbrev pub decreases-loop-above : goal.decreases-loop-above
decreases-loop-above l = length l.above

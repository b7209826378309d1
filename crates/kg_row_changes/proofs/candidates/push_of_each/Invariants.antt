use Rattle.std.proofs.Common.{◌≡◌, ◌++◌}
use Rattle.std.specs.List.{flat_map}
use Rattle.kg_row_changes.proofs.candidates.push_of_each.Given as goal

-- with the keys of the rows that are left, all are there
abbrev pub invariant-loop-row : goal.invariant-loop-row
invariant-loop-row g l =
    l.keys.items ++ flat_map g.T.Keyed.asked l.row-iterator ≡ l.initial.keys.items ++ flat_map g.T.Keyed.asked l.fn.rows

use Rattle.std.proofs.Common.{◌≡◌, [], nat_cmp, map}
use Rattle.std.specs.BTreeSet.{insert_key}
use Rattle.std.specs.Cmp.Lexicographic.{slice_cmp}
use Rattle.std.specs.List.{fold}
use Rattle.kg_row_values.proofs.value.group_set.Given as goal

-- with those that are left, all are put in
abbrev pub invariant-loop-row : goal.invariant-loop-row
invariant-loop-row l =
    fold (insert_key (slice_cmp nat_cmp)) l.groups.keys (map (λ row. row.group) l.row-iterator) ≡ fold (insert_key (slice_cmp nat_cmp)) [] (map (λ row. row.group) l.fn.memberships)

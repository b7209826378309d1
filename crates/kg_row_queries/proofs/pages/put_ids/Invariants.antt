use Rattle.std.proofs.Common.{◌≡◌, nat_cmp, filter, map}
use Rattle.std.specs.BTreeSet.{insert_key}
use Rattle.std.specs.List.{fold}
use Rattle.kg_tables.specs.IdOrder.{is_above}
use Rattle.kg_row_queries.proofs.pages.put_ids.Given as goal

-- those that are there and those that are left are all
abbrev pub invariant-loop-row : goal.invariant-loop-row
invariant-loop-row g l =
    fold (insert_key nat_cmp) l.ids.keys (filter (is_above l.offset) (map g.T.Row.number l.row-iterator))
    ≡ fold (insert_key nat_cmp) l.initial.ids.keys (filter (is_above l.offset) (map g.T.Row.number l.fn.rows))

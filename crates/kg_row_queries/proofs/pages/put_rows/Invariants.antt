use Rattle.std.proofs.Common.{◌≡◌, ◌++◌, take}
use Rattle.std.specs.List.{flat_map}
use Rattle.std.specs.Option.{option_to_list}
use Rattle.kg_row_queries.specs.Selections.{row_with_id, rows_in}
use Rattle.kg_row_queries.proofs.pages.put_rows.Given as goal

-- the rows so far are shown
abbrev pub invariant-loop-id : goal.invariant-loop-id
invariant-loop-id l = l.shown ≡ l.initial.shown ++ flat_map (λ id. option_to_list (row_with_id l.kind id (rows_in l.collection l.rows))) (take l.id-index l.ids)

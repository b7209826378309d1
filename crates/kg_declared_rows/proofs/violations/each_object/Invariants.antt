use Rattle.std.proofs.Common.{◌≡◌, ◌++◌, map, option_map}
use Rattle.serde_json.specs.View.{items_view, members_view}
use Rattle.kg_declared_rows.specs.Violations.{each_object}
use Rattle.kg_declared_rows.proofs.violations.each_object.Given as goal

-- the rows so far and those ahead are all rows
abbrev pub invariant-loop-item : goal.invariant-loop-item
invariant-loop-item l =
    option_map (λ more. map (λ row. members_view row.entries) l.rows.items ++ more) (each_object (items_view l.item-iterator.rest.items))
    ≡ each_object (items_view l.fn.items.items)

use Rattle.std.proofs.Common.{◌≡◌, ◌++◌, map}
use Rattle.serde_json.specs.View.{members_view}
use Rattle.kg_declared_rows.specs.Rows.{row_of}
use Rattle.kg_declared_rows.specs.SeenRows.{seen_all}
use Rattle.kg_declared_rows.proofs.declared.add_rows.Given as goal

-- the rows so far are added
abbrev pub invariant-loop-members : goal.invariant-loop-members
invariant-loop-members l =
    seen_all l.rows.items ≡ seen_all l.initial.rows.items ++ map (row_of l.kind l.parent) (map (λ row. members_view row.entries) l.yielded)

use Rattle.std.proofs.Common.{◌≡◌, map, take}
use Rattle.serde_json.specs.View.{view}
use Rattle.kg_shown_rows.specs.Shown.{shown}
use Rattle.kg_admin.proofs.page.shown_rows.Given as goal

-- the rows so far are shown
abbrev pub invariant-loop-row : goal.invariant-loop-row
invariant-loop-row l = map view l.values.items ≡ map shown (take l.row-index l.rows)

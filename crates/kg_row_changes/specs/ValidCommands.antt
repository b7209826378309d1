-- Commands that put valid rows.
use Rattle.std.specs.Prelude.{ℕ, List, [], ◌∷◌, IsTrue, ⊤}
use Rattle.kg_row_types.specs.RowLists.{RowLists}
use Rattle.kg_row_types.specs.ValidRows.{IsValidRow}
use Rattle.kg_row_changes.specs.Allowed.{is_allowed}
use Rattle.kg_row_values.specs.Rows.{changed}
use Rattle.kg_row_values.specs.declared.command.Command.{Command}
use Rattle.kg_row_values.specs.declared.command.Command.TheVariants.{Insert, Update, Delete}

-- the row that is inserted or updated, if one is, is valid by itself
abbrev pub IsValidCommand : Command → Type 0
IsValidCommand (Insert new) = IsValidRow new
IsValidCommand (Update new) = IsValidRow new
IsValidCommand (Delete kind id) = ⊤

-- from these rows on each command puts a valid row, if one, and is allowed at the rows before it
abbrev pub AreAllowed : RowLists → List Command → ℕ → Type 0
AreAllowed rows [] limit = ⊤
AreAllowed rows (command ∷ commands) limit =
    IsValidCommand command × IsTrue (is_allowed rows command limit) × AreAllowed (changed command rows) commands limit

-- What the commands of a declaration are: each inserts a valid row, and is allowed at the rows before it.
use Rattle.std.specs.Prelude.{ℕ, List, All}
use Rattle.kg_row_types.specs.RowLists.{no_rows}
use Rattle.kg_row_types.specs.ValidRows.{AreValidRows, HasDistinctRows, HasReferences, IsValidRow}
use Rattle.kg_row_values.specs.Rows.{rows_after}
use Rattle.kg_row_changes.specs.ValidCommands.{AreAllowed}
use Rattle.kg_row_values.specs.declared.command.Command.{Command}
use Rattle.kg_row_values.specs.declared.command.Command.TheVariants.{Insert, Update, Delete}

abbrev pub InsertsValidRow : Command → Type 0
InsertsValidRow (Insert new) = IsValidRow new
InsertsValidRow (Update new) = ⊥
InsertsValidRow (Delete kind id) = ⊥

-- the commands insert valid rows, and each is allowed at the rows before it, beginning with no rows and with
-- at most `limit` rows of a kind: after them each row is valid, no two rows share what only one may have, and
-- what a row names is there
pub record AreInsertions (limit : ℕ) (commands : List Command) : Type 0 where
  pub inserts : All InsertsValidRow commands
  pub allowed : AreAllowed no_rows commands limit
  pub valid : AreValidRows (rows_after commands)
  pub distinct : HasDistinctRows (rows_after commands)
  pub references : HasReferences (rows_after commands)

-- The history of a store: the commands, and what is kept beside them (this project's own).
use Rattle.std.specs.Prelude.{◌≡◌, ℕ, ◌+◌, ◌≤◌, List, [], ◌∷◌, ◌++◌, length, take, Ok, ⊤}
use Rattle.kg_keeper.specs.Answers.{decision_at, most_commits, row_put}
use Rattle.kg_keeper.specs.declared.answer.Committed.{Committed}
use Rattle.kg_row_types.specs.RowLists.{RowLists}
use Rattle.kg_row_types.specs.ValidRows.{AreValidRows, HasDistinctRows, HasReferences}
use Rattle.kg_row_values.specs.Changes.{NamesChanges}
use Rattle.kg_row_values.specs.Rows.{rows_after}
use Rattle.kg_row_values.specs.declared.command.Command.{Command}
use Rattle.kg_row_values.specs.declared.touched.Touched.{Touched}
use Rattle.kg_rows.specs.declared.draft.Draft.{Draft}

-- each tells what its commit touched, the first one being the commit after the first `from`
abbrev pub AreTouched : List Command → ℕ → List Touched → Type 0
AreTouched history from [] = ⊤
AreTouched history from (touched ∷ later) =
    NamesChanges (rows_after (take from history)) (rows_after (take (from + 1) history)) touched × AreTouched history (from + 1) later

-- the rows are those after the commands; they are valid, share nothing that only one may have, and name what is
-- there; beside each command stands what it touched
pub record IsKept (commands : List Command) (rows : RowLists) (touched : List Touched) : Type 0 where
  pub same : rows ≡ rows_after commands
  pub valid : AreValidRows rows
  pub distinct : HasDistinctRows rows
  pub references : HasReferences rows
  pub told : AreTouched commands 0 touched
  pub lists : length touched ≡ length commands
  pub most : length commands ≤ most_commits

-- the command that is decided under this limit was added, and the answer tells of it
pub record IsAdded (before now : List Command) (limit : ℕ) (draft : Draft) (answer : Committed) : Type 0 where
  pub command : Command
  pub decided : decision_at before draft limit ≡ Ok command
  pub added : now ≡ before ++ command ∷ []
  pub place : answer.at ≡ length before + 1
  pub row : answer.row ≡ row_put command

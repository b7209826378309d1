-- What is kept beside the commands of a history.
use Rattle.std.proofs.Common.{◌≡◌, ℕ, ◌<◌, true, List, [], ◌∷◌, ◌++◌, length, refl, sym, ap, subst, ◌∙◌, arith, length-append}
use Rattle.kg_keeper.proofs.TouchedLemmas.{touched_more}
use Rattle.kg_keeper.specs.Answers.{most_commits}
use Rattle.kg_keeper.specs.Histories.{IsKept}
use Rattle.kg_row_changes.proofs.AllowedHistories.{no_rows_distinct, no_rows_refer, no_rows_valid}
use Rattle.kg_row_changes.proofs.DistinctKept.{changed_distinct}
use Rattle.kg_row_changes.proofs.DistinctLemmas.{both_first}
use Rattle.kg_row_changes.proofs.ReferencesKept.{changed_refers}
use Rattle.kg_row_changes.proofs.ValidKept.{changed_valid}
use Rattle.kg_row_changes.specs.Allowed.{has_room, is_allowed, is_consistent}
use Rattle.kg_row_changes.specs.ValidCommands.{IsValidCommand}
use Rattle.kg_row_types.specs.RowLists.{RowLists, no_rows}
use Rattle.kg_row_values.proofs.HistoryLemmas.{rows_from-push}
use Rattle.kg_row_values.specs.Changes.{NamesChanges}
use Rattle.kg_row_values.specs.Rows.{changed, rows_after}
use Rattle.kg_row_values.specs.declared.command.Command.{Command}
use Rattle.kg_row_values.specs.declared.touched.Touched.{Touched}

-- no commands yet
pub kept_none : (commands : List Command) (rows : RowLists) (touched : List Touched) → commands ≡ [] → rows ≡ no_rows → touched ≡ []
    → IsKept commands rows touched
kept_none commands rows touched no_commands none no_touched =
    rw (no_commands, none, no_touched) (record {
      same = refl;
      valid = no_rows_valid;
      distinct = no_rows_distinct;
      references = no_rows_refer;
      told = tt;
      lists = refl;
      most = omega arith;
    })

-- one more command, which keeps the rows consistent
pub kept_more : (commands : List Command) (rows : RowLists) (touched : List Touched) (command : Command) (one : Touched)
    → IsKept commands rows touched → IsValidCommand command → is_consistent (rows_after commands) command ≡ true
    → length commands < most_commits → NamesChanges rows (changed command rows) one
    → IsKept (commands ++ command ∷ []) (changed command rows) (touched ++ one ∷ [])
kept_more commands rows touched command one kept valid consistent room names =
    let here : is_consistent rows command ≡ true = subst (λ before. is_consistent before command ≡ true) (sym kept.same) consistent in
    record {
      same = ap (changed command) kept.same ∙ sym (rows_from-push no_rows commands command);
      valid = changed_valid rows kept.valid command valid;
      distinct = changed_distinct rows kept.distinct command here;
      references = changed_refers rows kept.references command here;
      told = touched_more commands command touched 0 one (omega (arith, kept.lists)) kept.told (subst (λ before. NamesChanges before (changed command before) one) kept.same names);
      lists = omega (arith, kept.lists, length-append touched (one ∷ []), length-append commands (command ∷ []));
      most = omega (arith, room, length-append commands (command ∷ []));
    }

-- a command that is allowed keeps the rows consistent
pub consistent_of_allowed : (rows : RowLists) (command : Command) (limit : ℕ) → is_allowed rows command limit ≡ true → is_consistent rows command ≡ true
consistent_of_allowed rows command limit allowed = both_first (is_consistent rows command) (has_room rows command limit) allowed

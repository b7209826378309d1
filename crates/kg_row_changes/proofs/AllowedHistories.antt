-- The rows after commands that are valid and allowed, one after another.
use Rattle.std.proofs.Common.{◌≡◌, ℕ, true, List, [], ◌∷◌, ◌++◌}
use Rattle.std.proofs.lemmas.List.Elements.{All-nil}
use Rattle.std.specs.List.{IsDistinct}
use Rattle.kg_row_types.specs.RowLists.{RowLists, no_rows}
use Rattle.kg_row_types.specs.ValidRows.{AreValidRows, HasDistinctRows, HasReferences}
use Rattle.kg_row_changes.proofs.DistinctKept.{changed_distinct}
use Rattle.kg_row_changes.proofs.DistinctLemmas.{both_first}
use Rattle.kg_row_changes.proofs.ReferencesKept.{changed_refers}
use Rattle.kg_row_changes.proofs.ValidKept.{changed_valid}
use Rattle.kg_row_changes.specs.Allowed.{has_room, is_allowed, is_consistent}
use Rattle.kg_row_values.specs.Rows.{changed, rows_from}
use Rattle.kg_row_changes.specs.ValidCommands.{AreAllowed, IsValidCommand}
use Rattle.kg_row_values.specs.declared.command.Command.{Command}

pub no_rows_valid : AreValidRows no_rows
no_rows_valid = record { services = All-nil _; routes = All-nil _; consumers = All-nil _; key_creds = All-nil _; basic_creds = All-nil _; acls = All-nil _; plugins = All-nil _ }

pub no_rows_distinct : HasDistinctRows no_rows
unfolding IsDistinct
no_rows_distinct = record {
  ids = record { services = tt; routes = tt; consumers = tt; key_creds = tt; basic_creds = tt; acls = tt; plugins = tt };
  service_names = tt;
  route_names = tt;
  usernames = tt;
  custom_ids = tt;
  keys = tt;
  basic_usernames = tt;
  memberships = tt;
  places = tt;
}

pub no_rows_refer : HasReferences no_rows
no_rows_refer = record { routes = All-nil _; key_creds = All-nil _; basic_creds = All-nil _; acls = All-nil _; services_of_plugins = All-nil _; routes_of_plugins = All-nil _; consumers_of_plugins = All-nil _ }

module _ (limit : ℕ) where
  consistent : (rows : RowLists) (command : Command) → is_allowed rows command limit ≡ true → is_consistent rows command ≡ true
  consistent rows command allowed = both_first (is_consistent rows command) (has_room rows command limit) allowed

  pub valid_after : (commands : List Command) (rows : RowLists) → AreAllowed rows commands limit → AreValidRows rows → AreValidRows (rows_from rows commands)
  valid_after [] rows all valid = valid
  valid_after (command ∷ commands) rows all valid = valid_after commands (changed command rows) all.2 (changed_valid rows valid command all.0)

  pub distinct_after : (commands : List Command) (rows : RowLists) → AreAllowed rows commands limit → HasDistinctRows rows → HasDistinctRows (rows_from rows commands)
  distinct_after [] rows all distinct = distinct
  distinct_after (command ∷ commands) rows all distinct = distinct_after commands (changed command rows) all.2 (changed_distinct rows distinct command (consistent rows command all.1))

  pub refers_after : (commands : List Command) (rows : RowLists) → AreAllowed rows commands limit → HasReferences rows → HasReferences (rows_from rows commands)
  refers_after [] rows all refers = refers
  refers_after (command ∷ commands) rows all refers = refers_after commands (changed command rows) all.2 (changed_refers rows refers command (consistent rows command all.1))

  pub one_more : (commands : List Command) (rows : RowLists) (command : Command) → AreAllowed rows commands limit → IsValidCommand command → is_allowed (rows_from rows commands) command limit ≡ true
      → AreAllowed rows (commands ++ command ∷ []) limit
  one_more [] rows command all valid allowed = (valid, allowed, tt)
  one_more (first ∷ commands) rows command all valid allowed = (all.0, all.1, one_more commands (changed first rows) command all.2 valid allowed)

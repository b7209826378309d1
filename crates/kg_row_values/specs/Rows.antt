-- The rows after a history of commands.
use Rattle.std.specs.Prelude.{ℕ, List, [], ◌∷◌}
use Rattle.kg_row_types.specs.RowChanges.{inserted, updated, removed, without_plugins_of, without_credentials_of}
use Rattle.kg_row_types.specs.RowLists.{RowLists, no_rows}
use Rattle.kg_row_types.specs.declared.entity.Kind.{Kind}
use Rattle.kg_row_types.specs.declared.entity.Kind.TheVariants as kind
use Rattle.kg_row_values.specs.declared.command.Command.{Command}
use Rattle.kg_row_values.specs.declared.command.Command.TheVariants.{Insert, Update, Delete}

-- the rows without a row and what can't stand without it: the plugins that name a service, a route
-- or a consumer, and the credentials and groups of a consumer
abbrev pub deleted : Kind → ℕ → RowLists → RowLists
deleted kind.Service id rows = without_plugins_of kind.Service id (removed kind.Service id rows)
deleted kind.Route id rows = without_plugins_of kind.Route id (removed kind.Route id rows)
deleted kind.Consumer id rows = without_plugins_of kind.Consumer id (without_credentials_of id (removed kind.Consumer id rows))
deleted kind.KeyCred id rows = removed kind.KeyCred id rows
deleted kind.BasicCred id rows = removed kind.BasicCred id rows
deleted kind.Acl id rows = removed kind.Acl id rows
deleted kind.Plugin id rows = removed kind.Plugin id rows

-- the rows after one command
abbrev pub changed : Command → RowLists → RowLists
changed (Insert row) rows = inserted row rows
changed (Update row) rows = updated row rows
changed (Delete kind id) rows = deleted kind id rows

-- the rows after further commands
abbrev pub rows_from : RowLists → List Command → RowLists
rows_from rows [] = rows
rows_from rows (command ∷ commands) = rows_from (changed command rows) commands

-- the rows after a history, which begins with no rows
abbrev pub rows_after : List Command → RowLists
rows_after history = rows_from no_rows history

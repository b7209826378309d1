-- Which commands are allowed at given rows.
use Rattle.std.specs.Prelude.{ℕ, Bool, true, not, ◌&&◌, ◌==◌, nat_lt, Option, Some, is_none}
use Rattle.std.specs.List.{list_any}
use Rattle.std.specs.Option.{option_map_or}
use Rattle.kg_row_types.specs.Entities.{kind_of, id_of_row}
use Rattle.kg_row_types.specs.RowChanges.{has_row, count_of}
use Rattle.kg_row_types.specs.RowLists.{RowLists}
use Rattle.kg_row_types.specs.declared.entity.Entity.{Entity}
use Rattle.kg_row_types.specs.declared.entity.Entity.TheVariants as row
use Rattle.kg_row_types.specs.declared.entity.Kind.{Kind}
use Rattle.kg_row_types.specs.declared.entity.Kind.TheVariants as kind
use Rattle.kg_row_types.specs.declared.plugin.Scope.{Scope}
use Rattle.kg_row_changes.specs.Claims.{claimed}
use Rattle.kg_row_values.specs.declared.command.Command.{Command}
use Rattle.kg_row_values.specs.declared.command.Command.TheVariants.{Insert, Update, Delete}

-- ---- references

-- a row of this kind is there for the id, if one is set
abbrev pub has_if_set : Kind → Option ℕ → RowLists → Bool
has_if_set kind reference rows = option_map_or (λ id. has_row kind id rows) reference true

abbrev pub has_scope : Scope → RowLists → Bool
has_scope scope rows =
    has_if_set kind.Service scope.service rows && has_if_set kind.Route scope.route rows && has_if_set kind.Consumer scope.consumer rows

-- the rows that a row names are there
abbrev pub has_named_rows : Entity → RowLists → Bool
has_named_rows (row.Service service) rows = true
has_named_rows (row.Route route) rows = has_row kind.Service route.service rows
has_named_rows (row.Consumer consumer) rows = true
has_named_rows (row.KeyCred cred) rows = has_row kind.Consumer cred.consumer rows
has_named_rows (row.BasicCred cred) rows = has_row kind.Consumer cred.consumer rows
has_named_rows (row.Acl membership) rows = has_row kind.Consumer membership.consumer rows
has_named_rows (row.Plugin plugin) rows = has_scope plugin.scope rows

-- ---- unique fields

-- no row of another id has what only one may have
abbrev pub is_unique : Entity → RowLists → Bool
is_unique new rows = is_none (claimed new (Some (id_of_row new)) rows)

-- ---- commands

-- no route leads to a service that is to be deleted
abbrev pub is_unused : Kind → ℕ → RowLists → Bool
is_unused kind.Service id rows = not (list_any (λ route. route.service == id) rows.routes)
is_unused _ id rows = true

-- the rows stay consistent: an inserted id is new, an updated or deleted row is there, the rows that a
-- row names are there, what is unique stays so, and no route leads to a deleted service
abbrev pub is_consistent : RowLists → Command → Bool
is_consistent rows (Insert new) = not (has_row (kind_of new) (id_of_row new) rows) && has_named_rows new rows && is_unique new rows
is_consistent rows (Update new) = has_row (kind_of new) (id_of_row new) rows && has_named_rows new rows && is_unique new rows
is_consistent rows (Delete kind id) = has_row kind id rows && is_unused kind id rows

-- the kind of an inserted row has fewer rows than the limit
abbrev pub has_room : RowLists → Command → ℕ → Bool
has_room rows (Insert new) limit = nat_lt (count_of (kind_of new) rows) limit
has_room rows (Update new) limit = true
has_room rows (Delete kind id) limit = true

abbrev pub is_allowed : RowLists → Command → ℕ → Bool
is_allowed rows command limit = is_consistent rows command && has_room rows command limit

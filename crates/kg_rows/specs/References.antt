-- The rows that a row is to name: its parent, and those that its body names (Kong Admin API, references
-- between entities).
use Rattle.std.specs.Prelude.{ℕ, ◌==◌, Bool, true, false, not, ◌||◌, Option, Some, None, List, option_and_then, codes, if◌then◌else◌}
use Rattle.std.specs.Option.{option_map_or, option_or}
use Rattle.serde_json.specs.Data.{Data}
use Rattle.kg_row_types.specs.Entities.{id_of_row}
use Rattle.kg_row_types.specs.RowChanges.{has_row}
use Rattle.kg_row_types.specs.RowLists.{RowLists}
use Rattle.kg_row_types.specs.declared.entity.Entity.{Entity}
use Rattle.kg_row_types.specs.declared.entity.Entity.TheVariants as row
use Rattle.kg_row_types.specs.declared.entity.Kind.{Kind}
use Rattle.kg_row_types.specs.declared.entity.Kind.TheVariants as kind
use Rattle.kg_row_queries.specs.Selections.{row_with_word}
use Rattle.kg_rows.specs.declared.target.Target.{Target}
use Rattle.kg_rows.specs.declared.target.Target.TheVariants.{Unset, Missing, Row}
use Rattle.kg_rows.specs.declared.target.Targets.{Targets}
use Rattle.kg_row_queries.specs.declared.collection.Collection.{Collection}
use Rattle.kg_row_queries.specs.declared.collection.Collection.TheVariants.{Anywhere, Under}
use Rattle.kg_bodies.specs.Settings.{reference_at}
use Rattle.kg_row_making.specs.declared.base.Links.{Links}
use Rattle.kg_row_making.specs.declared.base.ParentField.{ParentField}
use Rattle.kg_row_making.specs.declared.base.ParentField.TheVariants as parent
use Rattle.kg_field_tables.specs.declared.reference.Mention.TheVariants as mention
use Rattle.kg_field_tables.specs.declared.reference.Reference.{Reference}
use Rattle.kg_field_tables.specs.declared.reference.Reference.TheVariants.{Id, Name}

-- ---- the parent

abbrev pub no_links : Links
no_links = record { service = None; route = None; consumer = None }

-- the reference by which a row stands under one of this kind and id
abbrev pub link_to : Kind → ℕ → Links
link_to kind.Service id = record { service = Some id; route = None; consumer = None }
link_to kind.Route id = record { service = None; route = Some id; consumer = None }
link_to kind.Consumer id = record { service = None; route = None; consumer = Some id }
link_to _ id = no_links

-- the reference to the parent, if there is one
abbrev pub link_of : Collection → Links
link_of Anywhere = no_links
link_of (Under kind id) = link_to kind id

-- ---- the references of a body

-- an id stands for itself, a name for the row that has it
abbrev pub target_of : Kind → RowLists → Reference → Target
target_of kind rows (Id id) = Row id
target_of kind rows (Name text) = option_map_or (λ found. Row (id_of_row found)) (row_with_word kind text rows) Missing

abbrev pub target_if_set : Kind → RowLists → Option Reference → Target
target_if_set kind rows reference = option_map_or (target_of kind rows) reference Unset

-- at what the references of a body point
abbrev pub targets_in : Data → RowLists → Targets
targets_in body rows = record {
  service = target_if_set kind.Service rows (reference_at mention.Name (codes "service") body);
  route = target_if_set kind.Route rows (reference_at mention.Name (codes "route") body);
  consumer = target_if_set kind.Consumer rows (reference_at mention.Username (codes "consumer") body);
}

-- the id by which a row names a target. The row's own id stands for a name that no row has: a row that
-- names so is refused.
abbrev pub target_id : ℕ → Target → Option ℕ
target_id own Unset = None
target_id own Missing = Some own
target_id own (Row id) = Some id

-- the parent's id, else the target's
abbrev pub linked : ℕ → Option ℕ → Target → Option ℕ
linked own None target = target_id own target
linked own (Some above) target = Some above

-- the rows that a row of this id is to name
abbrev pub links_in : ℕ → Links → Targets → Links
links_in own above targets = record {
  service = linked own above.service targets.service;
  route = linked own above.route targets.route;
  consumer = linked own above.consumer targets.consumer;
}

-- ---- references that can't be chosen

-- the consumer to whom a credential or a membership belongs
abbrev pub owner_of : Entity → Option ℕ
owner_of (row.Service service) = None
owner_of (row.Route route) = None
owner_of (row.Consumer consumer) = None
owner_of (row.KeyCred cred) = Some cred.consumer
owner_of (row.BasicCred cred) = Some cred.consumer
owner_of (row.Acl membership) = Some membership.consumer
owner_of (row.Plugin plugin) = None

-- the rows that a row must name: its parent, and the consumer of a present credential or membership
abbrev pub fixed_links : Links → Option Entity → Links
fixed_links above present = record above { consumer = option_or above.consumer (option_and_then owner_of present) }

-- the target is another row than the one that must be named
abbrev pub contradicts : Option ℕ → Target → Bool
contradicts None target = false
contradicts (Some fixed) Unset = false
contradicts (Some fixed) Missing = true
contradicts (Some fixed) (Row id) = not (id == fixed)

-- the field in which the body names another row than the one that it must name
abbrev pub contradicted_field : Links → Targets → Option ParentField
contradicted_field fixed targets =
    if contradicts fixed.consumer targets.consumer then Some parent.Consumer
    else (if contradicts fixed.route targets.route then Some parent.Route
    else (if contradicts fixed.service targets.service then Some parent.Service
    else None))

-- ---- rows that are named and aren't there

-- the rows that a row names
abbrev pub links_of : Entity → Links
links_of (row.Service service) = no_links
links_of (row.Route route) = record { service = Some route.service; route = None; consumer = None }
links_of (row.Consumer consumer) = no_links
links_of (row.KeyCred cred) = record { service = None; route = None; consumer = Some cred.consumer }
links_of (row.BasicCred cred) = record { service = None; route = None; consumer = Some cred.consumer }
links_of (row.Acl membership) = record { service = None; route = None; consumer = Some membership.consumer }
links_of (row.Plugin plugin) = record { service = plugin.scope.service; route = plugin.scope.route; consumer = plugin.scope.consumer }

-- no parent is told, and no row has the name
abbrev pub is_missing : Option ℕ → Target → Bool
is_missing None Missing = true
is_missing _ _ = false

-- what the finished row names isn't there
abbrev pub is_dangling : Kind → RowLists → Option ℕ → Target → Option ℕ → Bool
is_dangling kind rows above target None = false
is_dangling kind rows above target (Some id) = is_missing above target || not (has_row kind id rows)

-- the first such field in byte order
abbrev pub dangling_field : RowLists → Links → Targets → Links → Option (List ℕ)
dangling_field rows above targets named =
    if is_dangling kind.Consumer rows above.consumer targets.consumer named.consumer then Some (codes "consumer")
    else (if is_dangling kind.Route rows above.route targets.route named.route then Some (codes "route")
    else (if is_dangling kind.Service rows above.service targets.service named.service then Some (codes "service")
    else None))

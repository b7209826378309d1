-- Rows as they are named from outside: by id or by word, among all of a kind or among those of a parent.
use Rattle.std.specs.Prelude.{ℕ, Bool, ◌==◌, List, filter, find, Option, Some, None, option_map, option_and_then}
use Rattle.std.specs.Option.{option_or}
use Rattle.std.specs.Str.{bytes_eq}
use Rattle.kg_row_types.specs.Entities.{id_of_row}
use Rattle.kg_row_types.specs.Ids.{id_of}
use Rattle.kg_row_types.specs.Lookups.{service_named, route_named, consumer_with_username, cred_with_key, cred_with_username}
use Rattle.kg_row_types.specs.RowLists.{RowLists}
use Rattle.kg_row_types.specs.declared.entity.Entity.{Entity}
use Rattle.kg_row_types.specs.declared.entity.Entity.TheVariants as row
use Rattle.kg_row_types.specs.declared.entity.Kind.{Kind}
use Rattle.kg_row_types.specs.declared.entity.Kind.TheVariants as kind
use Rattle.kg_row_types.specs.declared.route.Route.{Route}
use Rattle.kg_tables.specs.References.{refers}
use Rattle.kg_row_queries.specs.declared.collection.Collection.{Collection}
use Rattle.kg_row_queries.specs.declared.collection.Collection.TheVariants.{Anywhere, Under}
use Rattle.kg_row_queries.specs.declared.select.Parent.{Parent}
use Rattle.kg_row_queries.specs.declared.select.Select.{Select}
use Rattle.kg_row_queries.specs.declared.select.Select.TheVariants.{Id, Word}

-- the row of this kind and id
abbrev pub row_with_id : Kind → ℕ → RowLists → Option Entity
row_with_id kind.Service id rows = option_map row.Service (find (λ r. r.id == id) rows.services)
row_with_id kind.Route id rows = option_map row.Route (find (λ r. r.id == id) rows.routes)
row_with_id kind.Consumer id rows = option_map row.Consumer (find (λ r. r.id == id) rows.consumers)
row_with_id kind.KeyCred id rows = option_map row.KeyCred (find (λ r. r.id == id) rows.key_creds)
row_with_id kind.BasicCred id rows = option_map row.BasicCred (find (λ r. r.id == id) rows.basic_creds)
row_with_id kind.Acl id rows = option_map row.Acl (find (λ r. r.id == id) rows.acls)
row_with_id kind.Plugin id rows = option_map row.Plugin (find (λ r. r.id == id) rows.plugins)

-- the key credential with this id, where the text tells one and such a row is there, else with this key
abbrev pub key_cred_of_word : List ℕ → RowLists → Option Entity
key_cred_of_word text rows =
    option_or (option_and_then (λ id. row_with_id kind.KeyCred id rows) (id_of text))
    (option_map row.KeyCred (cred_with_key text rows.key_creds))

-- the row of this kind with this name, username, key or group; plugins have none
abbrev pub row_with_word : Kind → List ℕ → RowLists → Option Entity
row_with_word kind.Service text rows = option_map row.Service (service_named text rows.services)
row_with_word kind.Route text rows = option_map row.Route (route_named text rows.routes)
row_with_word kind.Consumer text rows = option_map row.Consumer (consumer_with_username text rows.consumers)
row_with_word kind.KeyCred text rows = key_cred_of_word text rows
row_with_word kind.BasicCred text rows = option_map row.BasicCred (cred_with_username text rows.basic_creds)
row_with_word kind.Acl text rows = option_map row.Acl (find (λ r. bytes_eq r.group text) rows.acls)
row_with_word kind.Plugin text rows = None

abbrev pub selected : Kind → Select → RowLists → Option Entity
selected kind (Id id) rows = row_with_id kind id rows
selected kind (Word text) rows = row_with_word kind text rows

-- ---- rows under a parent

-- a route stands under its service
abbrev pub is_route_under : Kind → ℕ → Route → Bool
is_route_under kind id route = refers kind id (record { service = Some route.service; route = None; consumer = None })

-- what belongs to a consumer stands under it
abbrev pub is_owned_under : Kind → ℕ → ℕ → Bool
is_owned_under kind id consumer = refers kind id (record { service = None; route = None; consumer = Some consumer })

-- the rows that stand under a row: the routes and plugins of a service, the plugins of a route, the
-- credentials, groups and plugins of a consumer; services and consumers stand under none
abbrev pub rows_under : Kind → ℕ → RowLists → RowLists
rows_under kind id rows = record rows {
  routes = filter (is_route_under kind id) rows.routes;
  key_creds = filter (λ row. is_owned_under kind id row.consumer) rows.key_creds;
  basic_creds = filter (λ row. is_owned_under kind id row.consumer) rows.basic_creds;
  acls = filter (λ row. is_owned_under kind id row.consumer) rows.acls;
  plugins = filter (λ row. refers kind id row.scope) rows.plugins;
}

-- the id of a parent, if it is there
abbrev pub parent_id : Parent → RowLists → Option ℕ
parent_id parent rows = option_map id_of_row (selected parent.kind parent.select rows)

-- the rows among which one is asked for: those under its parent, which may be missing, or all
abbrev pub collection_of : Option Parent → RowLists → Option Collection
collection_of None rows = Some Anywhere
collection_of (Some parent) rows = option_map (Under parent.kind) (parent_id parent rows)

abbrev pub rows_in : Collection → RowLists → RowLists
rows_in Anywhere rows = rows
rows_in (Under kind id) rows = rows_under kind id rows

-- the row that is meant: none where the parent is missing
abbrev pub found : Kind → Option Parent → Select → RowLists → Option Entity
found kind parent select rows = option_and_then (λ collection. selected kind select (rows_in collection rows)) (collection_of parent rows)

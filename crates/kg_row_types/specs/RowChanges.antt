-- Single changes of the lists of rows, and what is asked of them by id.
use Rattle.std.specs.Prelude.{ℕ, Bool, false, not, ◌==◌, [], ◌∷◌, ◌++◌, filter, length, Option}
use Rattle.std.specs.List.{list_any}
use Rattle.std.specs.Option.{option_map_or}
use Rattle.kg_row_types.specs.RowLists.{RowLists}
use Rattle.kg_row_types.specs.Tables.{replaced}
use Rattle.kg_row_types.specs.declared.entity.Entity.{Entity}
use Rattle.kg_row_types.specs.declared.entity.Entity.TheVariants.{Service, Route, Consumer, KeyCred, BasicCred, Acl, Plugin}
use Rattle.kg_row_types.specs.declared.entity.Kind.{Kind}
use Rattle.kg_row_types.specs.declared.entity.Kind.TheVariants as kind
use Rattle.kg_row_types.specs.declared.plugin.PluginRow.{PluginRow}
use Rattle.kg_row_types.specs.declared.plugin.Scope.{Scope}

-- a row of this kind and id is there
abbrev pub has_row : Kind → ℕ → RowLists → Bool
has_row kind.Service id rows = list_any (λ row. row.id == id) rows.services
has_row kind.Route id rows = list_any (λ row. row.id == id) rows.routes
has_row kind.Consumer id rows = list_any (λ row. row.id == id) rows.consumers
has_row kind.KeyCred id rows = list_any (λ row. row.id == id) rows.key_creds
has_row kind.BasicCred id rows = list_any (λ row. row.id == id) rows.basic_creds
has_row kind.Acl id rows = list_any (λ row. row.id == id) rows.acls
has_row kind.Plugin id rows = list_any (λ row. row.id == id) rows.plugins

-- how many rows of this kind there are
abbrev pub count_of : Kind → RowLists → ℕ
count_of kind.Service rows = length rows.services
count_of kind.Route rows = length rows.routes
count_of kind.Consumer rows = length rows.consumers
count_of kind.KeyCred rows = length rows.key_creds
count_of kind.BasicCred rows = length rows.basic_creds
count_of kind.Acl rows = length rows.acls
count_of kind.Plugin rows = length rows.plugins

-- a row put at the end of the list of its kind
abbrev pub inserted : Entity → RowLists → RowLists
inserted (Service new) rows = record rows { services = rows.services ++ new ∷ [] }
inserted (Route new) rows = record rows { routes = rows.routes ++ new ∷ [] }
inserted (Consumer new) rows = record rows { consumers = rows.consumers ++ new ∷ [] }
inserted (KeyCred new) rows = record rows { key_creds = rows.key_creds ++ new ∷ [] }
inserted (BasicCred new) rows = record rows { basic_creds = rows.basic_creds ++ new ∷ [] }
inserted (Acl new) rows = record rows { acls = rows.acls ++ new ∷ [] }
inserted (Plugin new) rows = record rows { plugins = rows.plugins ++ new ∷ [] }

-- a row put in the place of the row of its kind and id
abbrev pub updated : Entity → RowLists → RowLists
updated (Service new) rows = record rows { services = replaced (λ row. row.id == new.id) new rows.services }
updated (Route new) rows = record rows { routes = replaced (λ row. row.id == new.id) new rows.routes }
updated (Consumer new) rows = record rows { consumers = replaced (λ row. row.id == new.id) new rows.consumers }
updated (KeyCred new) rows = record rows { key_creds = replaced (λ row. row.id == new.id) new rows.key_creds }
updated (BasicCred new) rows = record rows { basic_creds = replaced (λ row. row.id == new.id) new rows.basic_creds }
updated (Acl new) rows = record rows { acls = replaced (λ row. row.id == new.id) new rows.acls }
updated (Plugin new) rows = record rows { plugins = replaced (λ row. row.id == new.id) new rows.plugins }

-- the rows without those of this kind and id, and nothing else removed
abbrev pub removed : Kind → ℕ → RowLists → RowLists
removed kind.Service id rows = record rows { services = filter (λ row. not (row.id == id)) rows.services }
removed kind.Route id rows = record rows { routes = filter (λ row. not (row.id == id)) rows.routes }
removed kind.Consumer id rows = record rows { consumers = filter (λ row. not (row.id == id)) rows.consumers }
removed kind.KeyCred id rows = record rows { key_creds = filter (λ row. not (row.id == id)) rows.key_creds }
removed kind.BasicCred id rows = record rows { basic_creds = filter (λ row. not (row.id == id)) rows.basic_creds }
removed kind.Acl id rows = record rows { acls = filter (λ row. not (row.id == id)) rows.acls }
removed kind.Plugin id rows = record rows { plugins = filter (λ row. not (row.id == id)) rows.plugins }

-- a reference that is set to this id
abbrev pub refers_to : ℕ → Option ℕ → Bool
refers_to id reference = option_map_or (λ other. other == id) reference false

-- the scope names the row of this kind and id
abbrev pub names_part : Kind → ℕ → Scope → Bool
names_part kind.Service id scope = refers_to id scope.service
names_part kind.Route id scope = refers_to id scope.route
names_part kind.Consumer id scope = refers_to id scope.consumer
names_part _ id scope = false

abbrev pub names_row : Kind → ℕ → PluginRow → Bool
names_row kind id plugin = names_part kind id plugin.scope

-- the rows without the plugins whose scope names a row
abbrev pub without_plugins_of : Kind → ℕ → RowLists → RowLists
without_plugins_of kind id rows = record rows { plugins = filter (λ plugin. not (names_row kind id plugin)) rows.plugins }

-- the rows without the credentials and the groups of a consumer
abbrev pub without_credentials_of : ℕ → RowLists → RowLists
without_credentials_of id rows = record rows {
  key_creds = filter (λ row. not (row.consumer == id)) rows.key_creds;
  basic_creds = filter (λ row. not (row.consumer == id)) rows.basic_creds;
  acls = filter (λ row. not (row.consumer == id)) rows.acls;
}

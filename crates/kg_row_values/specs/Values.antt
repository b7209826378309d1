-- The values of keys and of generations, at given rows and at places of a history.
use Rattle.std.specs.Prelude.{ℕ, ◌==◌, List, map, filter, find}
use Rattle.kg_row_types.specs.Lookups.{cred_with_key, cred_with_username, named}
use Rattle.kg_row_types.specs.RowLists.{RowLists}
use Rattle.kg_row_types.specs.Values.{Generation, RouterRows, PluginRows}
use Rattle.kg_row_types.specs.declared.consumer.AclRow.{AclRow}
use Rattle.kg_row_types.specs.declared.key.GenKey.{GenKey}
use Rattle.kg_row_types.specs.declared.key.GenKey.TheVariants.{Router, Plugins}
use Rattle.kg_row_types.specs.declared.key.Key.{Key}
use Rattle.kg_row_types.specs.declared.key.Key.TheVariants as key
use Rattle.kg_row_types.specs.declared.value.Value.{Value}
use Rattle.kg_row_types.specs.declared.value.Value.TheVariants as value
use Rattle.kg_row_values.specs.ByteOrder.{in_byte_order}
use Rattle.kg_row_values.specs.Rows.{rows_after}
use Rattle.kg_row_values.specs.declared.command.Command.{Command}

-- the groups of a consumer, in byte order
abbrev pub groups_of : ℕ → List AclRow → List (List ℕ)
groups_of consumer acls = in_byte_order (map (λ row. row.group) (filter (λ row. row.consumer == consumer) acls))

-- the value of a key: a search of the rows
abbrev pub value_of : RowLists → Key → Value
value_of rows (key.Cred text) = value.Cred (cred_with_key text rows.key_creds)
value_of rows (key.Basic text) = value.Basic (cred_with_username text rows.basic_creds)
value_of rows (key.Consumer id) = value.Consumer (find (λ row. row.id == id) rows.consumers)
value_of rows (key.Named text) = value.Consumer (named text rows.consumers)
value_of rows (key.Acls id) = value.Acls (groups_of id rows.acls)

-- the services and the routes, or the plugin rows
abbrev pub generation_of : RowLists → GenKey → Generation
generation_of rows Router = RouterRows rows.services rows.routes
generation_of rows Plugins = PluginRows rows.plugins

-- the value of a key after a history
abbrev pub value_at : Key → List Command → Value
value_at k history = value_of (rows_after history) k

-- a generation after a history
abbrev pub generation_at : GenKey → List Command → Generation
generation_at g history = generation_of (rows_after history) g

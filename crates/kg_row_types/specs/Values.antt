-- The values of keys and of generations.
use Rattle.std.specs.Prelude.{Bool, true, false, ◌==◌, List, length, is_none}
use Rattle.kg_row_types.specs.declared.key.Key.{Key}
use Rattle.kg_row_types.specs.declared.key.Key.TheVariants as key
use Rattle.kg_row_types.specs.declared.plugin.PluginRow.{PluginRow}
use Rattle.kg_row_types.specs.declared.route.Route.{Route}
use Rattle.kg_row_types.specs.declared.service.Service.{Service}
use Rattle.kg_row_types.specs.declared.value.Value.{Value}
use Rattle.kg_row_types.specs.declared.value.Value.TheVariants.{Cred, Basic, Consumer, Acls}

-- no row, or no groups
abbrev pub is_no_value : Value → Bool
is_no_value (Cred found) = is_none found
is_no_value (Basic found) = is_none found
is_no_value (Consumer found) = is_none found
is_no_value (Acls groups) = length groups == 0

-- the value is of the variant that the key asks for
abbrev pub answers_key : Key → Value → Bool
answers_key (key.Cred text) (Cred found) = true
answers_key (key.Basic text) (Basic found) = true
answers_key (key.Consumer id) (Consumer found) = true
answers_key (key.Named text) (Consumer found) = true
answers_key (key.Acls id) (Acls groups) = true
answers_key _ _ = false

-- the rows of a generation: those that route requests, or those of plugins
pub data Generation : Type 0 where
  RouterRows : List Service → List Route → Generation
  PluginRows : List PluginRow → Generation

-- Machinery for proofs: the name and the scope of a plugin as a key. A plugin's priority stands for its name.
use Rattle.std.specs.Prelude.{ℕ, Bool, ◌&&◌, nat_eq, Option}
use Rattle.std.specs.Option.{option_eq}
use Rattle.kg_row_types.specs.PluginNames.{plugin_of, priority}
use Rattle.kg_row_types.specs.declared.plugin.PluginRow.{PluginRow}

abbrev pub Key : Type 0
Key = ℕ × Option ℕ × Option ℕ × Option ℕ

abbrev pub key_of : PluginRow → Key
key_of plugin = (priority (plugin_of plugin.config), plugin.scope.service, plugin.scope.route, plugin.scope.consumer)

abbrev pub key_eq : Key → Key → Bool
key_eq a b = ((nat_eq a.0 b.0 && option_eq nat_eq a.1 b.1) && option_eq nat_eq a.2 b.2) && option_eq nat_eq a.3 b.3

-- a plugin has the key
abbrev pub has_key : Key → PluginRow → Bool
has_key key plugin = key_eq (key_of plugin) key

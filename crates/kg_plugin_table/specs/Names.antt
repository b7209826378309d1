-- Machinery for proofs: which plugins have an enabled row. A plugin's priority stands for its name.
use Rattle.std.specs.Prelude.{◌≡◌, ◌==◌, ◌&&◌, ℕ, Bool, List}
use Rattle.std.specs.List.{list_any}
use Rattle.kg_row_types.specs.PluginNames.{plugin_of, priority}
use Rattle.kg_row_types.specs.declared.plugin.PluginName.{PluginName}
use Rattle.kg_row_types.specs.declared.plugin.PluginRow.{PluginRow}
use Rattle.kg_plugin_table.specs.declared.names.RowNames.{RowNames}

-- an enabled row of this plugin
abbrev pub is_row_of : PluginName → PluginRow → Bool
is_row_of name row = row.enabled && priority (plugin_of row.config) == priority name

abbrev pub has_priority : ℕ → RowNames → Bool
has_priority number names = list_any (λ one. one == number) names.priorities.items

-- of each plugin it is kept whether it has an enabled row
abbrev pub AreNames : List PluginRow → RowNames → Type 0
AreNames rows names = (name : PluginName) → has_priority (priority name) names ≡ list_any (is_row_of name) rows

-- Machinery for proofs: which ranks the scopes of a plugin's enabled rows have. A plugin's priority stands for its name.
use Rattle.std.specs.Prelude.{◌≡◌, ◌==◌, ◌&&◌, ℕ, Bool, List, is_some}
use Rattle.std.specs.List.{list_any}
use Rattle.kg_row_types.specs.PluginNames.{plugin_of, priority}
use Rattle.kg_row_types.specs.declared.plugin.PluginName.{PluginName}
use Rattle.kg_row_types.specs.declared.plugin.PluginRow.{PluginRow}
use Rattle.kg_row_types.specs.declared.plugin.Scope.{Scope}
use Rattle.kg_plugin_table.specs.Precedence.{rank}
use Rattle.kg_plugin_table.specs.declared.ranks.RowRanks.{RowRanks}

-- the precedence by which parts a scope sets
abbrev pub rank_of_scope : Scope → ℕ
rank_of_scope scope = rank (is_some scope.consumer) (is_some scope.route) (is_some scope.service)

-- an enabled row of this plugin whose scope has this rank
abbrev pub is_row_with : PluginName → ℕ → PluginRow → Bool
is_row_with name number row = row.enabled && (priority (plugin_of row.config) == priority name && rank_of_scope row.scope == number)

abbrev pub has_rank : ℕ → ℕ → RowRanks → Bool
has_rank number rank ranks = list_any (λ one. one.0 == number && one.1 == rank) ranks.ranks.items

-- of each plugin and rank it is kept whether it has such a row
abbrev pub AreRanks : List PluginRow → RowRanks → Type 0
AreRanks rows ranks = (name : PluginName) (rank : ℕ) → has_rank (priority name) rank ranks ≡ list_any (is_row_with name rank) rows

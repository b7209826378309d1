-- A plugin without an enabled row of a rank has none that runs with it.
use Rattle.std.proofs.Common.{◌≡◌, ℕ, Bool, true, false, cond, ◌&&◌, ◌==◌, List, Some, None, nat_eq, refl, sym, ap, ◌∙◌}
use Rattle.std.specs.Option.{option_eq}
use Rattle.kg_row_types.specs.PluginNames.{plugin_of, priority}
use Rattle.kg_row_types.specs.declared.plugin.PluginName.{PluginName}
use Rattle.kg_row_types.specs.declared.plugin.PluginRow.{PluginRow}
use Rattle.kg_row_types.specs.declared.plugin.Scope.{Scope}
use Rattle.kg_plugin_table.specs.Precedence.{precedence_of, row_with, runs_with, scope_fits}
use Rattle.kg_plugin_table.specs.Ranks.{AreRanks, has_rank, is_row_with, rank_of_scope}
use Rattle.kg_plugin_table.specs.declared.ranks.RowRanks.{RowRanks}
use Rattle.kg_plugin_table.proofs.KeyLemmas.{same_names}
use Rattle.kg_plugin_table.proofs.PlaceLemmas.{find_nothing}

-- a scope that fits has its rank as its precedence
precedence_is : (fits : Bool) (rank number : ℕ) → option_eq nat_eq (cond fits (Some rank) None) (Some number) ≡ cond fits (nat_eq rank number) false
precedence_is true rank number = refl
precedence_is false rank number = refl

fewer : (enabled named fits ranked : Bool) → (enabled && (named && ranked)) ≡ false → ((enabled && named) && cond fits ranked false) ≡ false
fewer false named fits ranked none = refl
fewer true false fits ranked none = refl
fewer true true true ranked none = none
fewer true true false ranked none = refl

pub none_with : (rows : List PluginRow) (ranks : RowRanks) (name : PluginName) (request : Scope) (number : ℕ) → AreRanks rows ranks
    → has_rank (priority name) number ranks ≡ false → row_with rows name request number ≡ None
none_with rows ranks name request number are none =
    find_nothing (runs_with name request number) (is_row_with name number) weaker rows (sym (are name number) ∙ none)
  where
    weaker : (row : PluginRow) → is_row_with name number row ≡ false → runs_with name request number row ≡ false
    weaker row other =
        ap (λ named. (row.enabled && named) && option_eq nat_eq (precedence_of row.scope request) (Some number)) (sym (same_names (plugin_of row.config) name))
        ∙ ap (λ ranked. (row.enabled && (priority (plugin_of row.config) == priority name)) && ranked) (precedence_is (scope_fits row.scope request) (rank_of_scope row.scope) number)
        ∙ fewer row.enabled (priority (plugin_of row.config) == priority name) (scope_fits row.scope request) (nat_eq (rank_of_scope row.scope) number) other

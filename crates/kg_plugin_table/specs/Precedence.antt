-- Which of a plugin's rows runs for a request: the one that is tied most closely to it (Kong Gateway manual,
-- "Plugin precedence", without consumer groups).
use Rattle.std.specs.Prelude.{ℕ, Bool, true, false, ◌&&◌, nat_eq, List, [], ◌∷◌, Option, Some, None, is_some, find, if◌then◌else◌}
use Rattle.std.specs.Option.{option_eq, option_or}
use Rattle.kg_row_types.specs.PluginNames.{plugin_of, same_plugin}
use Rattle.kg_row_types.specs.RowChanges.{refers_to}
use Rattle.kg_row_types.specs.declared.plugin.PluginName.{PluginName}
use Rattle.kg_row_types.specs.declared.plugin.PluginRow.{PluginRow}
use Rattle.kg_row_types.specs.declared.plugin.Scope.{Scope}

-- ---- the precedence of a scope

-- a part of a scope that isn't set fits every request, and one that is set the requests of that id
abbrev pub part_fits : Option ℕ → Option ℕ → Bool
part_fits None known = true
part_fits (Some id) known = refers_to id known

-- each part that is set is the request's own
abbrev pub scope_fits : Scope → Scope → Bool
scope_fits scope request =
    part_fits scope.consumer request.consumer && part_fits scope.route request.route && part_fits scope.service request.service

-- the precedence by which of consumer, route and service are set: 1 is the closest tie
abbrev pub rank : Bool → Bool → Bool → ℕ
rank true true true = 1
rank true true false = 2
rank true false true = 3
rank false true true = 4
rank true false false = 5
rank false true false = 6
rank false false true = 7
rank false false false = 8

abbrev pub precedences : List ℕ
precedences = 1 ∷ 2 ∷ 3 ∷ 4 ∷ 5 ∷ 6 ∷ 7 ∷ 8 ∷ []

-- the precedence of a scope for a request; none where it doesn't fit
abbrev pub precedence_of : Scope → Scope → Option ℕ
precedence_of scope request =
    if scope_fits scope request then Some (rank (is_some scope.consumer) (is_some scope.route) (is_some scope.service)) else None

-- ---- the row that runs

-- an enabled row of the plugin that has this precedence for the request
abbrev pub runs_with : PluginName → Scope → ℕ → PluginRow → Bool
runs_with name request precedence row =
    row.enabled && same_plugin (plugin_of row.config) name && option_eq nat_eq (precedence_of row.scope request) (Some precedence)

-- the first of these rows
abbrev pub row_with : List PluginRow → PluginName → Scope → ℕ → Option PluginRow
row_with rows name request precedence = find (runs_with name request precedence) rows

-- the first that is found
abbrev pub first_found : {X Y : Type 0} → (X → Option Y) → List X → Option Y
first_found search [] = None
first_found search (x ∷ xs) = option_or (search x) (first_found search xs)

-- the row of the plugin that runs for the request, where one does: the one of the least precedence
abbrev pub chosen_row : List PluginRow → PluginName → Scope → Option PluginRow
chosen_row rows name request = first_found (row_with rows name request) precedences

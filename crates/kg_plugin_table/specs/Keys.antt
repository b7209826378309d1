-- Machinery for proofs: the enabled rows by their name and scope. A plugin's priority stands for its name.
use Rattle.std.specs.Prelude.{◌≡◌, ℕ, Bool, true, false, ◌&&◌, nat_eq, List, Option, Some, None}
use Rattle.std.specs.List.{position}
use Rattle.std.specs.Option.{option_eq}
use Rattle.indexmap.specs.IndexMap.{get}
use Rattle.kg_row_types.specs.PluginNames.{plugin_of, priority}
use Rattle.kg_row_types.specs.declared.plugin.PluginName.{PluginName}
use Rattle.kg_row_types.specs.declared.plugin.PluginRow.{PluginRow}
use Rattle.kg_row_types.specs.declared.plugin.Scope.{Scope}
use Rattle.kg_plugin_table.specs.Precedence.{rank}
use Rattle.kg_plugin_table.specs.declared.places.RowPlaces.{RowPlaces}
use Rattle.kg_plugin_table.specs.declared.precedence.Parts.{Parts}

-- the priority, the consumer, the route and the service
abbrev pub Key : Type 0
Key = ℕ × Option ℕ × Option ℕ × Option ℕ

abbrev pub key_of : PluginName → Scope → Key
key_of name scope = (priority name, scope.consumer, scope.route, scope.service)

abbrev pub key_eq : Key → Key → Bool
key_eq a b = ((nat_eq a.0 b.0 && option_eq nat_eq a.1 b.1) && option_eq nat_eq a.2 b.2) && option_eq nat_eq a.3 b.3

-- an enabled row with this key
abbrev pub has_key : Key → PluginRow → Bool
has_key key row = row.enabled && key_eq (key_of (plugin_of row.config) row.scope) key

-- what is kept of a key
abbrev pub place_in : RowPlaces → Key → Option ℕ
place_in places key = get key_eq places.by_key key

-- of each key it is the place of the first enabled row that has it
abbrev pub ArePlaces : List PluginRow → RowPlaces → Type 0
ArePlaces rows places = (key : Key) → place_in places key ≡ position (has_key key) rows

-- ---- one precedence: the scope of the request's own parts

-- the precedence of the scopes that set these parts
abbrev pub rank_of : Parts → ℕ
rank_of these = rank these.consumer these.route these.service

-- the request's part where it is to be set, if it is known
abbrev pub kept_part : Bool → Option ℕ → Option (Option ℕ)
kept_part false known = Some None
kept_part true None = None
kept_part true (Some id) = Some (Some id)

-- the scope of these parts, if each is known
abbrev pub with_parts : Option (Option ℕ) → Option (Option ℕ) → Option (Option ℕ) → Option Scope
with_parts (Some consumer) (Some route) (Some service) = Some (record { service = service; route = route; consumer = consumer })
with_parts _ _ _ = None

-- the only scope that sets just these parts and fits the request, where there is one
abbrev pub scope_with : Parts → Scope → Option Scope
scope_with these request =
    with_parts (kept_part these.consumer request.consumer) (kept_part these.route request.route) (kept_part these.service request.service)

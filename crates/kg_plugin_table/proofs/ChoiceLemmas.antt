-- A row is chosen by its key.
use Rattle.std.proofs.Common.{◌≡◌, ℕ, false, ◌&&◌, List, [], ◌∷◌, Option, Some, None, find, nat_eq, option_and_then, refl, sym, ap, subst, ◌∙◌}
use Rattle.std.specs.List.{list_any}
use Rattle.std.specs.Option.{option_eq, option_map_or, option_or}
use Rattle.kg_row_types.specs.PluginNames.{plugin_of, priority}
use Rattle.kg_row_types.specs.declared.plugin.PluginName.{PluginName}
use Rattle.kg_row_types.specs.declared.plugin.PluginRow.{PluginRow}
use Rattle.kg_row_types.specs.declared.plugin.Scope.{Scope}
use Rattle.kg_plugin_table.specs.Keys.{ArePlaces, Key, has_key, key_of, place_in, rank_of, scope_with}
use Rattle.kg_plugin_table.specs.Names.{AreNames, has_priority, is_row_of}
use Rattle.kg_plugin_table.specs.PluginRows.{IsPlaceOf}
use Rattle.kg_plugin_table.specs.Precedence.{chosen_row, first_found, precedence_of, precedences, row_with, runs_with}
use Rattle.kg_plugin_table.specs.declared.names.RowNames.{RowNames}
use Rattle.kg_plugin_table.specs.declared.places.RowPlaces.{RowPlaces}
use Rattle.kg_plugin_table.specs.declared.precedence.Parts.{Parts}
use Rattle.kg_plugin_table.proofs.KeyLemmas.{runs_by_key, same_names}
use Rattle.kg_plugin_table.proofs.PlaceLemmas.{find_alike, find_nothing, place_of_first}

-- ---- one precedence

find_false : {A : Type 0} (xs : List A) → find (λ x. false) xs ≡ None
find_false [] = refl
find_false (x ∷ xs) = find_false xs

-- the row of a precedence is the first with the key of the request's scope of its parts
pub row_by_key : (rows : List PluginRow) (name : PluginName) (request : Scope) (these : Parts)
    → row_with rows name request (rank_of these) ≡ option_and_then (λ exact. find (has_key (key_of name exact)) rows) (scope_with these request)
row_by_key rows name request these =
    find_alike (runs_with name request (rank_of these)) (λ row. option_map_or (λ exact. has_key (key_of name exact) row) (scope_with these request) false)
    (runs_by_key name request these) rows
    ∙ by_scope (scope_with these request)
  where
    by_scope : (found : Option Scope) → find (λ row. option_map_or (λ exact. has_key (key_of name exact) row) found false) rows
        ≡ option_and_then (λ exact. find (has_key (key_of name exact)) rows) found
    by_scope None = find_false rows
    by_scope (Some exact) = refl

-- it stands where its key leads
pub place_of_key : (rows : List PluginRow) (places : RowPlaces) (key : Key) → ArePlaces rows places → IsPlaceOf rows (find (has_key key) rows) (place_in places key)
place_of_key rows places key are = subst (IsPlaceOf rows (find (has_key key) rows)) (sym (are key)) (place_of_first (has_key key) rows)

-- ---- all of them

-- a plugin without an enabled row has none of any precedence
none_of : (rows : List PluginRow) (name : PluginName) (request : Scope) → list_any (is_row_of name) rows ≡ false → (among : List ℕ)
    → first_found (row_with rows name request) among ≡ None
none_of rows name request none [] = refl
none_of rows name request none (precedence ∷ among) =
    ap (λ found. option_or found (first_found (row_with rows name request) among))
    (find_nothing (runs_with name request precedence) (is_row_of name) weaker rows none)
    ∙ none_of rows name request none among
  where
    weaker : (row : PluginRow) → is_row_of name row ≡ false → runs_with name request precedence row ≡ false
    weaker row other =
        ap (λ t. t && option_eq nat_eq (precedence_of row.scope request) (Some precedence))
        (sym (ap (λ t. row.enabled && t) (same_names (plugin_of row.config) name)) ∙ other)

pub none_chosen : (rows : List PluginRow) (names : RowNames) (name : PluginName) (request : Scope) → AreNames rows names
    → has_priority (priority name) names ≡ false → chosen_row rows name request ≡ None
none_chosen rows names name request are none = none_of rows name request (sym (are name) ∙ none) precedences

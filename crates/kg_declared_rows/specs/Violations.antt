-- What is wrong with the declaration's object itself (Kong Gateway manual, declarative configuration).
-- Which members it takes is this project's own.
use Rattle.std.specs.Prelude.{ℕ, Bool, false, not, List, [], ◌∷◌, ◌++◌, Option, Some, None, is_none, is_some, option_map, option_and_then, codes, if◌then◌else◌}
use Rattle.std.specs.List.{list_any}
use Rattle.std.specs.Option.{option_map_or}
use Rattle.std.specs.Str.{bytes_eq}
use Rattle.serde_json.specs.Data.{Data, Items, no_items, item, Members, no_members, member}
use Rattle.serde_json.specs.Find.{as_array, as_null, as_object, as_str, get_member}
use Rattle.kg_field_tables.specs.BrokenRules.{told}
use Rattle.kg_field_rules.specs.Rules.{BrokenRule}
use Rattle.kg_field_rules.specs.declared.rule.Rule.{Rule}
use Rattle.kg_field_rules.specs.declared.rule.Rule.TheVariants.{Required, Unknown, WrongType, OneOf}

-- ---- lists of rows

-- the members of each object of a list, if each item is an object
abbrev pub each_object : Items → Option (List Members)
each_object no_items = Some []
each_object (item first rest) = option_and_then (λ members. option_map (λ more. members ∷ more) (each_object rest)) (as_object first)

-- the rows that a value lists: null lists none
abbrev pub rows_in : Data → Option (List Members)
rows_in value = if is_some (as_null value) then Some [] else option_and_then each_object (as_array value)

-- the rows that a member lists: none where it is missing
abbrev pub rows_at : List ℕ → Members → Option (List Members)
rows_at name members = option_map_or rows_in (get_member name members) (Some [])

-- ---- the members of the declaration

abbrev pub is_one_of : List (List ℕ) → List ℕ → Bool
is_one_of texts text = list_any (bytes_eq text) texts

abbrev pub versions : List (List ℕ)
versions = codes "1.1" ∷ codes "2.1" ∷ codes "3.0" ∷ []

abbrev pub dropped_names : List (List ℕ)
dropped_names = codes "_transform" ∷ codes "_info" ∷ codes "_comment" ∷ []

abbrev pub list_names : List (List ℕ)
list_names =
    codes "services" ∷ codes "routes" ∷ codes "consumers" ∷ codes "keyauth_credentials"
    ∷ codes "basicauth_credentials" ∷ codes "acls" ∷ codes "plugins" ∷ []

-- the version of the format is a text; that it has to be set is said below
abbrev pub version_rule : Data → Option Rule
version_rule value =
    if is_some (as_null value) then None
    else option_map_or (λ text. if is_one_of versions text then None else Some OneOf) (as_str value) (Some WrongType)

abbrev pub list_rule : Data → Option Rule
list_rule value = if is_none (rows_in value) then Some WrongType else None

-- the rule that a member breaks
abbrev pub member_rule : List ℕ → Data → Option Rule
member_rule name value =
    if bytes_eq name (codes "_format_version") then version_rule value
    else (if is_one_of dropped_names name then None
    else (if is_one_of list_names name then list_rule value else Some Unknown))

abbrev pub member_violations : Members → List BrokenRule
member_violations no_members = []
member_violations (member name value rest) = told name (member_rule name value) ++ member_violations rest

-- the version is there, and isn't null
abbrev pub has_version : Members → Bool
has_version members = option_map_or (λ value. not (is_some (as_null value))) (get_member (codes "_format_version") members) false

abbrev pub version_violations : Members → List BrokenRule
version_violations members = if has_version members then [] else (codes "_format_version", Required) ∷ []

abbrev pub own_violations : Members → List BrokenRule
own_violations members = member_violations members ++ version_violations members

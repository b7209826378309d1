-- The order of routes (Kong Gateway manual, "How Kong matches requests"; which comparison weighs more
-- is this project's own).
use Rattle.std.specs.Prelude.{ℕ, ◌-◌, max, ℤ, pos, Bool, List, [], ◌∷◌, map, length, count_by, fold, if◌then◌else◌}
use Rattle.std.specs.List.{list_any}
use Rattle.std.specs.declared.cmp.Ordering.{Ordering}
use Rattle.std.specs.declared.cmp.Ordering.TheVariants.{Equal}
use Rattle.std.specs.Ordering.{ordering_then, is_lt, nat_cmp, int_cmp, bool_cmp}
use Rattle.kg_row_types.specs.TextForms.{is_regex_path, is_set}
use Rattle.kg_row_types.specs.declared.route.Route.{Route}
use Rattle.kg_match.specs.RoutePaths.{has_regex_path}
use Rattle.kg_match.specs.Wildcards.{is_wildcard}

-- how many of methods, hosts, headers and paths are set
abbrev pub attribute_count : Route → ℕ
attribute_count route = count_by (λ set. set) (is_set route.methods ∷ is_set route.hosts ∷ is_set route.headers ∷ is_set route.paths ∷ [])

-- one of the hosts is a wildcard
abbrev pub has_wildcard_host : Route → Bool
has_wildcard_host route = list_any is_wildcard route.hosts

-- the priority of the regex paths, and 0 where the route has none
abbrev pub regex_priority_of : Route → ℤ
regex_priority_of route = if has_regex_path route then route.regex_priority else pos 0

-- the bytes of a path, without the `~`
abbrev pub path_len : List ℕ → ℕ
path_len path = if is_regex_path path then length path - 1 else length path

-- the longest path, and 0 where there is none
abbrev pub longest_path_len : Route → ℕ
longest_path_len route = fold max 0 (map path_len route.paths)

-- Comparisons of two by a key or a test: `Less` says that the first of them comes first.

-- the one with the smaller number comes first
abbrev pub smaller_first : {A : Type 0} → (A → ℕ) → A → A → Ordering
smaller_first key a b = nat_cmp (key a) (key b)

-- the one with the larger number comes first
abbrev pub larger_first : {A : Type 0} → (A → ℕ) → A → A → Ordering
larger_first key a b = nat_cmp (key b) (key a)

-- the one with the larger signed number comes first
abbrev pub higher_first : {A : Type 0} → (A → ℤ) → A → A → Ordering
higher_first key a b = int_cmp (key b) (key a)

-- the one that passes the test comes first
abbrev pub with_first : {A : Type 0} → (A → Bool) → A → A → Ordering
with_first test a b = bool_cmp (test b) (test a)

-- the one that fails the test comes first
abbrev pub without_first : {A : Type 0} → (A → Bool) → A → A → Ordering
without_first test a b = bool_cmp (test a) (test b)

-- what the first of the comparisons says that tells the two apart
abbrev pub lexicographic : {A : Type 0} → List (A → A → Ordering) → A → A → Ordering
lexicographic [] a b = Equal
lexicographic (compare ∷ rest) a b = ordering_then (compare a b) (lexicographic rest a b)

-- the comparisons of two routes, from the one that weighs most on
abbrev pub route_comparisons : List (Route → Route → Ordering)
route_comparisons =
    larger_first attribute_count
    ∷ without_first has_wildcard_host
    ∷ larger_first (λ route. length route.headers)
    ∷ with_first has_regex_path
    ∷ higher_first regex_priority_of
    ∷ larger_first longest_path_len
    ∷ smaller_first (λ route. route.created_at)
    ∷ smaller_first (λ route. route.id)
    ∷ []

-- `Less` where the first route comes before the second
unfoldable pub route_cmp : Route → Route → Ordering
route_cmp = lexicographic route_comparisons

-- the first route comes before the second
abbrev pub is_before : Route → Route → Bool
is_before a b = is_lt (route_cmp a b)

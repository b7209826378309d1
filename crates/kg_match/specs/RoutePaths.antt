-- The paths of a route: prefixes in normal form, and patterns after a `~` (Kong Gateway manual, "How
-- Kong matches requests"). That a pattern must match at the path's first byte is this project's own.
use Rattle.std.specs.Prelude.{ℕ, max, Bool, not, ◌&&◌, ◌==◌, List, [], ◌∷◌, map, filter, length, drop, nat_eq, Option, Some, None, is_some, option_and_then, if◌then◌else◌}
use Rattle.std.specs.List.{list_any, starts_with, reduce, position}
use Rattle.std.specs.Option.{option_or, unwrap_or}
use Rattle.kg_row_types.specs.Patterns.{is_pattern, first_match}
use Rattle.kg_row_types.specs.TextForms.{is_regex_path}
use Rattle.kg_row_types.specs.declared.route.Route.{Route}
use Rattle.kg_match.specs.Attributes.{fits_where}

-- one of the paths is a regular expression
abbrev pub has_regex_path : Route → Bool
has_regex_path route = list_any is_regex_path route.paths

-- its pattern stands after the `~`
abbrev pub pattern_text : List ℕ → List ℕ
pattern_text path = drop 1 path

-- how many bytes the first match takes, where it begins at the path's first byte
abbrev pub pattern_cut : List ℕ → List ℕ → Option ℕ
pattern_cut pattern path = option_and_then (λ found. if found.0 == 0 then Some found.1 else None) (first_match pattern path)

-- a plain path that is a prefix
abbrev pub is_prefix : List ℕ → List ℕ → Bool
is_prefix path wanted = not (is_regex_path wanted) && starts_with nat_eq path wanted

-- a route's path fits a request's
abbrev pub path_fits : List ℕ → List ℕ → Bool
path_fits path wanted =
    if is_regex_path wanted then is_some (pattern_cut (pattern_text wanted) path) else starts_with nat_eq path wanted

-- the patterns of the regex paths, in order
abbrev pub patterns_of : List (List ℕ) → List (List ℕ)
patterns_of paths = map pattern_text (filter is_regex_path paths)

-- how many bytes the first pattern takes that fits
abbrev pub first_cut : List ℕ → List (List ℕ) → Option ℕ
first_cut path [] = None
first_cut path (pattern ∷ rest) = option_or (pattern_cut pattern path) (first_cut path rest)

-- how many bytes the longest prefix has
abbrev pub longest_prefix : List ℕ → List (List ℕ) → Option ℕ
longest_prefix path paths = reduce max (map length (filter (is_prefix path) paths))

-- how many bytes of a request's path a route's paths take: what the first pattern takes that fits,
-- else the longest prefix, else none
abbrev pub path_cut : List (List ℕ) → List ℕ → ℕ
path_cut paths path = unwrap_or (option_or (first_cut path (patterns_of paths)) (longest_prefix path paths)) 0

-- those bytes, where no paths are set or one of them fits
abbrev pub cut_where_fits : List (List ℕ) → List ℕ → Option ℕ
cut_where_fits paths path = if fits_where (path_fits path) paths then Some (path_cut paths path) else None

-- a regex path whose pattern is none
abbrev pub has_bad_pattern : List ℕ → Bool
has_bad_pattern path = is_regex_path path && not (is_pattern (pattern_text path))

-- the place of the first such path
abbrev pub bad_pattern_of : List (List ℕ) → Option ℕ
bad_pattern_of paths = position has_bad_pattern paths

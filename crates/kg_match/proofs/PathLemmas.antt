-- Which paths fit, and how many bytes they take.
use Rattle.std.proofs.Common.{◌≡◌, ◌≢◌, ℕ, Bool, true, false, cond, not, ◌&&◌, ◌||◌, max, List, [], ◌∷◌, map, filter, length, Option, Some, None, is_some, refl, ap, ◌∙◌, nat_eq}
use Rattle.std.specs.List.{list_any, reduce, starts_with}
use Rattle.std.specs.Option.{option_or, unwrap_or}
use Rattle.kg_row_types.specs.TextForms.{is_regex_path}
use Rattle.kg_match.specs.RoutePaths.{pattern_text, pattern_cut, is_prefix, path_fits, patterns_of, first_cut, longest_prefix, path_cut}

or_assoc : (a b c : Bool) → ((a || b) || c) ≡ (a || (b || c))
or_assoc true b c = refl
or_assoc false b c = refl

or_swap : (a b c : Bool) → (a || (b || c)) ≡ (b || (a || c))
or_swap true true c = refl
or_swap true false c = refl
or_swap false b c = refl

is_some-or : (a b : Option ℕ) → is_some (option_or a b) ≡ (is_some a || is_some b)
is_some-or None b = refl
is_some-or (Some cut) b = refl

-- there is a longest prefix exactly where there is a prefix
longest-some : (path : List ℕ) (paths : List (List ℕ)) → is_some (longest_prefix path paths) ≡ list_any (is_prefix path) paths
longest-some path [] = refl
longest-some path (wanted ∷ rest) = by_test (is_prefix path wanted) (longest-some path rest)
  where
    by_test : (passes : Bool) → is_some (longest_prefix path rest) ≡ list_any (is_prefix path) rest → is_some (reduce max (map length (cond passes (wanted ∷ filter (is_prefix path) rest) (filter (is_prefix path) rest)))) ≡ (passes || list_any (is_prefix path) rest)
    by_test true later = refl
    by_test false later = later

-- a path fits exactly where a pattern takes something or there is a prefix
one_fits : (path : List ℕ) (paths : List (List ℕ)) → (is_some (first_cut path (patterns_of paths)) || list_any (is_prefix path) paths) ≡ list_any (path_fits path) paths
one_fits path [] = refl
one_fits path (wanted ∷ rest) = by_regex (is_regex_path wanted) (one_fits path rest)
  where
    by_regex : (regex : Bool) → (is_some (first_cut path (patterns_of rest)) || list_any (is_prefix path) rest) ≡ list_any (path_fits path) rest → (is_some (first_cut path (map pattern_text (cond regex (wanted ∷ filter is_regex_path rest) (filter is_regex_path rest)))) || ((not regex && starts_with nat_eq path wanted) || list_any (is_prefix path) rest)) ≡ (cond regex (is_some (pattern_cut (pattern_text wanted) path)) (starts_with nat_eq path wanted) || list_any (path_fits path) rest)
    by_regex true later =
        let own = pattern_cut (pattern_text wanted) path in
        let more = first_cut path (patterns_of rest) in
        ap (λ some. some || list_any (is_prefix path) rest) (is_some-or own more)
        ∙ or_assoc (is_some own) (is_some more) (list_any (is_prefix path) rest)
        ∙ ap (λ fits. is_some own || fits) later
    by_regex false later =
        or_swap (is_some (first_cut path (patterns_of rest))) (starts_with nat_eq path wanted) (list_any (is_prefix path) rest)
        ∙ ap (λ fits. starts_with nat_eq path wanted || fits) later

some_or_none : (cut : Option ℕ) → cut ≡ cond (is_some cut) (Some (unwrap_or cut 0)) None
some_or_none None = refl
some_or_none (Some cut) = refl

-- what is taken, where a path fits
pub taken : (path : List ℕ) (paths : List (List ℕ)) → option_or (first_cut path (patterns_of paths)) (longest_prefix path paths) ≡ cond (list_any (path_fits path) paths) (Some (path_cut paths path)) None
taken path paths =
    let first = first_cut path (patterns_of paths) in
    let longest = longest_prefix path paths in
    let fits : is_some (option_or first longest) ≡ list_any (path_fits path) paths =
    is_some-or first longest ∙ ap (λ some. is_some first || some) (longest-some path paths) ∙ one_fits path paths in
    some_or_none (option_or first longest) ∙ ap (λ some. cond some (Some (path_cut paths path)) None) fits

-- where there is a pattern, a path is a regular expression
pub some_pattern : (paths : List (List ℕ)) → patterns_of paths ≢ [] → list_any is_regex_path paths ≡ true
some_pattern [] some = absurd (some refl)
some_pattern (path ∷ rest) some = by_regex (is_regex_path path) some (some_pattern rest)
  where
    by_regex : (regex : Bool) → map pattern_text (cond regex (path ∷ filter is_regex_path rest) (filter is_regex_path rest)) ≢ [] → (patterns_of rest ≢ [] → list_any is_regex_path rest ≡ true) → (regex || list_any is_regex_path rest) ≡ true
    by_regex true some later = refl
    by_regex false some later = later some

-- The patterns of paths, path by path.
use Rattle.std.proofs.Common.{◌≡◌, ◌≢◌, ◌<◌, ℕ, Bool, true, false, cond, not, ◌&&◌, List, [], ◌∷◌, ◌++◌, map, filter, length, get_or, Option, Some, None, MatchOption, Bor, nat_eq, nat_lt, refl, sym, ap, ◌∙◌, true≢false, arith}
use Rattle.std.specs.List.{position}
use Rattle.std.proofs.lemmas.List.{map-append}
use Rattle.std.proofs.lemmas.List.Elements.{filter-append}
use Rattle.std.proofs.lemmas.List.Sums.{position_or_len_is}
use Rattle.kg_row_types.specs.TextForms.{is_regex_path}
use Rattle.kg_match.specs.RoutePaths.{pattern_text, patterns_of}

-- what a `~` is stripped of
pub stripped : (path : List ℕ) (rest : Option (Bor (List ℕ))) → MatchOption rest ((text : List ℕ) → path ≢ 126 ∷ text) (λ text. path ≡ 126 ∷ text.now) → MatchOption rest (is_regex_path path ≡ false) (λ text. path ≡ 126 ∷ text.now)
stripped path None none = by_path path none
  where
    equal : (first : ℕ) → nat_eq 126 first ≡ true → 126 ≡ first
    equal first is = grind arith

    by_first : (first : ℕ) (text : List ℕ) → ((other : List ℕ) → (first ∷ text) ≢ 126 ∷ other) → (same : Bool) → nat_eq 126 first ≡ same → (same && true) ≡ false
    by_first first text none true is = absurd (none text (ap (λ b. b ∷ text) (sym (equal first is))))
    by_first first text none false is = refl

    by_path : (path : List ℕ) → ((text : List ℕ) → path ≢ 126 ∷ text) → is_regex_path path ≡ false
    by_path [] none = refl
    by_path (first ∷ text) none = by_first first text none (nat_eq 126 first) refl
stripped path (Some text) is = is

-- one more path at the end
pub patterns_of-push : (front : List (List ℕ)) (path : List ℕ) → patterns_of (front ++ path ∷ []) ≡ patterns_of front ++ patterns_of (path ∷ [])
patterns_of-push front path = ap (map pattern_text) (filter-append is_regex_path front (path ∷ [])) ∙ map-append pattern_text (filter is_regex_path front) (filter is_regex_path (path ∷ []))

-- the first member that passes stands here
pub position-first : {A : Type 0} (test : A → Bool) (xs : List A) (at : ℕ) (d : A) → at < length xs → ((k : ℕ) → k < at → test (get_or xs k d) ≡ false) → test (get_or xs at d) ≡ true → position test xs ≡ Some at
position-first test xs at d within before here =
    let is = position_or_len_is test xs at d (omega (arith, within)) before (λ _. here) in
    (λ i. cond (nat_lt (is i) (length xs)) (Some (is i)) None) ∙ ap (λ b. cond b (Some at) None) (below at (length xs) within)
  where
    below : (m n : ℕ) → m < n → nat_lt m n ≡ true
    below m n less = grind arith

-- none passes
pub position-none : {A : Type 0} (test : A → Bool) (xs : List A) (d : A) → ((k : ℕ) → k < length xs → test (get_or xs k d) ≡ false) → position test xs ≡ None
position-none test xs d none =
    let is = position_or_len_is test xs (length xs) d (omega arith) none (λ within. absurd (omega (arith, within))) in
    (λ i. cond (nat_lt (is i) (length xs)) (Some (is i)) None) ∙ ap (λ b. cond b (Some (length xs)) None) (level (length xs))
  where
    level : (n : ℕ) → nat_lt n n ≡ false
    level n = grind arith

-- what isn't good is bad
pub bad_is : (good bad : Bool) → good ≡ not bad → good ≡ false → bad ≡ true
bad_is good true is refused = refl
bad_is good false is refused = absurd (true≢false (sym is ∙ refused))

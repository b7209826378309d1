-- Entries dropped key by key, against those that a list of keys leaves.
use Rattle.std.proofs.Common.{◌≡◌, ℕ, Bool, true, false, cond, not, ◌&&◌, ◌||◌, nat_lt, List, [], ◌∷◌, filter, Some, None, refl, sym, ap, subst, ◌∙◌}
use Rattle.std.proofs.lemmas.List.Elements.{filter_agree}
use Rattle.std.proofs.lemmas.Map.Keys.{IsDistinct-head, IsDistinct-tail}
use Rattle.std.specs.List.{AllByRecursion, IsDistinct}
use Rattle.std.specs.Map.{keys_of, lookup, remove_entry}
use Rattle.kg_level1.specs.Changing.{names}
use Rattle.kg_level1.specs.Commits.{outlasts}
use Rattle.kg_level1.specs.Entries.{Kept}

-- ---- filters

module _ {X : Type 0} where
  pub filter_filter : (p q : X → Bool) (xs : List X) → filter p (filter q xs) ≡ filter (λ x. q x && p x) xs
  filter_filter p q [] = refl
  filter_filter p q (x ∷ xs) = by_test (q x) (filter_filter p q xs)
    where
      by_test : (b : Bool) → filter p (filter q xs) ≡ filter (λ y. q y && p y) xs
          → filter p (cond b (x ∷ filter q xs) (filter q xs)) ≡ cond (b && p x) (x ∷ filter (λ y. q y && p y) xs) (filter (λ y. q y && p y) xs)
      by_test true rest = ap (λ ys. cond (p x) (x ∷ ys) ys) rest
      by_test false rest = rest

  pub filter_all : (xs : List X) → filter (λ x. true) xs ≡ xs
  filter_all [] = refl
  filter_all (x ∷ xs) = ap (λ rest. x ∷ rest) (filter_all xs)

-- ---- one key

module _ {K X : Type 0} (test : K → Bool) where
  lookup_apart : (es : List (K × X)) → AllByRecursion (λ k. test k ≡ false) (keys_of es) → lookup test es ≡ None
  lookup_apart [] apart = refl
  lookup_apart (e ∷ es) apart = ap (λ b. cond b (Some e.1) (lookup test es)) apart.0 ∙ lookup_apart es apart.1

module _ {K X : Type 0} (test : K → Bool) (old : X → Bool) where
  -- of a key that isn't there nothing goes
  pub absent_stays : (es : List (K × X)) → lookup test es ≡ None → filter (λ e. not (test e.0 && old e.1)) es ≡ es
  absent_stays [] absent = refl
  absent_stays (e ∷ es) absent = by_test (test e.0) (absent_stays es) absent
    where
      by_test : (b : Bool) → (lookup test es ≡ None → filter (λ d. not (test d.0 && old d.1)) es ≡ es) → cond b (Some e.1) (lookup test es) ≡ None
          → cond (not (b && old e.1)) (e ∷ filter (λ d. not (test d.0 && old d.1)) es) (filter (λ d. not (test d.0 && old d.1)) es) ≡ e ∷ es
      by_test true behind there = cc
      by_test false behind rest = ap (λ ds. e ∷ ds) (behind rest)

module _ {K X : Type 0} (eq : K → K → Bool) (same : (x y : K) → eq x y ≡ true → x ≡ y) (old : X → Bool) (k : K) where
  abbrev stays : K × X → Bool
  stays e = not (eq k e.0 && old e.1)

  none_behind : (e : K × X) (es : List (K × X)) → IsDistinct eq (keys_of (e ∷ es)) → eq k e.0 ≡ true → filter stays es ≡ es
  none_behind e es distinct is = absent_stays (eq k) old es
      (subst (λ j. lookup (eq j) es ≡ None) (sym (same k e.0 is)) (lookup_apart (eq e.0) es (IsDistinct-head eq e.0 (keys_of es) distinct)))

  -- the key's entry goes if it is old
  pub old_goes : (es : List (K × X)) (v : X) → IsDistinct eq (keys_of es) → lookup (eq k) es ≡ Some v → old v ≡ true → filter stays es ≡ remove_entry (eq k) es
  old_goes [] v distinct there is_old = cc
  old_goes (e ∷ es) v distinct there is_old = by_test (eq k e.0) refl (λ rest. old_goes es v (IsDistinct-tail eq e.0 (keys_of es) distinct) rest is_old) there
    where
      by_age : (b : Bool) → b ≡ true → cond (not b) (e ∷ filter stays es) (filter stays es) ≡ filter stays es
      by_age true is = refl
      by_age false is = cc

      by_test : (b : Bool) → eq k e.0 ≡ b → (lookup (eq k) es ≡ Some v → filter stays es ≡ remove_entry (eq k) es) → cond b (Some e.1) (lookup (eq k) es) ≡ Some v
          → cond (not (b && old e.1)) (e ∷ filter stays es) (filter stays es) ≡ cond b es (e ∷ remove_entry (eq k) es)
      by_test true is behind first = let val : e.1 ≡ v = cc in by_age (old e.1) (ap old val ∙ is_old) ∙ none_behind e es distinct is
      by_test false is behind rest = ap (λ ds. e ∷ ds) (behind rest)

  -- and stays if it isn't
  pub young_stays : (es : List (K × X)) (v : X) → IsDistinct eq (keys_of es) → lookup (eq k) es ≡ Some v → old v ≡ false → filter stays es ≡ es
  young_stays [] v distinct there is_young = refl
  young_stays (e ∷ es) v distinct there is_young = by_test (eq k e.0) refl (λ rest. young_stays es v (IsDistinct-tail eq e.0 (keys_of es) distinct) rest is_young) there
    where
      by_age : (b : Bool) → b ≡ false → cond (not b) (e ∷ filter stays es) (filter stays es) ≡ e ∷ filter stays es
      by_age true is = cc
      by_age false is = refl

      by_test : (b : Bool) → eq k e.0 ≡ b → (lookup (eq k) es ≡ Some v → filter stays es ≡ es) → cond b (Some e.1) (lookup (eq k) es) ≡ Some v
          → cond (not (b && old e.1)) (e ∷ filter stays es) (filter stays es) ≡ e ∷ es
      by_test true is behind first = let val : e.1 ≡ v = cc in by_age (old e.1) (ap old val ∙ is_young) ∙ ap (λ ds. e ∷ ds) (none_behind e es distinct is)
      by_test false is behind rest = ap (λ ds. e ∷ ds) (behind rest)

-- ---- a list of keys

module _ {K V : Type 0} (eq : K → K → Bool) (n : ℕ) where
  pub none_named : (es : List (K × Kept V)) → filter (outlasts eq n []) es ≡ es
  none_named es = filter_all es

  pub more_named : (k : K) (keys : List K) (es : List (K × Kept V))
      → filter (outlasts eq n (k ∷ keys)) es ≡ filter (outlasts eq n keys) (filter (λ e. not (eq k e.0 && nat_lt e.1.stamp n)) es)
  more_named k keys es = filter_agree (outlasts eq n (k ∷ keys)) (λ e. not (eq k e.0 && nat_lt e.1.stamp n) && outlasts eq n keys e)
      (λ e. split (eq k e.0) (names eq keys e.0) (nat_lt e.1.stamp n)) es
      ∙ sym (filter_filter (outlasts eq n keys) (λ e. not (eq k e.0 && nat_lt e.1.stamp n)) es)
    where
      split : (first rest old : Bool) → not ((first || rest) && old) ≡ (not (first && old) && not (rest && old))
      split true rest true = refl
      split true true false = refl
      split true false false = refl
      split false rest old = refl

-- The first of some members is changed, step by step.
use Rattle.std.proofs.Common.{◌≡◌, ℕ, ◌+◌, ◌<◌, Bool, true, false, cond, not, ◌||◌, List, [], ◌∷◌, ◌++◌, length, take, get_or, refl, sym, ap, ◌∙◌}
use Rattle.std.specs.List.{list_any}
use Rattle.std.proofs.lemmas.List.{append-nil, take_more}
use Rattle.kg_text.specs.ListChanges.{without, one_changed}

-- what one more member adds: nothing where it is a later one that passes, else itself or its change
abbrev further : {X : Type 0} → (X → Bool) → (X → X) → Bool → X → List X
further p change found x = cond (p x) (cond found [] (change x ∷ [])) (x ∷ [])

without_further : {X : Type 0} (p : X → Bool) (change : X → X) (xs : List X) (x : X) → without p (xs ++ x ∷ []) ≡ without p xs ++ further p change true x
without_further p change [] x = by_test (p x)
  where
    by_test : (passes : Bool) → cond (not passes) (x ∷ []) [] ≡ cond passes (cond true [] (change x ∷ [])) (x ∷ [])
    by_test true = refl
    by_test false = refl
without_further p change (y ∷ ys) x = by_test (p y) (without_further p change ys x)
  where
    by_test : (passes : Bool) → without p (ys ++ x ∷ []) ≡ without p ys ++ further p change true x
        → cond (not passes) (y ∷ without p (ys ++ x ∷ [])) (without p (ys ++ x ∷ [])) ≡ cond (not passes) (y ∷ without p ys) (without p ys) ++ further p change true x
    by_test true later = later
    by_test false later = ap (λ rest. y ∷ rest) later

one_changed_further : {X : Type 0} (p : X → Bool) (change : X → X) (xs : List X) (x : X)
    → one_changed p change (xs ++ x ∷ []) ≡ one_changed p change xs ++ further p change (list_any p xs) x
one_changed_further p change [] x = by_test (p x)
  where
    by_test : (passes : Bool) → cond passes (change x ∷ []) (x ∷ []) ≡ cond passes (cond false [] (change x ∷ [])) (x ∷ [])
    by_test true = refl
    by_test false = refl
one_changed_further p change (y ∷ ys) x = by_test (p y) (one_changed_further p change ys x)
  where
    by_test : (passes : Bool) → one_changed p change (ys ++ x ∷ []) ≡ one_changed p change ys ++ further p change (list_any p ys) x
        → cond passes (change y ∷ without p (ys ++ x ∷ [])) (y ∷ one_changed p change (ys ++ x ∷ []))
        ≡ cond passes (change y ∷ without p ys) (y ∷ one_changed p change ys) ++ further p change (passes || list_any p ys) x
    by_test true later = ap (λ rest. change y ∷ rest) (without_further p change ys x)
    by_test false later = ap (λ rest. y ∷ rest) later

any_further : {X : Type 0} (p : X → Bool) (xs : List X) (x : X) → list_any p (xs ++ x ∷ []) ≡ (list_any p xs || p x)
any_further p [] x = by_test (p x)
  where
    by_test : (passes : Bool) → (passes || false) ≡ passes
    by_test true = refl
    by_test false = refl
any_further p (y ∷ ys) x = by_test (p y) (any_further p ys x)
  where
    by_test : (passes : Bool) → list_any p (ys ++ x ∷ []) ≡ (list_any p ys || p x) → (passes || list_any p (ys ++ x ∷ [])) ≡ ((passes || list_any p ys) || p x)
    by_test true later = refl
    by_test false later = later

or_false : (b : Bool) → (b || false) ≡ b
or_false true = refl
or_false false = refl

or_true : (b : Bool) → (b || true) ≡ true
or_true true = refl
or_true false = refl

-- ---- a list that is gone through, with what was made of it so far

module _ {X : Type 0} (p : X → Bool) (change : X → X) (xs : List X) (i : ℕ) (x : X) (found : Bool) (made : List X)
    (within : i < length xs) (here : x ≡ get_or xs i x) (whether : found ≡ list_any p (take i xs)) (so_far : made ≡ one_changed p change (take i xs)) where
  longer : take (i + 1) xs ≡ take i xs ++ x ∷ []
  longer = take_more xs i x within ∙ ap (λ y. take i xs ++ y ∷ []) (sym here)

  whether_further : (found || p x) ≡ list_any p (take (i + 1) xs)
  whether_further = ap (λ b. b || p x) whether ∙ sym (any_further p (take i xs) x) ∙ ap (list_any p) (sym longer)

  made_further : made ++ further p change found x ≡ one_changed p change (take (i + 1) xs)
  made_further =
      ap (λ l. l ++ further p change found x) so_far
      ∙ ap (λ b. one_changed p change (take i xs) ++ further p change b x) whether
      ∙ sym (one_changed_further p change (take i xs) x)
      ∙ ap (one_changed p change) (sym longer)

  pub other_comes : p x ≡ false → (found ≡ list_any p (take (i + 1) xs)) × (made ++ x ∷ [] ≡ one_changed p change (take (i + 1) xs))
  other_comes other = (
    sym (or_false found) ∙ ap (λ b. found || b) (sym other) ∙ whether_further,
    ap (λ b. made ++ cond b (cond found [] (change x ∷ [])) (x ∷ [])) (sym other) ∙ made_further,
  )

  pub first_comes : p x ≡ true → found ≡ false → (true ≡ list_any p (take (i + 1) xs)) × (made ++ change x ∷ [] ≡ one_changed p change (take (i + 1) xs))
  first_comes passes fresh = (
    sym (or_true found) ∙ ap (λ b. found || b) (sym passes) ∙ whether_further,
    ap (λ b. made ++ cond b [] (change x ∷ [])) (sym fresh)
        ∙ ap (λ b. made ++ cond b (cond found [] (change x ∷ [])) (x ∷ [])) (sym passes)
        ∙ made_further,
  )

  pub later_comes : p x ≡ true → found ≡ true → (found ≡ list_any p (take (i + 1) xs)) × (made ≡ one_changed p change (take (i + 1) xs))
  later_comes passes came = (
    came ∙ sym (or_true found) ∙ ap (λ b. found || b) (sym passes) ∙ whether_further,
    sym (append-nil made)
        ∙ ap (λ b. made ++ cond b [] (change x ∷ [])) (sym came)
        ∙ ap (λ b. made ++ cond b (cond found [] (change x ∷ [])) (x ∷ [])) (sym passes)
        ∙ made_further,
  )

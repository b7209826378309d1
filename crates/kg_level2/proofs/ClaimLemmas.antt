-- The claims that are out, as lists.
use Rattle.std.proofs.Common.{◌≡◌, ℕ, ◌+◌, ◌<◌, ◌≤◌, ◌⊎◌, Bool, true, false, cond, ◌&&◌, ◌||◌, nat_lt, List, [], ◌∷◌, ◌++◌, map, filter, find, length, Contains, Option, Some, None, option_and_then, refl, sym, ap, ap₂, subst, ◌∙◌, inl, inr, arith, true≢false, ltb-true, ltb-false, lt-ltb, if◌then◌else◌}
use Rattle.std.proofs.lemmas.Bool.{or_parts, or_from}
use Rattle.std.proofs.lemmas.List.Folds.{list_any-append}
use Rattle.std.specs.List.{list_any}
use Rattle.lru.proofs.Splits.{Contains-head, Contains-tail}
use Rattle.kg_level1.specs.Changing.{after_put, names}
use Rattle.kg_level1.specs.Coherent.{Leaves, NamesChanges}
use Rattle.kg_level2.specs.Answers.{Settles}
use Rattle.kg_level2.specs.Changing.{closed, end_of}
use Rattle.kg_level2.specs.Claims.{claim_on, touched}
use Rattle.kg_level2.specs.Coherent.{ClaimsExclude}
use Rattle.kg_level2.specs.Shared.{Shared}
use Rattle.kg_level2.specs.declared.claim.Settled.TheVariants.{Kept}
use Rattle.kg_level2.specs.declared.notes.OpenClaim.{OpenClaim}

-- ---- searches

pub found_in : {X : Type 0} (p : X → Bool) (xs : List X) (x : X) → find p xs ≡ Some x → Contains xs x × (p x ≡ true)
found_in p [] x found = cc
found_in p (y ∷ ys) x found = by_test (p y) refl (found_in p ys x) found
  where
    by_test : (b : Bool) → p y ≡ b → (find p ys ≡ Some x → Contains ys x × (p x ≡ true)) → cond b (Some y) (find p ys) ≡ Some x → Contains (y ∷ ys) x × (p x ≡ true)
    by_test true is rest here = let same : y ≡ x = cc in (subst (Contains (y ∷ ys)) same (Contains-head y ys), ap p (sym same) ∙ is)
    by_test false is rest behind = let found' = rest behind in (Contains-tail y ys x found'.0, found'.1)

pub none_passes : {X : Type 0} (p : X → Bool) (xs : List X) → find p xs ≡ None → list_any p xs ≡ false
none_passes p [] none = refl
none_passes p (y ∷ ys) none = by_test (p y) refl (none_passes p ys) none
  where
    by_test : (b : Bool) → p y ≡ b → (find p ys ≡ None → list_any p ys ≡ false) → cond b (Some y) (find p ys) ≡ None → (p y || list_any p ys) ≡ false
    by_test true is rest here = cc
    by_test false is rest behind = or_from (p y) (list_any p ys) is (rest behind)

any_filtered : {X : Type 0} (p q : X → Bool) (xs : List X) → list_any p xs ≡ false → list_any p (filter q xs) ≡ false
any_filtered p q [] none = refl
any_filtered p q (x ∷ xs) none = by_test (q x) (any_filtered p q xs (or_parts (p x) (list_any p xs) none).1)
  where
    by_test : (b : Bool) → list_any p (filter q xs) ≡ false → list_any p (cond b (x ∷ filter q xs) (filter q xs)) ≡ false
    by_test true rest = or_from (p x) (list_any p (filter q xs)) (or_parts (p x) (list_any p xs) none).0 rest
    by_test false rest = rest

any_mapped : {X : Type 0} (p : X → Bool) (f : X → X) → ((x : X) → p (f x) ≡ p x) → (xs : List X) → list_any p (map f xs) ≡ list_any p xs
any_mapped p f same [] = refl
any_mapped p f same (x ∷ xs) = ap₂ (λ a b. a || b) (same x) (any_mapped p f same xs)

-- ---- what a settle finds

module _ {K : Type 0} where
  -- a claim that was taken at this position or before, and its last touch
  pub touch_from : (found : Option (OpenClaim K)) (at touch : ℕ) → option_and_then (λ (o : OpenClaim K). if nat_lt at o.start then None else Some o.touch) found ≡ Some touch
      → (o : OpenClaim K) × (found ≡ Some o) × (o.start ≤ at) × (touch ≡ o.touch)
  touch_from None at touch none = cc
  touch_from (Some o) at touch is = by_start (nat_lt at o.start) refl is
    where
      by_start : (b : Bool) → nat_lt at o.start ≡ b → cond b None (Some o.touch) ≡ Some touch
          → (p : OpenClaim K) × (Some o ≡ Some p) × (p.start ≤ at) × (touch ≡ p.touch)
      by_start true early none = cc
      by_start false late same = let touch_is : touch ≡ o.touch = cc in (o, refl, ltb-false at o.start late, touch_is)

module _ {K V : Type 0} (eq : K → K → Bool) where
  -- a value that is put once its claim is back is kept
  pub settles_kept : (t back after : Shared K V) (k : K) (v : V) (negative : Bool) (at now expires : ℕ) (o : OpenClaim K)
      → claim_on eq k t.out ≡ Some o → o.start ≤ at → o.touch ≤ at → back ≡ closed eq k t
      → expires ≡ end_of (if negative then back.neg_ttl else back.ttl) now
      → after ≡ record back { level = after_put eq back.level k (record { val = v; stamp = at; expires = expires }) }
      → Settles eq t k v negative at now (Kept expires) after
  settles_kept t back after k v negative at now expires o out started late is = subst
      (λ (m : Shared K V). expires ≡ end_of (if negative then m.neg_ttl else m.ttl) now
      → after ≡ record m { level = after_put eq m.level k (record { val = v; stamp = at; expires = expires }) }
      → Settles eq t k v negative at now (Kept expires) after)
      (sym is) (λ end put. ((o, (out, started), late), end, put))

-- ---- no key has two claims

module _ {K : Type 0} (eq : K → K → Bool) where
  pub exclude_filtered : (q : OpenClaim K → Bool) (out : List (OpenClaim K)) → ClaimsExclude eq out → ClaimsExclude eq (filter q out)
  exclude_filtered q [] apart = tt
  exclude_filtered q (o ∷ out) apart = by_test (q o) (exclude_filtered q out apart.1)
    where
      by_test : (b : Bool) → ClaimsExclude eq (filter q out) → ClaimsExclude eq (cond b (o ∷ filter q out) (filter q out))
      by_test true rest = (any_filtered (λ p. eq o.key p.key) q out apart.0, rest)
      by_test false rest = rest

  pub exclude_mapped : (f : OpenClaim K → OpenClaim K) → ((o : OpenClaim K) → (f o).key ≡ o.key) → (out : List (OpenClaim K)) → ClaimsExclude eq out → ClaimsExclude eq (map f out)
  exclude_mapped f same [] apart = tt
  exclude_mapped f same (o ∷ out) apart = (
    subst (λ k. list_any (λ p. eq k p.key) (map f out) ≡ false) (sym (same o))
        (any_mapped (λ p. eq o.key p.key) f (λ p. ap (eq o.key) (same p)) out ∙ apart.0),
    exclude_mapped f same out apart.1,
  )

  module _ (same_key : (x y : K) → eq x y ≡ true → x ≡ y) where
    flipped : (a b : K) → eq a b ≡ false → eq b a ≡ false
    flipped a b apart = by_test (eq b a) refl
      where
        by_test : (t : Bool) → eq b a ≡ t → t ≡ false
        by_test false is = refl
        by_test true is = let same = same_key b a is in absurd (true≢false (sym is ∙ ap₂ eq same (sym same) ∙ apart))

    exclude_added : (new : OpenClaim K) (out : List (OpenClaim K)) → list_any (λ o. eq new.key o.key) out ≡ false → ClaimsExclude eq out → ClaimsExclude eq (out ++ new ∷ [])
    exclude_added new [] none apart = (refl, tt)
    exclude_added new (o ∷ rest) none apart =
        let parts = or_parts (eq new.key o.key) (list_any (λ p. eq new.key p.key) rest) none in (
          list_any-append (λ p. eq o.key p.key) rest (new ∷ [])
              ∙ or_from (list_any (λ p. eq o.key p.key) rest) (eq o.key new.key || false) apart.0 (or_from (eq o.key new.key) false (flipped new.key o.key parts.0) refl),
          exclude_added new rest parts.1 apart.1,
        )

    -- a claim on a key that has none may be taken
    pub exclude_taken : (out : List (OpenClaim K)) (new : OpenClaim K) → claim_on eq new.key out ≡ None → ClaimsExclude eq out → ClaimsExclude eq (out ++ new ∷ [])
    exclude_taken out new free apart = exclude_added new out (none_passes (λ o. eq new.key o.key) out free) apart

-- ---- last touches

-- what commits leave of a claim: its last touch may have come since, and no commit after that changes its key
pub record Touches {K X : Type 0} (value : K → ℕ → X) (from above : ℕ) (lists : List (List K)) (old new : OpenClaim K) : Type 0 where
  pub key : new.key ≡ old.key
  pub start : new.start ≡ old.start
  pub touch : (new.touch ≡ old.touch) ⊎ ((above < new.touch) × (from < new.touch) × (new.touch ≤ from + length lists))
  pub later : (n : ℕ) → above ≤ n → from ≤ n → n < from + length lists → new.touch ≤ n → Leaves value old.key n

module _ {K X : Type 0} (value : K → ℕ → X) (eq : K → K → Bool) (from above : ℕ) (keys : List K) (lists : List (List K)) (o : OpenClaim K) where
  -- the first commit touches the claim's key: the touches of the others come on top of it
  first_touches : (new : OpenClaim K) → above < from + 1 → Touches value (from + 1) above lists (record o { touch = from + 1 }) new → Touches value from above (keys ∷ lists) o new
  first_touches new is_above rest = record {
    key = rest.key;
    start = rest.start;
    touch = inr (since rest.touch);
    later = λ n a b c d. behind n a b c d (nat_lt from n) refl;
  }
    where
      since : (new.touch ≡ from + 1) ⊎ ((above < new.touch) × (from + 1 < new.touch) × (new.touch ≤ from + 1 + length lists))
          → (above < new.touch) × (from < new.touch) × (new.touch ≤ from + length (keys ∷ lists))
      since (inl same) = (omega arith, omega arith, omega arith)
      since (inr more) = (omega arith, omega arith, omega arith)

      behind : (n : ℕ) → above ≤ n → from ≤ n → n < from + length (keys ∷ lists) → new.touch ≤ n → (t : Bool) → nat_lt from n ≡ t → Leaves value o.key n
      behind n a b c d true is = let past : from < n = ltb-true from n is in rest.later n a (omega arith) (omega arith) d
      behind n a b c d false is = let past : n ≤ from = ltb-false from n is in let touch = since rest.touch in absurd (omega arith)

  -- it doesn't, or isn't above
  first_leaves : (new : OpenClaim K) → (nat_lt above (from + 1) && names eq keys o.key) ≡ false → ((k : K) → names eq keys k ≡ false → Leaves value k from)
      → Touches value (from + 1) above lists o new → Touches value from above (keys ∷ lists) o new
  first_leaves new is exact rest = record {
    key = rest.key;
    start = rest.start;
    touch = elim rest.touch [ inl same ↦ inl same | inr more ↦ inr (omega arith, omega arith, omega arith) ];
    later = λ n a b c d. behind n a b c d (nat_lt from n) refl;
  }
    where
      behind : (n : ℕ) → above ≤ n → from ≤ n → n < from + length (keys ∷ lists) → new.touch ≤ n → (t : Bool) → nat_lt from n ≡ t → Leaves value o.key n
      behind n a b c d true past = let past' : from < n = ltb-true from n past in rest.later n a (omega arith) (omega arith) d
      behind n a b c d false past = let past' : n ≤ from = ltb-false from n past in let here : from ≡ n = omega arith in
          subst (Leaves value o.key) here (exact o.key (ap (λ t. t && names eq keys o.key) (sym (lt-ltb above (from + 1) (omega arith))) ∙ is))

module _ {K X : Type 0} (value : K → ℕ → X) (eq : K → K → Bool) where
  pub touched_touches : (lists : List (List K)) (from above : ℕ) (o : OpenClaim K) → NamesChanges value eq from lists → Touches value from above lists o (touched eq from above lists o)
  touched_touches [] from above o exact = record { key = refl; start = refl; touch = inl refl; later = λ n a b c d. absurd (omega arith) }
  touched_touches (keys ∷ lists) from above o exact = by_test (nat_lt above (from + 1) && names eq keys o.key) refl
      (λ m. touched_touches lists (from + 1) above m exact.1)
    where
      is_above : (x y : Bool) → (x && y) ≡ true → x ≡ true
      is_above true y both = refl
      is_above false y both = both

      by_test : (b : Bool) → (nat_lt above (from + 1) && names eq keys o.key) ≡ b
          → ((m : OpenClaim K) → Touches value (from + 1) above lists m (touched eq (from + 1) above lists m))
          → Touches value from above (keys ∷ lists) o (touched eq (from + 1) above lists (cond b (record o { touch = from + 1 }) o))
      by_test true is rest = first_touches value eq from above keys lists o (touched eq (from + 1) above lists (record o { touch = from + 1 }))
          (ltb-true above (from + 1) (is_above (nat_lt above (from + 1)) (names eq keys o.key) is)) (rest (record o { touch = from + 1 }))
      by_test false is rest = first_leaves value eq from above keys lists o (touched eq (from + 1) above lists o) is exact.0 (rest o)

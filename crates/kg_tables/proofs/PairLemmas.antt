-- Pairs of an id and a place, in order: those of one id, by their places.
use Rattle.std.proofs.Common.{◌≡◌, ℕ, ◌<◌, Bool, true, false, cond, not, ◌&&◌, ◌||◌, nat_cmp, nat_eq, Ordering, List, [], ◌∷◌, Option, Some, None, map, filter, refl, sym, ap, subst, ◌∙◌, true≢false, arith, Less, Equal, Greater}
use Rattle.std.specs.Option.{option_eq}
use Rattle.std.specs.BTreeMap.{is_at}
use Rattle.std.specs.BTreeMap.Range.{range_contains}
use Rattle.std.specs.Cmp.{nat_cmp_is, ranked}
use Rattle.std.specs.List.{AllByRecursion, list_any}
use Rattle.std.specs.List.Sorted.{IsStrictlySortedBy}
use Rattle.std.specs.Ordering.{eq_by_cmp, is_eq, is_le, ordering_then}
use Rattle.std.specs.declared.ops.Bound.TheVariants.{Included, Excluded}
use Rattle.std.proofs.lemmas.List.Kept.{IsStrictlySortedBy-filter}
use Rattle.kg_tables.specs.PlaceIndexes.{HasPlaces, is_listed, pair_cmp}
use Rattle.kg_tables.specs.declared.listing.PlaceIndex.{PlaceIndex}
use Rattle.kg_row_types.specs.RowChanges.{refers_to}
use Rattle.kg_tables.proofs.KeyIndexLemmas.{same_number}

-- a number compares as equal to itself
pub itself : (n : ℕ) → nat_cmp n n ≡ Equal
itself n = sym (nat_cmp_is n n Equal refl)

-- what compares as equal is the same
pub pair_same : (id p : ℕ) (k : ℕ × ℕ) → is_eq (pair_cmp (id, p) k) ≡ true → (id ≡ k.0) × (p ≡ k.1)
pair_same id p k = by (nat_cmp id k.0) refl
  where
    places : (r : Ordering) → nat_cmp p k.1 ≡ r → is_eq r ≡ true → p ≡ k.1
    places Less is same = absurd (true≢false (sym same))
    places Equal is same = ranked p k.1 Equal (sym is)
    places Greater is same = absurd (true≢false (sym same))

    by : (r : Ordering) → nat_cmp id k.0 ≡ r → is_eq (ordering_then r (nat_cmp p k.1)) ≡ true → (id ≡ k.0) × (p ≡ k.1)
    by Less is same = absurd (true≢false (sym same))
    by Equal is same = (ranked id k.0 Equal (sym is), places (nat_cmp p k.1) refl same)
    by Greater is same = absurd (true≢false (sym same))

module _ (id end : ℕ) where
  -- the pairs of the id, with places below the end
  abbrev pub inside : ℕ × ℕ → Bool
  inside k = range_contains pair_cmp (Included (id, 0)) (Excluded (id, end)) k

  is_inside : (p : ℕ) → p < end → inside (id, p) ≡ true
  is_inside p below =
      ap (λ r. is_le (ordering_then r (nat_cmp 0 p)) && not (is_le (ordering_then r (nat_cmp end p)))) (itself id)
      ∙ ap (λ b. b && not (is_le (nat_cmp end p))) (from_zero (nat_cmp 0 p) refl)
      ∙ ap (λ r. not (is_le r)) (sym (nat_cmp_is end p Greater below))
    where
      from_zero : (r : Ordering) → nat_cmp 0 p ≡ r → is_le r ≡ true
      from_zero Less is = refl
      from_zero Equal is = refl
      from_zero Greater is = let wrong : p < 0 = ranked 0 p Greater (sym is) in absurd (omega arith)

  has_id : (k : ℕ × ℕ) → inside k ≡ true → k.0 ≡ id
  has_id k = by (nat_cmp id k.0) refl
    where
      none : (b : Bool) → (b && false) ≡ true → ⊥
      none true wrong = true≢false (sym wrong)
      none false wrong = true≢false (sym wrong)

      by : (r : Ordering) → nat_cmp id k.0 ≡ r → (is_le (ordering_then r (nat_cmp 0 k.1)) && not (is_le (ordering_then r (nat_cmp end k.1)))) ≡ true → k.0 ≡ id
      by Less is within = absurd (true≢false (sym within))
      by Equal is within = sym (ranked id k.0 Equal (sym is))
      by Greater is within = absurd (true≢false (sym within))

  all_of_id : (ks : List (ℕ × ℕ)) → AllByRecursion (λ k. k.0 ≡ id) (filter inside ks)
  all_of_id [] = tt {0}
  all_of_id (k ∷ ks) =
      (elim (inside k) as (λ b. inside k ≡ b → AllByRecursion (λ x. x.0 ≡ id) (cond {A = List (ℕ × ℕ)} b (k ∷ filter inside ks) (filter inside ks)))
      [ true ↦ λ is. (has_id k is, all_of_id ks) | false ↦ λ _. all_of_id ks ]) refl

  by_place : (ks : List (ℕ × ℕ)) → AllByRecursion (λ k. k.0 ≡ id) ks → IsStrictlySortedBy pair_cmp ks → IsStrictlySortedBy nat_cmp (map (λ k. k.1) ks)
  unfolding IsStrictlySortedBy
  by_place [] ids sorted = tt {0}
  by_place (k ∷ ks) ids sorted = (behind ks ids.1 sorted.0, by_place ks ids.1 sorted.1)
    where
      behind : (xs : List (ℕ × ℕ)) → AllByRecursion (λ x. x.0 ≡ id) xs → AllByRecursion (λ x. pair_cmp k x ≡ Less) xs → AllByRecursion (λ p. nat_cmp k.1 p ≡ Less) (map (λ x. x.1) xs)
      behind [] of_id less = tt {0}
      behind (x ∷ xs) of_id less =
          (sym (ap (λ r. ordering_then r (nat_cmp k.1 x.1)) (sym (nat_cmp_is k.0 x.0 Equal (ids.0 ∙ sym of_id.0)))) ∙ less.0, behind xs of_id.1 less.1)

  -- the places stand in order
  pub places_sorted : (ks : List (ℕ × ℕ)) → IsStrictlySortedBy pair_cmp ks → IsStrictlySortedBy nat_cmp (map (λ k. k.1) (filter inside ks))
  places_sorted ks sorted = by_place (filter inside ks) (all_of_id ks) (IsStrictlySortedBy-filter pair_cmp inside ks sorted)

  or_of : (a b : Bool) → b ≡ true → (a || b) ≡ true
  or_of true b _ = refl
  or_of false b is = is

  -- a place of the id below the end is among them
  pub has_place : (p : ℕ) (ks : List (ℕ × ℕ)) → p < end → list_any (is_at (pair_cmp (id, p))) ks ≡ true → list_any (eq_by_cmp nat_cmp p) (map (λ k. k.1) (filter inside ks)) ≡ true
  has_place p [] below there = there
  has_place p (k ∷ ks) below there =
      (elim (is_at (pair_cmp (id, p)) k) as (λ b. is_at (pair_cmp (id, p)) k ≡ b → (b || list_any (is_at (pair_cmp (id, p))) ks) ≡ true
      → list_any (eq_by_cmp nat_cmp p) (map (λ x. x.1) (cond {A = List (ℕ × ℕ)} (inside k) (k ∷ filter inside ks) (filter inside ks))) ≡ true) [
        | true ↦ λ is _. let same = pair_same id p k is in
            ap (λ b. list_any (eq_by_cmp nat_cmp p) (map (λ x. x.1) (cond {A = List (ℕ × ℕ)} b (k ∷ filter inside ks) (filter inside ks))))
            (ap inside (λ i. (sym same.0 i, sym same.1 i)) ∙ is_inside p below)
            ∙ ap (λ r. is_eq r || list_any (eq_by_cmp nat_cmp p) (map (λ x. x.1) (filter inside ks))) (sym (nat_cmp_is p k.1 Equal same.1))
        | false ↦ λ _ more. (elim (inside k) as (λ b. list_any (eq_by_cmp nat_cmp p) (map (λ x. x.1) (cond {A = List (ℕ × ℕ)} b (k ∷ filter inside ks) (filter inside ks))) ≡ true) [
          | true ↦ or_of (eq_by_cmp nat_cmp p k.1) (list_any (eq_by_cmp nat_cmp p) (map (λ x. x.1) (filter inside ks))) (has_place p ks below more)
          | false ↦ has_place p ks below more
        ])
      ]) refl there

  pub has_places : (index : PlaceIndex) (pairs : List (ℕ × ℕ)) → pairs ≡ filter inside index.pairs.keys → IsStrictlySortedBy pair_cmp index.pairs.keys → HasPlaces (is_listed index id) end pairs
  has_places index pairs is sorted =
      subst (HasPlaces (is_listed index id) end) (sym is) (record {
        order = places_sorted index.pairs.keys sorted;
        among = λ place below there. has_place place index.pairs.keys below there;
      })

-- a pair that goes isn't one that stays
pub goes : (own place id at : ℕ) (now : Option ℕ) → not (option_eq nat_eq now (Some own)) ≡ true → (nat_eq at place && not (refers_to id now)) ≡ false
    → is_eq (pair_cmp (own, place) (id, at)) ≡ false
goes own place id at now differ out = by (is_eq (pair_cmp (own, place) (id, at))) refl
  where
    other : own ≡ id → nat_eq at place ≡ true → (n : Option ℕ) → not (option_eq nat_eq n (Some own)) ≡ true → (nat_eq at place && not (refers_to id n)) ≡ false → true ≡ false
    other same here None apart stays = sym (ap (λ b. b && true) here) ∙ stays
    other same here (Some n) apart stays =
        sym (ap (λ b. b && not (nat_eq n id)) here ∙ ap (λ k. not (nat_eq n k)) (sym same) ∙ apart) ∙ stays

    by : (b : Bool) → is_eq (pair_cmp (own, place) (id, at)) ≡ b → b ≡ false
    by false is = refl
    by true is =
        let same = pair_same own place (id, at) is in
        absurd (true≢false (other same.0 (ap (nat_eq at) same.1 ∙ same_number at) now differ out))

-- Changes of the members that pass a test, made step by step.
use Rattle.std.proofs.Common.{◌≡◌, ℕ, ◌+◌, ◌<◌, zero, suc, Bool, true, false, not, ◌||◌, ◌&&◌, cond, List, [], ◌∷◌, ◌++◌, length, take, drop, refl, sym, ap, ◌∙◌, arith, inl, inr, zero-add}
use Rattle.std.specs.Prelude.{slice_set, slice_index_or}
use Rattle.std.specs.List.{position_or_len, list_any, count_by, items_where_true}
use Rattle.std.specs.List.Retain.{ReturnsInTurn, IsFiltered}
use Rattle.std.proofs.lemmas.Bool.{cases_Bool, cond-false}
use Rattle.std.proofs.lemmas.List.Sums.{sum_by-cons}
use Rattle.std.proofs.lemmas.List.{length-map, length-take-le, drop_more, get_or_at}
use Rattle.std.proofs.lemmas.List.Edits.{map_over_more}
use Rattle.kg_text.specs.ListChanges.{without, one_changed, each_changed}

-- ---- the first that passes is kept by a test that remembers whether it came

chosen : {X : Type 0} (b : Bool) (x : X) (xs kept : List X) (bs : List Bool)
    → items_where_true bs xs ≡ kept → items_where_true (b ∷ bs) (x ∷ xs) ≡ cond b (x ∷ kept) kept
chosen true x xs kept bs same = ap (λ l. x ∷ l) same
chosen false x xs kept bs same = same

combined : {X : Type 0} (found passes : Bool) (x : X) (others first : List X)
    → cond (not (found && passes)) (x ∷ cond (found || passes) others first) (cond (found || passes) others first)
    ≡ cond found (cond (not passes) (x ∷ others) others) (cond passes (x ∷ others) (x ∷ first))
combined true true x others first = refl
combined true false x others first = refl
combined false true x others first = refl
combined false false x others first = refl

either : {X : Type 0} (b : Bool) (x : X) → x ≡ cond b x x
either true x = refl
either false x = refl

module _ {X F : Type 0} (R : F → X → Bool → F → Type 0) (p : X → Bool) (found : F → Bool) (Holds : F → Type 0)
    (says : (f : F) (x : X) (b : Bool) (g : F) → Holds f → R f x b g → (b ≡ not (found f && p x)) × (found g ≡ (found f || p x)) × Holds g) where
  kept_in_turn : (f : F) (bs : List Bool) (xs : List X) (q : F) → Holds f → length bs ≡ length xs → ReturnsInTurn R f bs xs q
      → items_where_true bs xs ≡ cond (found f) (without p xs) (one_changed p (λ x. x) xs)
  kept_in_turn f [] [] q holds same ran = either (found f) []
  kept_in_turn f [] (x ∷ xs) q holds same ran = absurd (omega (arith, same))
  kept_in_turn f (b ∷ bs) [] q holds same ran = absurd ran
  kept_in_turn f (b ∷ bs) (x ∷ xs) q holds same ran =
      let told = says f x b ran.0 holds ran.1 in
      let others = without p xs in
      let first = one_changed p (λ x. x) xs in
      let later = kept_in_turn ran.0 bs xs q told.2 (omega (arith, same)) ran.2 ∙ ap (λ t. cond t others first) told.1 in
      chosen b x xs (cond (found f || p x) others first) bs later
      ∙ ap (λ t. cond t (x ∷ cond (found f || p x) others first) (cond (found f || p x) others first)) told.0
      ∙ combined (found f) (p x) x others first

  pub first_retained : (f : F) (xs ys : List X) → found f ≡ false → Holds f → IsFiltered R f xs ys → ys ≡ one_changed p (λ x. x) xs
  first_retained f xs ys fresh holds ran =
      ran.4 ∙ kept_in_turn f ran.0 xs ran.1 holds ran.2 ran.3
      ∙ cond-false (found f) (without p xs) (one_changed p (λ x. x) xs) fresh

-- ---- the first that passes is changed at its place

next_place : (n : ℕ) → 1 + n ≡ suc n
next_place n = omega arith

one_more : (n : ℕ) → suc n ≡ n + 1
one_more n = omega arith

module _ {X : Type 0} (p : X → Bool) where
  place_here : (x : X) (xs : List X) → p x ≡ true → position_or_len p (x ∷ xs) ≡ 0
  place_here x xs here = ap (λ t. cond (not t) (1 + position_or_len p xs) 0) here

  place_later : (x : X) (xs : List X) → p x ≡ false → position_or_len p (x ∷ xs) ≡ suc (position_or_len p xs)
  place_later x xs later =
      ap (λ t. cond (not t) (1 + position_or_len p xs) 0) later ∙ next_place (position_or_len p xs)

  pub first_is_within : (xs : List X) → position_or_len p xs < length xs
      → position_or_len p xs < length (one_changed p (λ x. x) xs)
  first_is_within [] within = absurd (omega (arith, within))
  first_is_within (x ∷ xs) within =
      elim (cases_Bool (p x)) [
        | inl here ↦ rw (place_here x xs here, here) (omega arith)
        | inr later ↦
            let place = place_later x xs later in
            let rest = first_is_within xs (omega (arith, place, within)) in
            rw (place, later) (omega (arith, rest))
      ]

  pub first_changed : (change : X → X) (xs : List X) (d : X) → position_or_len p xs < length xs
      → slice_set (one_changed p (λ x. x) xs) (position_or_len p xs) (change (slice_index_or (one_changed p (λ x. x) xs) (position_or_len p xs) d))
      ≡ one_changed p change xs
  first_changed change [] d within = absurd (omega (arith, within))
  first_changed change (x ∷ xs) d within =
      elim (cases_Bool (p x)) [
        | inl here ↦ rw (place_here x xs here, here) refl
        | inr later ↦
            let place = place_later x xs later in
            let rest = first_changed change xs d (omega (arith, place, within)) in
            rw (place, later) (ap (λ l. x ∷ l) rest)
      ]

  -- none passes: nothing is changed
  pub none_changed : (change : X → X) (xs : List X) → position_or_len p xs ≡ length xs → one_changed p change xs ≡ xs
  none_changed change [] all = refl
  none_changed change (x ∷ xs) all =
      elim (cases_Bool (p x)) [
        | inl here ↦ absurd (omega (arith, place_here x xs here, all))
        | inr later ↦
            let rest = none_changed change xs (omega (arith, place_later x xs later, all)) in
            rw later (ap (λ l. x ∷ l) rest)
      ]

  pub any_at_place : (xs : List X) → position_or_len p xs < length xs → list_any p xs ≡ true
  any_at_place [] within = absurd (omega (arith, within))
  any_at_place (x ∷ xs) within =
      elim (cases_Bool (p x)) [
        | inl here ↦ ap (λ t. t || list_any p xs) here
        | inr later ↦
            ap (λ t. t || list_any p xs) later
            ∙ any_at_place xs (omega (arith, place_later x xs later, within))
      ]

  pub none_at_end : (xs : List X) → position_or_len p xs ≡ length xs → list_any p xs ≡ false
  none_at_end [] all = refl
  none_at_end (x ∷ xs) all =
      elim (cases_Bool (p x)) [
        | inl here ↦ absurd (omega (arith, place_here x xs here, all))
        | inr later ↦
            ap (λ t. t || list_any p xs) later
            ∙ none_at_end xs (omega (arith, place_later x xs later, all))
      ]

  count_after : (xs : List X) (i : ℕ) (d : X) → i < length xs
      → count_by p (drop i xs) ≡ cond (p (slice_index_or xs i d)) 1 0 + count_by p (drop (suc i) xs)
  count_after [] i d within = absurd (omega (arith, within))
  count_after (x ∷ xs) zero d within = sum_by-cons (λ y. cond (p y) 1 0) x xs
  count_after (x ∷ xs) (suc i) d within = count_after xs i d (omega (arith, within))

  count_from : (xs : List X) (i : ℕ) (d : X) → i < length xs
      → count_by p (drop i xs) ≡ cond (p (slice_index_or xs i d)) 1 0 + count_by p (drop (i + 1) xs)
  count_from xs i d within =
      count_after xs i d within
      ∙ ap (λ n. cond (p (slice_index_or xs i d)) 1 0 + count_by p (drop n xs)) (one_more i)

  -- how many pass from a place on, where the one there does
  pub count_here : (xs : List X) (i : ℕ) (d : X) → i < length xs → p (slice_index_or xs i d) ≡ true
      → count_by p (drop i xs) ≡ 1 + count_by p (drop (i + 1) xs)
  count_here xs i d within here =
      count_from xs i d within ∙ ap (λ t. cond t 1 0 + count_by p (drop (i + 1) xs)) here

  -- and where it doesn't
  pub count_later : (xs : List X) (i : ℕ) (d : X) → i < length xs → p (slice_index_or xs i d) ≡ false
      → count_by p (drop i xs) ≡ count_by p (drop (i + 1) xs)
  count_later xs i d within later =
      count_from xs i d within
      ∙ ap (λ t. cond t 1 0 + count_by p (drop (i + 1) xs)) later
      ∙ zero-add (count_by p (drop (i + 1) xs))

-- ---- those that pass are changed one after another

-- what stands at a place in the list doesn't depend on what would be read past its end
pub same_at : {X : Type 0} (l : List X) (i : ℕ) (c e : X) → i < length l → slice_index_or l i c ≡ slice_index_or l i e
same_at [] i c e within = absurd (omega (arith, within))
same_at (x ∷ l) zero c e within = refl
same_at (x ∷ l) (suc i) c e within = same_at l i c e (omega (arith, within))

module _ {X : Type 0} (p : X → Bool) (change : X → X) where
  -- what wasn't reached yet is as it was
  pub not_reached : (s xs : List X) (i : ℕ) (d : X) → i < length s
      → xs ≡ each_changed p change (take i s) ++ drop i s → slice_index_or xs i d ≡ slice_index_or s i d
  not_reached s xs i d within made =
      let x = slice_index_or s i d in
      let front = each_changed p change (take i s) in
      let len : length front ≡ i =
      length-map (take i s) (λ y. cond (p y) (change y) y) ∙ length-take-le i s (omega (arith, within)) in
      ap (λ l. slice_index_or l i d) (made ∙ ap (λ l. front ++ l) (drop_more s i d within))
      ∙ get_or_at front x (drop (i + 1) s) d i len

  -- the next is changed, or stays
  pub changed_further : (s xs : List X) (i : ℕ) (d : X) → i < length s
      → xs ≡ each_changed p change (take i s) ++ drop i s
      → slice_set xs i (cond (p (slice_index_or s i d)) (change (slice_index_or s i d)) (slice_index_or s i d))
      ≡ each_changed p change (take (i + 1) s) ++ drop (i + 1) s
  changed_further s xs i d within made =
      map_over_more (λ y. cond (p y) (change y) y) s xs i (slice_index_or s i d) within made
      (sym (not_reached s xs i (slice_index_or s i d) within made ∙ same_at s i (slice_index_or s i d) d within))

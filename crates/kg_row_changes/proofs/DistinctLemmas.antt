-- Rows of which no two share something, when one is added, taken out or replaced.
use Rattle.std.proofs.Common.{◌≡◌, ℕ, ◌==◌, nat_eq, Bool, true, false, cond, not, ◌&&◌, ◌||◌, List, [], ◌∷◌, ◌++◌, map, filter, find, Option, Some, None, option_map, refl, sym, ap, ap₂, subst, ◌∙◌, true≢false}
use Rattle.std.proofs.lemmas.Bool.Decides.{Decides-eqb, same_from_decides}
use Rattle.std.proofs.lemmas.Bool.{eqb-true}
use Rattle.std.proofs.lemmas.Slice.Eq.{bytes_eq-Decides}
use Rattle.std.specs.List.{AllByRecursion, IsDistinct, cons_option, filter_map, list_any}
use Rattle.std.specs.Option.{is_some, option_map_or}
use Rattle.std.specs.Str.{bytes_eq}
use Rattle.kg_row_types.specs.Tables.{replaced}
use Rattle.kg_row_values.proofs.Searches.{or_left, or_right}
use Rattle.kg_row_changes.specs.Claims.{holder, text_holder}

-- ---- tests

pub number_flips : (a b : ℕ) → (a == b) ≡ (b == a)
number_flips a b =
    same_from_decides (a == b) (b == a) (Decides-eqb a b) (λ h. sym ((Decides-eqb b a).0 h), λ same. (Decides-eqb b a).1 (sym same))

pub bytes_flip : (a b : List ℕ) → bytes_eq a b ≡ bytes_eq b a
bytes_flip a b =
    same_from_decides (bytes_eq a b) (bytes_eq b a) (bytes_eq-Decides a b) (λ h. sym ((bytes_eq-Decides b a).0 h), λ same. (bytes_eq-Decides b a).1 (sym same))

-- both are set, and alike
abbrev pub both_alike : {K : Type 0} → (K → K → Bool) → Option K → Option K → Bool
both_alike e a b = option_map_or (λ y. option_map_or (λ x. e x y) a false) b false

pub text_flips : (a b : Option (List ℕ)) → both_alike bytes_eq a b ≡ both_alike bytes_eq b a
text_flips None None = refl
text_flips None (Some b) = refl
text_flips (Some a) None = refl
text_flips (Some a) (Some b) = bytes_flip a b

pub untrue : (b : Bool) → not b ≡ true → b ≡ false
untrue true holds = sym holds
untrue false holds = refl

pub both_first : (a b : Bool) → (a && b) ≡ true → a ≡ true
both_first true b holds = refl
both_first false b holds = holds

pub both_second : (a b : Bool) → (a && b) ≡ true → b ≡ true
both_second true b holds = holds
both_second false b holds = absurd (true≢false (sym holds))

and_false : (a : Bool) → (a && false) ≡ false
and_false true = refl
and_false false = refl

-- ---- lists

module _ {X : Type 0} where
  each_push : (P : X → Type 0) (new : X) → P new → (xs : List X) → AllByRecursion P xs → AllByRecursion P (xs ++ new ∷ [])
  each_push P new holds [] all = (holds, tt)
  each_push P new holds (x ∷ xs) all = (all.0, each_push P new holds xs all.1)

  each_filter : (P : X → Type 0) (p : X → Bool) (xs : List X) → AllByRecursion P xs → AllByRecursion P (filter p xs)
  each_filter P p [] all = tt
  each_filter P p (x ∷ xs) all =
      (elim (p x) as (λ b. AllByRecursion P (cond {A = List X} b (x ∷ filter p xs) (filter p xs))) [
        | true ↦ (all.0, each_filter P p xs all.1)
        | false ↦ each_filter P p xs all.1
      ])

  each_replaced : (P : X → Type 0) (which : X → Bool) (new : X) → P new → (xs : List X) → AllByRecursion P xs → AllByRecursion P (replaced which new xs)
  each_replaced P which new holds [] all = tt
  each_replaced P which new holds (x ∷ xs) all =
      (elim (which x) as (λ b. AllByRecursion P (cond {A = List X} b (new ∷ xs) (x ∷ replaced which new xs))) [
        | true ↦ (holds, all.1)
        | false ↦ (all.0, each_replaced P which new holds xs all.1)
      ])

  -- what passes neither test passes none
  passes_neither : (p q : X → Bool) (xs : List X) → list_any p xs ≡ false → list_any (λ x. not (p x) && q x) xs ≡ false → list_any q xs ≡ false
  passes_neither p q [] none other = refl
  passes_neither p q (x ∷ xs) none other =
      ap₂ (λ a b. a || b)
      (sym (ap (λ b. not b && q x) (or_left (p x) (list_any p xs) none)) ∙ or_left (not (p x) && q x) (list_any (λ y. not (p y) && q y) xs) other)
      (passes_neither p q xs (or_right (p x) (list_any p xs) none) (or_right (not (p x) && q x) (list_any (λ y. not (p y) && q y) xs) other))

  nothing_passes : (p : X → Bool) (xs : List X) → list_any (λ x. p x && false) xs ≡ false
  nothing_passes p [] = refl
  nothing_passes p (x ∷ xs) = ap₂ (λ a b. a || b) (and_false (p x)) (nothing_passes p xs)

  module _ (e : X → X → Bool) where
    distinct_push : (new : X) (xs : List X) → list_any (λ x. e x new) xs ≡ false → IsDistinct e xs → IsDistinct e (xs ++ new ∷ [])
    unfolding IsDistinct
    distinct_push new [] none distinct = (tt, tt)
    distinct_push new (x ∷ xs) none distinct = (
      each_push (λ y. e x y ≡ false) new (or_left (e x new) (list_any (λ y. e y new) xs) none) xs distinct.0,
      distinct_push new xs (or_right (e x new) (list_any (λ y. e y new) xs) none) distinct.1,
    )

    pub distinct_filter : (p : X → Bool) (xs : List X) → IsDistinct e xs → IsDistinct e (filter p xs)
    unfolding IsDistinct
    distinct_filter p [] distinct = tt
    distinct_filter p (x ∷ xs) distinct =
        (elim (p x) as (λ b. IsDistinct e (cond {A = List X} b (x ∷ filter p xs) (filter p xs))) [
          | true ↦ (each_filter (λ y. e x y ≡ false) p xs distinct.0, distinct_filter p xs distinct.1)
          | false ↦ distinct_filter p xs distinct.1
        ])

-- ---- what rows have

module _ {X K : Type 0} (e : K → K → Bool) where
  module _ (f : X → K) where
    abbrev by_part : X → X → Bool
    by_part a b = e (f a) (f b)

    to_parts : (k : K) (xs : List X) → AllByRecursion (λ x. e k (f x) ≡ false) xs → AllByRecursion (λ y. e k y ≡ false) (map f xs)
    to_parts k [] all = tt
    to_parts k (x ∷ xs) all = (all.0, to_parts k xs all.1)

    from_parts : (k : K) (xs : List X) → AllByRecursion (λ y. e k y ≡ false) (map f xs) → AllByRecursion (λ x. e k (f x) ≡ false) xs
    from_parts k [] all = tt
    from_parts k (x ∷ xs) all = (all.0, from_parts k xs all.1)

    pub to_map : (xs : List X) → IsDistinct by_part xs → IsDistinct e (map f xs)
    unfolding IsDistinct
    to_map [] distinct = tt
    to_map (x ∷ xs) distinct = (to_parts (f x) xs distinct.0, to_map xs distinct.1)

    pub from_map : (xs : List X) → IsDistinct e (map f xs) → IsDistinct by_part xs
    unfolding IsDistinct
    from_map [] distinct = tt
    from_map (x ∷ xs) distinct = (from_parts (f x) xs distinct.0, from_map xs distinct.1)

  module _ (f : X → Option K) where
    abbrev by_set : X → X → Bool
    by_set a b = both_alike e (f a) (f b)

    none_like : (o : Option K) → both_alike e None o ≡ false
    none_like None = refl
    none_like (Some y) = refl

    none_like_all : (xs : List X) → AllByRecursion (λ x. both_alike e None (f x) ≡ false) xs
    none_like_all [] = tt
    none_like_all (x ∷ xs) = (none_like (f x), none_like_all xs)

    to_set : (k : K) (xs : List X) → AllByRecursion (λ x. both_alike e (Some k) (f x) ≡ false) xs → AllByRecursion (λ y. e k y ≡ false) (filter_map f xs)
    to_set k [] all = tt
    to_set k (x ∷ xs) all =
        (elim (f x) as (λ o. both_alike e (Some k) o ≡ false → AllByRecursion (λ y. e k y ≡ false) (cons_option o (filter_map f xs))) [
          | None ↦ λ _. to_set k xs all.1
          | Some y ↦ λ differs. (differs, to_set k xs all.1)
        ]) all.0

    from_set : (k : K) (xs : List X) → AllByRecursion (λ y. e k y ≡ false) (filter_map f xs) → AllByRecursion (λ x. both_alike e (Some k) (f x) ≡ false) xs
    from_set k [] all = tt
    from_set k (x ∷ xs) all =
        (elim (f x) as (λ o. AllByRecursion (λ y. e k y ≡ false) (cons_option o (filter_map f xs)) → (both_alike e (Some k) o ≡ false) × AllByRecursion (λ y. both_alike e (Some k) (f y) ≡ false) xs) [
          | None ↦ λ rest. (refl, from_set k xs rest)
          | Some y ↦ λ rest. (rest.0, from_set k xs rest.1)
        ]) all

    pub to_filter_map : (xs : List X) → IsDistinct by_set xs → IsDistinct e (filter_map f xs)
    unfolding IsDistinct
    to_filter_map [] distinct = tt
    to_filter_map (x ∷ xs) distinct =
        (elim (f x) as (λ o. AllByRecursion (λ y. both_alike e o (f y) ≡ false) xs → IsDistinct e (cons_option o (filter_map f xs))) [
          | None ↦ λ _. to_filter_map xs distinct.1
          | Some k ↦ λ differs. (to_set k xs differs, to_filter_map xs distinct.1)
        ]) distinct.0

    pub from_filter_map : (xs : List X) → IsDistinct e (filter_map f xs) → IsDistinct by_set xs
    unfolding IsDistinct
    from_filter_map [] distinct = tt
    from_filter_map (x ∷ xs) distinct =
        (elim (f x) as (λ o. IsDistinct e (cons_option o (filter_map f xs)) → AllByRecursion (λ y. both_alike e o (f y) ≡ false) xs × IsDistinct by_set xs) [
          | None ↦ λ rest. (none_like_all xs, from_filter_map xs rest)
          | Some k ↦ λ rest. (from_set k xs rest.0, from_filter_map xs rest.1)
        ]) distinct

-- ---- rows with ids

module _ {X : Type 0} (number : X → ℕ) where
  abbrev has_number : ℕ → X → Bool
  has_number id x = number x == id

  -- the row with an id is replaced by another with this id
  pub same_ids : (new : X) (xs : List X) → map number (replaced (has_number (number new)) new xs) ≡ map number xs
  same_ids new [] = refl
  same_ids new (x ∷ xs) =
      (elim (number x == number new) as (λ b. (number x == number new) ≡ b → map number (cond {A = List X} b (new ∷ xs) (x ∷ replaced (has_number (number new)) new xs)) ≡ number x ∷ map number xs) [
        | true ↦ λ is. ap (λ id. id ∷ map number xs) (sym (eqb-true (number x) (number new) is))
        | false ↦ λ _. ap (λ ids. number x ∷ ids) (same_ids new xs)
      ]) refl

  pub ids_replaced : (new : X) (xs : List X) → IsDistinct nat_eq (map number xs) → IsDistinct nat_eq (map number (replaced (has_number (number new)) new xs))
  ids_replaced new xs distinct = subst (IsDistinct nat_eq) (sym (same_ids new xs)) distinct

  pub ids_push : (new : X) (xs : List X) → list_any (has_number (number new)) xs ≡ false → IsDistinct nat_eq (map number xs) → IsDistinct nat_eq (map number (xs ++ new ∷ []))
  ids_push new xs none distinct =
      to_map nat_eq number (xs ++ new ∷ []) (distinct_push (λ a b. nat_eq (number a) (number b)) new xs none (from_map nat_eq number xs distinct))

  pub ids_filter : (p : X → Bool) (xs : List X) → IsDistinct nat_eq (map number xs) → IsDistinct nat_eq (map number (filter p xs))
  ids_filter p xs distinct =
      to_map nat_eq number (filter p xs) (distinct_filter (λ a b. nat_eq (number a) (number b)) p xs (from_map nat_eq number xs distinct))

  -- no row of another id is like this one
  abbrev AloneAmong : (X → X → Bool) → X → List X → Type 0
  AloneAmong e new xs = list_any (λ x. not (number x == number new) && e x new) xs ≡ false

  module _ (e : X → X → Bool) (flips : (a b : X) → e a b ≡ e b a) where
    pub alone_push : (new : X) (xs : List X) → list_any (has_number (number new)) xs ≡ false → AloneAmong e new xs → IsDistinct e xs → IsDistinct e (xs ++ new ∷ [])
    alone_push new xs fresh alone distinct =
        distinct_push e new xs (passes_neither (has_number (number new)) (λ x. e x new) xs fresh alone) distinct

    -- after the row that is replaced
    others_differ : (new : X) (id : ℕ) → id ≡ number new → (xs : List X) → AllByRecursion (λ n. nat_eq id n ≡ false) (map number xs) → AloneAmong e new xs → AllByRecursion (λ y. e new y ≡ false) xs
    others_differ new id same [] differ alone = tt
    others_differ new id same (x ∷ xs) differ alone =
        let other : (number x == number new) ≡ false = number_flips (number x) (number new) ∙ ap (λ n. n == number x) (sym same) ∙ differ.0 in (
          flips new x ∙ sym (ap (λ b. not b && e x new) other) ∙ or_left (not (number x == number new) && e x new) (list_any (λ y. not (number y == number new) && e y new) xs) alone,
          others_differ new id same xs differ.1 (or_right (not (number x == number new) && e x new) (list_any (λ y. not (number y == number new) && e y new) xs) alone),
        )

    pub alone_replaced : (new : X) (xs : List X) → IsDistinct nat_eq (map number xs) → AloneAmong e new xs → IsDistinct e xs → IsDistinct e (replaced (has_number (number new)) new xs)
    unfolding IsDistinct
    alone_replaced new [] ids alone distinct = tt
    alone_replaced new (x ∷ xs) ids alone distinct =
        let first = or_left (not (number x == number new) && e x new) (list_any (λ y. not (number y == number new) && e y new) xs) alone in
        let later = or_right (not (number x == number new) && e x new) (list_any (λ y. not (number y == number new) && e y new) xs) alone in
        (elim (number x == number new) as (λ b. (number x == number new) ≡ b → (not b && e x new) ≡ false → IsDistinct e (cond {A = List X} b (new ∷ xs) (x ∷ replaced (has_number (number new)) new xs))) [
          | true ↦ λ is _. (others_differ new (number x) (eqb-true (number x) (number new) is) xs ids.0 later, distinct.1)
          | false ↦ λ _ differs. (each_replaced (λ y. e x y ≡ false) (has_number (number new)) new differs xs distinct.0, alone_replaced new xs ids.1 later distinct.1)
        ]) refl first

  -- ---- what no other row holds

  -- where no other row is found that passes, none passes
  unheld : (new : X) (test : X → Bool) (xs : List X) → holder number (Some (number new)) test xs ≡ None → list_any (λ x. not (number x == number new) && test x) xs ≡ false
  unheld new test [] none = refl
  unheld new test (x ∷ xs) none =
      (elim (not (number x == number new) && test x) as (λ b. option_map number (cond {A = Option X} b (Some x) (find (λ y. not (number y == number new) && test y) xs)) ≡ None
      → (b || list_any (λ y. not (number y == number new) && test y) xs) ≡ false) [
        | true ↦ λ wrong. absurd (true≢false (ap is_some wrong))
        | false ↦ λ rest. unheld new test xs rest
      ]) none

  -- ---- a text that a row may have

  module _ (field : X → Option (List ℕ)) where
    alone_text : (new : X) (set : Option (List ℕ)) → field new ≡ set → (xs : List X) → text_holder number field (Some (number new)) set xs ≡ None → AloneAmong (by_set bytes_eq field) new xs
    alone_text new None is xs free =
        ap (λ o. list_any (λ x. not (number x == number new) && both_alike bytes_eq (field x) o) xs) is ∙ nothing_passes (λ x. not (number x == number new)) xs
    alone_text new (Some text) is xs free =
        ap (λ o. list_any (λ x. not (number x == number new) && both_alike bytes_eq (field x) o) xs) is
        ∙ unheld new (λ other. option_map_or (λ x. bytes_eq x text) (field other) false) xs free

    pub text_push : (new : X) (xs : List X) → list_any (has_number (number new)) xs ≡ false → text_holder number field (Some (number new)) (field new) xs ≡ None
        → IsDistinct bytes_eq (filter_map field xs) → IsDistinct bytes_eq (filter_map field (xs ++ new ∷ []))
    text_push new xs fresh free distinct =
        to_filter_map bytes_eq field (xs ++ new ∷ []) (alone_push (by_set bytes_eq field) (λ a b. text_flips (field a) (field b)) new xs fresh
        (alone_text new (field new) refl xs free) (from_filter_map bytes_eq field xs distinct))

    pub text_replaced : (new : X) (xs : List X) → IsDistinct nat_eq (map number xs) → text_holder number field (Some (number new)) (field new) xs ≡ None
        → IsDistinct bytes_eq (filter_map field xs) → IsDistinct bytes_eq (filter_map field (replaced (has_number (number new)) new xs))
    text_replaced new xs ids free distinct =
        to_filter_map bytes_eq field (replaced (has_number (number new)) new xs) (alone_replaced (by_set bytes_eq field) (λ a b. text_flips (field a) (field b)) new xs ids
        (alone_text new (field new) refl xs free) (from_filter_map bytes_eq field xs distinct))

    pub text_filter : (p : X → Bool) (xs : List X) → IsDistinct bytes_eq (filter_map field xs) → IsDistinct bytes_eq (filter_map field (filter p xs))
    text_filter p xs distinct =
        to_filter_map bytes_eq field (filter p xs) (distinct_filter (by_set bytes_eq field) p xs (from_filter_map bytes_eq field xs distinct))

  -- ---- a text that each row has

  module _ (field : X → List ℕ) where
    abbrev IsKeyFree : X → List X → Type 0
    IsKeyFree new xs = holder number (Some (number new)) (λ other. bytes_eq (field other) (field new)) xs ≡ None

    pub key_push : (new : X) (xs : List X) → list_any (has_number (number new)) xs ≡ false → IsKeyFree new xs
        → IsDistinct bytes_eq (map field xs) → IsDistinct bytes_eq (map field (xs ++ new ∷ []))
    key_push new xs fresh free distinct =
        to_map bytes_eq field (xs ++ new ∷ []) (alone_push (by_part bytes_eq field) (λ a b. bytes_flip (field a) (field b)) new xs fresh
        (unheld new (λ other. bytes_eq (field other) (field new)) xs free) (from_map bytes_eq field xs distinct))

    pub key_replaced : (new : X) (xs : List X) → IsDistinct nat_eq (map number xs) → IsKeyFree new xs
        → IsDistinct bytes_eq (map field xs) → IsDistinct bytes_eq (map field (replaced (has_number (number new)) new xs))
    key_replaced new xs ids free distinct =
        to_map bytes_eq field (replaced (has_number (number new)) new xs) (alone_replaced (by_part bytes_eq field) (λ a b. bytes_flip (field a) (field b)) new xs ids
        (unheld new (λ other. bytes_eq (field other) (field new)) xs free) (from_map bytes_eq field xs distinct))

    pub key_filter : (p : X → Bool) (xs : List X) → IsDistinct bytes_eq (map field xs) → IsDistinct bytes_eq (map field (filter p xs))
    key_filter p xs distinct =
        to_map bytes_eq field (filter p xs) (distinct_filter (by_part bytes_eq field) p xs (from_map bytes_eq field xs distinct))

  -- ---- rows that are unlike one another

  pub whole_push : (e : X → X → Bool) (flips : (a b : X) → e a b ≡ e b a) (new : X) (xs : List X) → list_any (has_number (number new)) xs ≡ false
      → holder number (Some (number new)) (λ other. e other new) xs ≡ None → IsDistinct e xs → IsDistinct e (xs ++ new ∷ [])
  whole_push e flips new xs fresh free distinct = alone_push e flips new xs fresh (unheld new (λ other. e other new) xs free) distinct

  pub whole_replaced : (e : X → X → Bool) (flips : (a b : X) → e a b ≡ e b a) (new : X) (xs : List X) → IsDistinct nat_eq (map number xs)
      → holder number (Some (number new)) (λ other. e other new) xs ≡ None → IsDistinct e xs → IsDistinct e (replaced (has_number (number new)) new xs)
  whole_replaced e flips new xs ids free distinct = alone_replaced e flips new xs ids (unheld new (λ other. e other new) xs free) distinct

-- Rows by place: to look up, to add, to replace and to take out is the same there and in their list.
use Rattle.std.proofs.Common.{◌≡◌, arith, ◌&&◌, ◌<◌, ℕ, Bool, true, false, cond, not, ◌||◌, nat_eq, nat_cmp, List, [], ◌∷◌, ◌++◌, Option, Some, None, is_some, map, filter, find, option_map, unwrap_or, All, refl, sym, ap, subst, ◌∙◌, true≢false, Less, Equal, Greater}
use Rattle.std.proofs.lemmas.Map.Views.{tells_apart}
use Rattle.std.specs.Cmp.{IsEquivalence, both_ways, nat_cmp_is, nat_eq_equiv}
use Rattle.std.proofs.lemmas.Bool.{eqb-true, eq-eqb}
use Rattle.std.proofs.lemmas.Cmp.{eq_by_cmp_equiv, nat_cmp_total}
use Rattle.std.proofs.lemmas.List.{map-append}
use Rattle.std.proofs.lemmas.List.Elements.{All-cons, All-filter, All-head, All-nil, All-push, All-tail, All-weaker}
use Rattle.std.proofs.lemmas.Map.Lookups.{exact_unsigned}
use Rattle.std.proofs.lemmas.Map.Keys.{IsDistinct-cons, IsDistinct-head, IsDistinct-push, IsDistinct-tail, IsDistinct-from_sorted, sorted_head, sorted_tail}
use Rattle.std.specs.BTreeMap.{insert_entry}
use Rattle.std.specs.List.{AllByRecursion, IsDistinct, list_any}
use Rattle.std.specs.List.Sorted.{IsStrictlySortedBy}
use Rattle.std.specs.Map.{keys_of, lookup, remove_entry, values_of}
use Rattle.std.specs.Ordering.{eq_by_cmp, match_ordering, ordering_reverse}
use Rattle.kg_tables.proofs.TableLemmas.{flipped, is_some-find, values-push}
use Rattle.kg_tables.specs.PlaceIndexes.{IsTable, place_of}
use Rattle.kg_row_types.specs.Tables.{replaced}
use Rattle.kg_row_types.specs.declared.entity.Kind.{Kind}

laws : IsEquivalence (eq_by_cmp nat_cmp)
laws = eq_by_cmp_equiv nat_cmp_total

-- the order tells numbers apart
pub as_numbers : (a b : ℕ) → eq_by_cmp nat_cmp a b ≡ nat_eq a b
as_numbers a b =
    both_ways (eq_by_cmp nat_cmp a b) (nat_eq a b) (λ is. eq-eqb a b (tells_apart exact_unsigned a b is))
    (λ is. subst (λ k. eq_by_cmp nat_cmp a k ≡ true) (eqb-true a b is) (laws.refl a))

-- another place isn't this one
pub elsewhere : (p at : ℕ) (b : Bool) → eq_by_cmp nat_cmp p at ≡ false → (nat_eq at p && b) ≡ false
elsewhere p at b apart = ap (λ here. here && b) (flipped at p ∙ sym (as_numbers p at) ∙ apart)

-- what is named now stays listed
pub stays : (here named : Bool) → named ≡ true → (here && not named) ≡ false
stays true named is = ap not is
stays false named is = refl

module _ {T : Type 0} (number : T → ℕ) where
  abbrev has : ℕ → ℕ × T → Bool
  has id e = nat_eq (number e.1) id

  -- what holds of all places holds of the one with an id
  among : (P : ℕ → Type 0) (id p : ℕ) (es : List (ℕ × T)) → AllByRecursion P (keys_of es) → place_of number es id ≡ Some p → P p
  among P id p [] all is = absurd (true≢false (ap is_some (sym is)))
  among P id p (e ∷ es) all is =
      (elim (has id e) as (λ b. option_map (λ x. x.0) (cond {A = Option (ℕ × T)} b (Some e) (find (has id) es)) ≡ Some p → P p) [
        | true ↦ λ here. subst P (ap (λ o. unwrap_or o e.0) here) all.0
        | false ↦ λ more. among P id p es all.1 more
      ]) is

  -- the row at the place of an id is the first with it
  pub found_at : (id p : ℕ) (es : List (ℕ × T)) → IsDistinct (eq_by_cmp nat_cmp) (keys_of es) → place_of number es id ≡ Some p
      → lookup (eq_by_cmp nat_cmp p) es ≡ find (λ row. nat_eq (number row) id) (values_of es)
  found_at id p [] distinct is = refl
  found_at id p (e ∷ es) distinct is =
      (elim (has id e) as (λ b. option_map (λ x. x.0) (cond {A = Option (ℕ × T)} b (Some e) (find (has id) es)) ≡ Some p
      → cond {A = Option T} (eq_by_cmp nat_cmp p e.0) (Some e.1) (lookup (eq_by_cmp nat_cmp p) es) ≡ cond {A = Option T} b (Some e.1) (find (λ row. nat_eq (number row) id) (values_of es))) [
        | true ↦ λ here. ap (λ b. cond {A = Option T} b (Some e.1) (lookup (eq_by_cmp nat_cmp p) es)) (ap (λ o. eq_by_cmp nat_cmp (unwrap_or o e.0) e.0) (sym here) ∙ laws.refl e.0)
        | false ↦ λ more. ap (λ b. cond {A = Option T} b (Some e.1) (lookup (eq_by_cmp nat_cmp p) es))
            (laws.symm p e.0 ∙ among (λ k. eq_by_cmp nat_cmp e.0 k ≡ false) id p es (IsDistinct-head (eq_by_cmp nat_cmp) e.0 (keys_of es) distinct) more)
            ∙ found_at id p es (IsDistinct-tail (eq_by_cmp nat_cmp) e.0 (keys_of es) distinct) more
      ]) is

  -- an id has a place exactly where a row has it
  pub is_some_place : (id : ℕ) (es : List (ℕ × T)) → is_some (place_of number es id) ≡ list_any (λ row. nat_eq (number row) id) (values_of es)
  is_some_place id [] = refl
  is_some_place id (e ∷ es) =
      (elim (has id e) as (λ b. is_some (option_map (λ x. x.0) (cond {A = Option (ℕ × T)} b (Some e) (find (has id) es))) ≡ (b || list_any (λ row. nat_eq (number row) id) (values_of es)))
      [ true ↦ refl | false ↦ is_some_place id es ])

  -- ---- a row comes last

  pub put_last : (n : ℕ) (row : T) (es : List (ℕ × T)) → All (λ e. e.0 < n) es → insert_entry nat_cmp es n row ≡ es ++ (n, row) ∷ []
  put_last n row [] below = refl
  put_last n row (e ∷ es) below =
      ap (λ o. match_ordering {X = List (ℕ × T)} o ((n, row) ∷ e ∷ es) ((e.0, row) ∷ es) (e ∷ insert_entry nat_cmp es n row)) (sym (nat_cmp_is n e.0 Greater (All-head (λ x. x.0 < n) e es below)))
      ∙ ap (λ rest. e ∷ rest) (put_last n row es (All-tail (λ x. x.0 < n) e es below))

  pub place_pushed : (n : ℕ) (row : T) (id : ℕ) (es : List (ℕ × T)) → place_of number (es ++ (n, row) ∷ []) id
      ≡ cond {A = Option ℕ} (is_some (place_of number es id)) (place_of number es id) (cond {A = Option ℕ} (nat_eq (number row) id) (Some n) None)
  place_pushed n row id [] =
      (elim (nat_eq (number row) id) as (λ b. option_map (λ x. x.0) (cond {A = Option (ℕ × T)} b (Some (n, row)) None) ≡ cond {A = Option ℕ} b (Some n) None) [ true ↦ refl | false ↦ refl ])
  place_pushed n row id (e ∷ es) =
      (elim (has id e) as (λ b. option_map (λ x. x.0) (cond {A = Option (ℕ × T)} b (Some e) (find (has id) (es ++ (n, row) ∷ [])))
      ≡ cond {A = Option ℕ} (is_some (option_map (λ x. x.0) (cond {A = Option (ℕ × T)} b (Some e) (find (has id) es)))) (option_map (λ x. x.0) (cond {A = Option (ℕ × T)} b (Some e) (find (has id) es))) (cond {A = Option ℕ} (nat_eq (number row) id) (Some n) None))
      [ true ↦ refl | false ↦ place_pushed n row id es ])

  -- ---- a row goes

  others_stay : (id : ℕ) (es : List (ℕ × T)) → AllByRecursion (λ n. nat_eq id n ≡ false) (map number (values_of es)) → es ≡ filter (λ e. not (has id e)) es
  others_stay id [] all = refl
  others_stay id (e ∷ es) all =
      sym (ap (λ b. cond {A = List (ℕ × T)} (not b) (e ∷ filter (λ x. not (has id x)) es) (filter (λ x. not (has id x)) es)) (flipped (number e.1) id ∙ all.0)
      ∙ ap (λ rest. e ∷ rest) (sym (others_stay id es all.1)))

  pub taken_out : (id p : ℕ) (es : List (ℕ × T)) → IsDistinct (eq_by_cmp nat_cmp) (keys_of es) → IsDistinct nat_eq (map number (values_of es)) → place_of number es id ≡ Some p
      → remove_entry (eq_by_cmp nat_cmp p) es ≡ filter (λ e. not (has id e)) es
  taken_out id p [] places ids is = refl
  taken_out id p (e ∷ es) places ids is =
      (elim (has id e) as (λ b. has id e ≡ b → option_map (λ x. x.0) (cond {A = Option (ℕ × T)} b (Some e) (find (has id) es)) ≡ Some p
      → cond {A = List (ℕ × T)} (eq_by_cmp nat_cmp p e.0) es (e ∷ remove_entry (eq_by_cmp nat_cmp p) es) ≡ cond {A = List (ℕ × T)} (not b) (e ∷ filter (λ x. not (has id x)) es) (filter (λ x. not (has id x)) es)) [
        | true ↦ λ its here. ap (λ b. cond {A = List (ℕ × T)} b es (e ∷ remove_entry (eq_by_cmp nat_cmp p) es)) (ap (λ o. eq_by_cmp nat_cmp (unwrap_or o e.0) e.0) (sym here) ∙ laws.refl e.0)
            ∙ others_stay id es (subst (λ k. AllByRecursion (λ n. nat_eq k n ≡ false) (map number (values_of es))) (eqb-true (number e.1) id its) (IsDistinct-head nat_eq (number e.1) (map number (values_of es)) ids))
        | false ↦ λ _ more. ap (λ b. cond {A = List (ℕ × T)} b es (e ∷ remove_entry (eq_by_cmp nat_cmp p) es))
            (laws.symm p e.0 ∙ among (λ k. eq_by_cmp nat_cmp e.0 k ≡ false) id p es (IsDistinct-head (eq_by_cmp nat_cmp) e.0 (keys_of es) places) more)
            ∙ ap (λ rest. e ∷ rest) (taken_out id p es (IsDistinct-tail (eq_by_cmp nat_cmp) e.0 (keys_of es) places) (IsDistinct-tail nat_eq (number e.1) (map number (values_of es)) ids) more)
      ]) refl is

  -- ---- a row in the place of the one with its id

  pub put_in_place : (p : ℕ) (new : T) (es : List (ℕ × T)) → IsStrictlySortedBy nat_cmp (keys_of es) → place_of number es (number new) ≡ Some p
      → insert_entry nat_cmp es p new ≡ replaced (has (number new)) (p, new) es
  put_in_place p new [] sorted is = absurd (true≢false (ap is_some (sym is)))
  put_in_place p new (e ∷ es) sorted is =
      (elim (has (number new) e) as (λ b. option_map (λ x. x.0) (cond {A = Option (ℕ × T)} b (Some e) (find (has (number new)) es)) ≡ Some p
      → match_ordering {X = List (ℕ × T)} (nat_cmp p e.0) ((p, new) ∷ e ∷ es) ((e.0, new) ∷ es) (e ∷ insert_entry nat_cmp es p new) ≡ cond {A = List (ℕ × T)} b ((p, new) ∷ es) (e ∷ replaced (has (number new)) (p, new) es)) [
        | true ↦ λ here. let there : e.0 ≡ p = ap (λ o. unwrap_or o e.0) here in
            ap (λ o. match_ordering {X = List (ℕ × T)} o ((p, new) ∷ e ∷ es) ((e.0, new) ∷ es) (e ∷ insert_entry nat_cmp es p new)) (sym (nat_cmp_is p e.0 Equal (sym there)))
            ∙ ap (λ k. (k, new) ∷ es) there
        | false ↦ λ more.
            ap (λ o. match_ordering {X = List (ℕ × T)} o ((p, new) ∷ e ∷ es) ((e.0, new) ∷ es) (e ∷ insert_entry nat_cmp es p new))
            (nat_cmp_total.antisymm p e.0 ∙ ap ordering_reverse (among (λ k. nat_cmp e.0 k ≡ Less) (number new) p es (sorted_head nat_cmp e.0 (keys_of es) sorted) more))
            ∙ ap (λ rest. e ∷ rest) (put_in_place p new es (sorted_tail nat_cmp e.0 (keys_of es) sorted) more)
      ]) is

  pub values_replaced : (p : ℕ) (new : T) (es : List (ℕ × T)) → values_of (replaced (has (number new)) (p, new) es) ≡ replaced (λ row. nat_eq (number row) (number new)) new (values_of es)
  values_replaced p new [] = refl
  values_replaced p new (e ∷ es) =
      (elim (has (number new) e) as (λ b. values_of (cond {A = List (ℕ × T)} b ((p, new) ∷ es) (e ∷ replaced (has (number new)) (p, new) es)) ≡ cond {A = List T} b (new ∷ values_of es) (e.1 ∷ replaced (λ row. nat_eq (number row) (number new)) new (values_of es)))
      [ true ↦ refl | false ↦ ap (λ rest. e.1 ∷ rest) (values_replaced p new es) ])

  pub all_replaced : (P : ℕ × T → Type 0) (p : ℕ) (new : T) (es : List (ℕ × T)) → All P es → P (p, new) → All P (replaced (has (number new)) (p, new) es)
  all_replaced P p new [] all one = All-nil P
  all_replaced P p new (e ∷ es) all one =
      (elim (has (number new) e) as (λ b. All P (cond {A = List (ℕ × T)} b ((p, new) ∷ es) (e ∷ replaced (has (number new)) (p, new) es)))
      [ true ↦ All-cons P (p, new) es one (All-tail P e es all) | false ↦ All-cons P e (replaced (has (number new)) (p, new) es) (All-head P e es all) (all_replaced P p new es (All-tail P e es all) one) ])

  pub ids_replaced : (p : ℕ) (new : T) (es : List (ℕ × T)) → map number (values_of (replaced (has (number new)) (p, new) es)) ≡ map number (values_of es)
  ids_replaced p new [] = refl
  ids_replaced p new (e ∷ es) =
      (elim (has (number new) e) as (λ b. has (number new) e ≡ b → map number (values_of (cond {A = List (ℕ × T)} b ((p, new) ∷ es) (e ∷ replaced (has (number new)) (p, new) es))) ≡ number e.1 ∷ map number (values_of es)) [
        | true ↦ λ its. ap (λ id. id ∷ map number (values_of es)) (sym (eqb-true (number e.1) (number new) its))
        | false ↦ λ _. ap (λ rest. number e.1 ∷ rest) (ids_replaced p new es)
      ]) refl

  pub place_put : (p : ℕ) (new : T) (id : ℕ) (es : List (ℕ × T)) → place_of number es (number new) ≡ Some p → place_of number (replaced (has (number new)) (p, new) es) id ≡ place_of number es id
  place_put p new id [] is = refl
  place_put p new id (e ∷ es) is =
      (elim (has (number new) e) as (λ b. has (number new) e ≡ b → option_map (λ x. x.0) (cond {A = Option (ℕ × T)} b (Some e) (find (has (number new)) es)) ≡ Some p
      → place_of number (cond {A = List (ℕ × T)} b ((p, new) ∷ es) (e ∷ replaced (has (number new)) (p, new) es)) id ≡ option_map (λ x. x.0) (cond {A = Option (ℕ × T)} (has id e) (Some e) (find (has id) es))) [
        | true ↦ λ its here.
            (elim (nat_eq (number new) id) as (λ b. option_map (λ x. x.0) (cond {A = Option (ℕ × T)} b (Some (p, new)) (find (has id) es)) ≡ option_map (λ x. x.0) (cond {A = Option (ℕ × T)} b (Some e) (find (has id) es)))
            [ true ↦ sym here | false ↦ refl ])
            ∙ ap (λ n. option_map (λ x. x.0) (cond {A = Option (ℕ × T)} (nat_eq n id) (Some e) (find (has id) es))) (sym (eqb-true (number e.1) (number new) its))
        | false ↦ λ _ more.
            (elim (has id e) as (λ b. option_map (λ x. x.0) (cond {A = Option (ℕ × T)} b (Some e) (find (has id) (replaced (has (number new)) (p, new) es))) ≡ option_map (λ x. x.0) (cond {A = Option (ℕ × T)} b (Some e) (find (has id) es)))
            [ true ↦ refl | false ↦ place_put p new id es more ])
      ]) refl is

  -- no row has the id that went
  place_gone : (id : ℕ) (es : List (ℕ × T)) → place_of number (filter (λ e. not (has id e)) es) id ≡ None
  place_gone id [] = refl
  place_gone id (e ∷ es) =
      (elim (has id e) as (λ b. has id e ≡ b → place_of number (cond {A = List (ℕ × T)} (not b) (e ∷ filter (λ x. not (has id x)) es) (filter (λ x. not (has id x)) es)) id ≡ None) [
        | true ↦ λ _. place_gone id es
        | false ↦ λ other. ap (λ b. option_map (λ x. x.0) (cond {A = Option (ℕ × T)} b (Some e) (find (has id) (filter (λ x. not (has id x)) es)))) other ∙ place_gone id es
      ]) refl

  place_kept : (id other : ℕ) (es : List (ℕ × T)) → nat_eq id other ≡ false → place_of number (filter (λ e. not (has id e)) es) other ≡ place_of number es other
  place_kept id other [] apart = refl
  place_kept id other (e ∷ es) apart =
      (elim (has id e) as (λ b. has id e ≡ b → place_of number (cond {A = List (ℕ × T)} (not b) (e ∷ filter (λ x. not (has id x)) es) (filter (λ x. not (has id x)) es)) other ≡ option_map (λ x. x.0) (cond {A = Option (ℕ × T)} (has other e) (Some e) (find (has other) es))) [
        | true ↦ λ its. place_kept id other es apart
            ∙ sym (ap (λ b. option_map (λ x. x.0) (cond {A = Option (ℕ × T)} b (Some e) (find (has other) es))) (ap (λ n. nat_eq n other) (eqb-true (number e.1) id its) ∙ apart))
        | false ↦ λ _.
            (elim (has other e) as (λ b. option_map (λ x. x.0) (cond {A = Option (ℕ × T)} b (Some e) (find (has other) (filter (λ x. not (has id x)) es))) ≡ option_map (λ x. x.0) (cond {A = Option (ℕ × T)} b (Some e) (find (has other) es)))
            [ true ↦ refl | false ↦ place_kept id other es apart ])
      ]) refl

  pub place_left : (id other : ℕ) (es : List (ℕ × T)) → place_of number (filter (λ e. not (has id e)) es) other ≡ cond {A = Option ℕ} (nat_eq id other) None (place_of number es other)
  place_left id other es =
      (elim (nat_eq id other) as (λ b. nat_eq id other ≡ b → place_of number (filter (λ e. not (has id e)) es) other ≡ cond {A = Option ℕ} b None (place_of number es other)) [
        | true ↦ λ its. ap (λ k. place_of number (filter (λ e. not (has id e)) es) k) (sym (eqb-true id other its)) ∙ place_gone id es
        | false ↦ λ apart. place_kept id other es apart
      ]) refl

  -- what is left stands elsewhere
  apart_tail : (P : ℕ × T → Type 0) (p : ℕ) (es : List (ℕ × T)) → All P es → AllByRecursion (λ k. eq_by_cmp nat_cmp p k ≡ false) (keys_of es) → All (λ e. P e × (eq_by_cmp nat_cmp p e.0 ≡ false)) es
  apart_tail P p [] all apart = All-nil (λ e. P e × (eq_by_cmp nat_cmp p e.0 ≡ false))
  apart_tail P p (e ∷ es) all apart =
      All-cons (λ x. P x × (eq_by_cmp nat_cmp p x.0 ≡ false)) e es (All-head P e es all, apart.0) (apart_tail P p es (All-tail P e es all) apart.1)

  pub left_apart : (P : ℕ × T → Type 0) (id p : ℕ) (es : List (ℕ × T)) → All P es → IsDistinct (eq_by_cmp nat_cmp) (keys_of es) → place_of number es id ≡ Some p
      → All (λ e. P e × (eq_by_cmp nat_cmp p e.0 ≡ false)) (filter (λ e. not (has id e)) es)
  left_apart P id p [] all distinct is = All-nil (λ e. P e × (eq_by_cmp nat_cmp p e.0 ≡ false))
  left_apart P id p (e ∷ es) all distinct is =
      (elim (has id e) as (λ b. option_map (λ x. x.0) (cond {A = Option (ℕ × T)} b (Some e) (find (has id) es)) ≡ Some p
      → All (λ x. P x × (eq_by_cmp nat_cmp p x.0 ≡ false)) (cond {A = List (ℕ × T)} (not b) (e ∷ filter (λ x. not (has id x)) es) (filter (λ x. not (has id x)) es))) [
        | true ↦ λ here. subst (λ k. All (λ x. P x × (eq_by_cmp nat_cmp k x.0 ≡ false)) (filter (λ x. not (has id x)) es)) (ap (λ o. unwrap_or o e.0) here)
            (All-filter (λ x. not (has id x)) (λ x. P x × (eq_by_cmp nat_cmp e.0 x.0 ≡ false)) es (apart_tail P e.0 es (All-tail P e es all) (IsDistinct-head (eq_by_cmp nat_cmp) e.0 (keys_of es) distinct)))
        | false ↦ λ more. All-cons (λ x. P x × (eq_by_cmp nat_cmp p x.0 ≡ false)) e (filter (λ x. not (has id x)) es)
            (All-head P e es all, laws.symm p e.0 ∙ among (λ k. eq_by_cmp nat_cmp e.0 k ≡ false) id p es (IsDistinct-head (eq_by_cmp nat_cmp) e.0 (keys_of es) distinct) more)
            (left_apart P id p es (All-tail P e es all) (IsDistinct-tail (eq_by_cmp nat_cmp) e.0 (keys_of es) distinct) more)
      ]) is

  -- what holds of the new entry, and of those at other places, holds after it took the place of the one with its id
  pub others_put : (P Q : ℕ × T → Type 0) (p : ℕ) (new : T) (es : List (ℕ × T)) → ((e : ℕ × T) → P e → eq_by_cmp nat_cmp p e.0 ≡ false → Q e) → Q (p, new)
      → All P es → IsDistinct (eq_by_cmp nat_cmp) (keys_of es) → place_of number es (number new) ≡ Some p → All Q (replaced (has (number new)) (p, new) es)
  others_put P Q p new [] other one all distinct is = All-nil Q
  others_put P Q p new (e ∷ es) other one all distinct is =
      (elim (has (number new) e) as (λ b. option_map (λ x. x.0) (cond {A = Option (ℕ × T)} b (Some e) (find (has (number new)) es)) ≡ Some p
      → All Q (cond {A = List (ℕ × T)} b ((p, new) ∷ es) (e ∷ replaced (has (number new)) (p, new) es))) [
        | true ↦ λ here. All-cons Q (p, new) es one
            (All-weaker (λ x. P x × (eq_by_cmp nat_cmp p x.0 ≡ false)) Q (λ x held. other x held.0 held.1) es
            (subst (λ k. All (λ x. P x × (eq_by_cmp nat_cmp k x.0 ≡ false)) es) (ap (λ o. unwrap_or o e.0) here)
            (apart_tail P e.0 es (All-tail P e es all) (IsDistinct-head (eq_by_cmp nat_cmp) e.0 (keys_of es) distinct))))
        | false ↦ λ more. All-cons Q e (replaced (has (number new)) (p, new) es)
            (other e (All-head P e es all) (laws.symm p e.0 ∙ among (λ k. eq_by_cmp nat_cmp e.0 k ≡ false) (number new) p es (IsDistinct-head (eq_by_cmp nat_cmp) e.0 (keys_of es) distinct) more))
            (others_put P Q p new es other one (All-tail P e es all) (IsDistinct-tail (eq_by_cmp nat_cmp) e.0 (keys_of es) distinct) more)
      ]) is

  -- ids of what is left are distinct
  pub ids_left : (id : ℕ) (es : List (ℕ × T)) → IsDistinct nat_eq (map number (values_of es)) → IsDistinct nat_eq (map number (values_of (filter (λ e. not (has id e)) es)))
  ids_left id [] distinct = distinct
  ids_left id (e ∷ es) distinct =
      (elim (has id e) as (λ b. IsDistinct nat_eq (map number (values_of (cond {A = List (ℕ × T)} (not b) (e ∷ filter (λ x. not (has id x)) es) (filter (λ x. not (has id x)) es))))) [
        | true ↦ ids_left id es (IsDistinct-tail nat_eq (number e.1) (map number (values_of es)) distinct)
        | false ↦ IsDistinct-cons nat_eq (number e.1) (map number (values_of (filter (λ x. not (has id x)) es)))
            (fewer (number e.1) es (IsDistinct-head nat_eq (number e.1) (map number (values_of es)) distinct))
            (ids_left id es (IsDistinct-tail nat_eq (number e.1) (map number (values_of es)) distinct))
      ])
    where
      fewer : (n : ℕ) (fs : List (ℕ × T)) → AllByRecursion (λ k. nat_eq n k ≡ false) (map number (values_of fs)) → AllByRecursion (λ k. nat_eq n k ≡ false) (map number (values_of (filter (λ e. not (has id e)) fs)))
      fewer n [] all = all
      fewer n (f ∷ fs) all =
          (elim (has id f) as (λ b. AllByRecursion (λ k. nat_eq n k ≡ false) (map number (values_of (cond {A = List (ℕ × T)} (not b) (f ∷ filter (λ x. not (has id x)) fs) (filter (λ x. not (has id x)) fs)))))
          [ true ↦ fewer n fs all.1 | false ↦ (all.0, fewer n fs all.1) ])

-- ---- the table

module _ {T : Type 0} (number : T → ℕ) (refers : Kind → ℕ → T → Bool) where
  abbrev At : (Kind → ℕ → ℕ → Bool) → Kind → ℕ → ℕ × T → Type 0
  At listed of_kind id e = refers of_kind id e.1 ≡ true → listed of_kind id e.0 ≡ true

  pub table_new : (place : ℕ → Option ℕ) (listed : Kind → ℕ → ℕ → Bool) (next : ℕ) → ((id : ℕ) → place id ≡ None) → IsTable number refers [] place listed next
  unfolding IsDistinct IsStrictlySortedBy
  table_new place listed next none = record {
    order = tt {0};
    before = All-nil (λ e. e.0 < next);
    found = none;
    ids = tt {0};
    listed = λ of_kind id. All-nil (At listed of_kind id);
  }

  keep_place : (o : Option ℕ) → o ≡ cond {A = Option ℕ} (is_some o) o None
  keep_place None = refl
  keep_place (Some p) = refl

  pub table_push : (es : List (ℕ × T)) (place place_new : ℕ → Option ℕ) (listed listed_new : Kind → ℕ → ℕ → Bool) (n next : ℕ) (row : T)
      → IsTable number refers es place listed n → n < next → list_any (λ other. nat_eq (number other) (number row)) (values_of es) ≡ false
      → ((id : ℕ) → place_new id ≡ cond {A = Option ℕ} (eq_by_cmp nat_cmp (number row) id) (Some n) (place id))
      → ((of_kind : Kind) (id p : ℕ) → listed of_kind id p ≡ true → listed_new of_kind id p ≡ true)
      → ((of_kind : Kind) (id : ℕ) → refers of_kind id row ≡ true → listed_new of_kind id n ≡ true)
      → IsStrictlySortedBy nat_cmp (keys_of (es ++ (n, row) ∷ []))
      → IsTable number refers (es ++ (n, row) ∷ []) place_new listed_new next
  table_push es place place_new listed listed_new n next row is more fresh says kept noted sorted = record {
    order = sorted;
    before = All-push (λ e. e.0 < next) es (n, row) (All-weaker (λ e. e.0 < n) (λ e. e.0 < next) (λ e l. omega (arith, l, more)) es is.before) more;
    found = λ id. says id ∙ ap (λ b. cond {A = Option ℕ} b (Some n) (place id)) (as_numbers (number row) id) ∙ ap (λ o. cond {A = Option ℕ} (nat_eq (number row) id) (Some n) o) (is.found id)
        ∙ by id (nat_eq (number row) id) refl ∙ sym (place_pushed number n row id es);
    ids = subst (IsDistinct nat_eq) (sym (ap (map number) (values-push es n row) ∙ map-append number (values_of es) (row ∷ []))) (IsDistinct-push nat_eq_equiv (map number (values_of es)) (number row) is.ids (none_of es fresh));
    listed = λ of_kind id. All-push (At listed_new of_kind id) es (n, row) (All-weaker (At listed of_kind id) (At listed_new of_kind id) (λ e held refs. kept of_kind id e.0 (held refs)) es (is.listed of_kind id)) (noted of_kind id);
  }
    where
      by : (id : ℕ) (b : Bool) → nat_eq (number row) id ≡ b → cond {A = Option ℕ} b (Some n) (place_of number es id) ≡ cond {A = Option ℕ} (is_some (place_of number es id)) (place_of number es id) (cond {A = Option ℕ} b (Some n) None)
      by id true its = sym (ap (λ c. cond {A = Option ℕ} c (place_of number es id) (Some n)) (ap (λ k. is_some (place_of number es k)) (sym (eqb-true (number row) id its)) ∙ is_some_place number (number row) es ∙ fresh))
      by id false apart = keep_place (place_of number es id)

      none_of : (fs : List (ℕ × T)) → list_any (λ other. nat_eq (number other) (number row)) (values_of fs) ≡ false → list_any (nat_eq (number row)) (map number (values_of fs)) ≡ false
      none_of [] none = refl
      none_of (f ∷ fs) none =
          ap (λ b. b || list_any (nat_eq (number row)) (map number (values_of fs))) (flipped (number row) (number f.1))
          ∙ (elim (nat_eq (number f.1) (number row)) as (λ b. (b || list_any (λ other. nat_eq (number other) (number row)) (values_of fs)) ≡ false → (b || list_any (nat_eq (number row)) (map number (values_of fs))) ≡ false)
          [ true ↦ λ yes. yes | false ↦ λ others. none_of fs others ]) none

  pub table_replaced : (es : List (ℕ × T)) (place : ℕ → Option ℕ) (listed listed_new : Kind → ℕ → ℕ → Bool) (p next : ℕ) (row : T)
      → IsTable number refers es place listed next → place (number row) ≡ Some p
      → ((of_kind : Kind) (id at : ℕ) → eq_by_cmp nat_cmp p at ≡ false → listed of_kind id at ≡ true → listed_new of_kind id at ≡ true)
      → ((of_kind : Kind) (id : ℕ) → refers of_kind id row ≡ true → listed_new of_kind id p ≡ true)
      → IsStrictlySortedBy nat_cmp (keys_of (replaced (λ e. nat_eq (number e.1) (number row)) (p, row) es))
      → IsTable number refers (replaced (λ e. nat_eq (number e.1) (number row)) (p, row) es) place listed_new next
  table_replaced es place listed listed_new p next row is there kept noted sorted = record {
    order = sorted;
    before = all_replaced number (λ e. e.0 < next) p row es is.before (below es is.before (sym (is.found (number row)) ∙ there));
    found = λ id. is.found id ∙ sym (place_put number p row id es (sym (is.found (number row)) ∙ there));
    ids = subst (IsDistinct nat_eq) (sym (ids_replaced number p row es)) is.ids;
    listed = λ of_kind id. others_put number (At listed of_kind id) (At listed_new of_kind id) p row es (λ e held apart refs. kept of_kind id e.0 apart (held refs)) (noted of_kind id)
        (is.listed of_kind id) (IsDistinct-from_sorted nat_cmp (keys_of es) is.order) (sym (is.found (number row)) ∙ there);
  }
    where
      below : (fs : List (ℕ × T)) → All (λ e. e.0 < next) fs → place_of number fs (number row) ≡ Some p → p < next
      below [] all found = absurd (true≢false (ap is_some (sym found)))
      below (f ∷ fs) all found =
          (elim (nat_eq (number f.1) (number row)) as (λ b. option_map (λ x. x.0) (cond {A = Option (ℕ × T)} b (Some f) (find (λ e. nat_eq (number e.1) (number row)) fs)) ≡ Some p → p < next) [
            | true ↦ λ here. subst (λ k. k < next) (ap (λ o. unwrap_or o f.0) here) (All-head (λ e. e.0 < next) f fs all)
            | false ↦ λ more. below fs (All-tail (λ e. e.0 < next) f fs all) more
          ]) found

  pub table_left : (es : List (ℕ × T)) (place place_left_new : ℕ → Option ℕ) (listed listed_new : Kind → ℕ → ℕ → Bool) (id p next : ℕ)
      → IsTable number refers es place listed next → place id ≡ Some p
      → ((other : ℕ) → place_left_new other ≡ cond {A = Option ℕ} (eq_by_cmp nat_cmp id other) None (place other))
      → ((of_kind : Kind) (named at : ℕ) → eq_by_cmp nat_cmp p at ≡ false → listed of_kind named at ≡ true → listed_new of_kind named at ≡ true)
      → IsStrictlySortedBy nat_cmp (keys_of (filter (λ e. not (nat_eq (number e.1) id)) es))
      → IsTable number refers (filter (λ e. not (nat_eq (number e.1) id)) es) place_left_new listed_new next
  table_left es place place_left_new listed listed_new id p next is there says kept sorted = record {
    order = sorted;
    before = All-filter (λ e. not (nat_eq (number e.1) id)) (λ e. e.0 < next) es is.before;
    found = λ other. says other ∙ ap (λ b. cond {A = Option ℕ} b None (place other)) (as_numbers id other) ∙ ap (λ o. cond {A = Option ℕ} (nat_eq id other) None o) (is.found other) ∙ sym (place_left number id other es);
    ids = ids_left number id es is.ids;
    listed = λ of_kind named.
        All-weaker (λ e. At listed of_kind named e × (eq_by_cmp nat_cmp p e.0 ≡ false)) (At listed_new of_kind named) (λ e held refs. kept of_kind named e.0 held.1 (held.0 refs))
        (filter (λ e. not (nat_eq (number e.1) id)) es)
        (left_apart number (At listed of_kind named) id p es (is.listed of_kind named) (IsDistinct-from_sorted nat_cmp (keys_of es) is.order) (sym (is.found id) ∙ there));
  }

  -- ---- what is found

  none : {A : Type 0} (o : Option A) → is_some o ≡ false → o ≡ None
  none None is = refl
  none (Some a) is = absurd (true≢false is)

  module _ (es : List (ℕ × T)) (place : ℕ → Option ℕ) (listed : Kind → ℕ → ℕ → Bool) (next : ℕ) (is : IsTable number refers es place listed next) (id : ℕ) where
    -- the row at the place of an id
    pub at_place : (p : ℕ) → place id ≡ Some p → lookup (eq_by_cmp nat_cmp p) es ≡ find (λ row. nat_eq (number row) id) (values_of es)
    at_place p there = found_at number id p es (IsDistinct-from_sorted nat_cmp (keys_of es) is.order) (sym (is.found id) ∙ there)

    pub is_there : is_some (place id) ≡ list_any (λ row. nat_eq (number row) id) (values_of es)
    is_there = ap is_some (is.found id) ∙ is_some_place number id es

    -- no row has an id without a place
    pub no_place : place id ≡ None → find (λ row. nat_eq (number row) id) (values_of es) ≡ None
    no_place missing =
        none (find (λ row. nat_eq (number row) id) (values_of es)) (is_some-find number (λ row. nat_eq (number row) id) (values_of es) ∙ sym is_there ∙ ap is_some missing)

    -- there is a row at the place of an id
    pub row_there : (p : ℕ) → place id ≡ Some p → is_some (lookup (eq_by_cmp nat_cmp p) es) ≡ true
    row_there p there =
        ap is_some (at_place p there) ∙ is_some-find number (λ row. nat_eq (number row) id) (values_of es) ∙ sym is_there ∙ ap is_some there

    -- the entry at the place of an id goes
    pub taken : (p : ℕ) → place id ≡ Some p → remove_entry (eq_by_cmp nat_cmp p) es ≡ filter (λ e. not (nat_eq (number e.1) id)) es
    taken p there = taken_out number id p es (IsDistinct-from_sorted nat_cmp (keys_of es) is.order) is.ids (sym (is.found id) ∙ there)

    -- an id that no row has, has no place
    pub free : list_any (λ row. nat_eq (number row) id) (values_of es) ≡ false → place id ≡ None
    free missing = none (place id) (is_there ∙ missing)

  -- a row put at the place of the one with its id
  pub put : (es : List (ℕ × T)) (place : ℕ → Option ℕ) (listed : Kind → ℕ → ℕ → Bool) (next : ℕ) → IsTable number refers es place listed next → (p : ℕ) (row : T) → place (number row) ≡ Some p
      → insert_entry nat_cmp es p row ≡ replaced (λ e. nat_eq (number e.1) (number row)) (p, row) es
  put es place listed next is p row there = put_in_place number p row es is.order (sym (is.found (number row)) ∙ there)

  -- a place that was taken and given up again
  pub undone : (es : List (ℕ × T)) (place : ℕ → Option ℕ) (listed : Kind → ℕ → ℕ → Bool) (next : ℕ) → IsTable number refers es place listed next
      → (own n : ℕ) → list_any (λ row. nat_eq (number row) own) (values_of es) ≡ false
      → (id : ℕ) → cond {A = Option ℕ} (eq_by_cmp nat_cmp own id) None (cond {A = Option ℕ} (eq_by_cmp nat_cmp own id) (Some n) (place id)) ≡ place id
  undone es place listed next is own n fresh id =
      (elim (eq_by_cmp nat_cmp own id) as (λ b. eq_by_cmp nat_cmp own id ≡ b → cond {A = Option ℕ} b None (cond {A = Option ℕ} b (Some n) (place id)) ≡ place id) [
        | true ↦ λ its. sym (ap place (sym (tells_apart exact_unsigned own id its)) ∙ free es place listed next is own fresh)
        | false ↦ λ _. refl
      ]) refl

  -- the same rows at the same places, and no place less that is listed
  pub table_kept : (es es_new : List (ℕ × T)) (place place_new : ℕ → Option ℕ) (listed listed_new : Kind → ℕ → ℕ → Bool) (next : ℕ) → IsTable number refers es place listed next
      → es_new ≡ es → ((id : ℕ) → place_new id ≡ place id) → ((of_kind : Kind) (id p : ℕ) → listed of_kind id p ≡ true → listed_new of_kind id p ≡ true)
      → IsTable number refers es_new place_new listed_new next
  table_kept es es_new place place_new listed listed_new next is same says kept =
      subst (λ entries. IsTable number refers entries place_new listed_new next) (sym same) (record {
        order = is.order;
        before = is.before;
        found = λ id. says id ∙ is.found id;
        ids = is.ids;
        listed = λ of_kind id. All-weaker (At listed of_kind id) (At listed_new of_kind id) (λ e held refs. kept of_kind id e.0 (held refs)) es (is.listed of_kind id);
      })

-- The rows of a table by their ids, and by the entries that have them.
use Rattle.std.proofs.Common.{◌≡◌, ℕ, Bool, true, false, cond, ◌||◌, nat_eq, List, [], ◌∷◌, ◌++◌, Option, Some, is_some, map, filter, find, option_to_list, refl, sym, ap, subst, ◌∙◌, ⊎_elim, true≢false}
use Rattle.std.proofs.lemmas.Bool.{eqb-true}
use Rattle.std.proofs.lemmas.Bool.Decides.{eqb_tells}
use Rattle.std.proofs.lemmas.List.{map-append}
use Rattle.std.proofs.lemmas.Map.Keys.{IsDistinct-head, IsDistinct-tail}
use Rattle.std.specs.List.{list_any, AllByRecursion, IsDistinct}
use Rattle.std.specs.Map.{values_of}
use Rattle.kg_row_types.specs.Tables.{replaced}

-- equality of numbers, asked the other way round
pub flipped : (a b : ℕ) → nat_eq a b ≡ nat_eq b a
flipped a b =
    ⊎_elim (λ yes. subst (λ c. nat_eq a c ≡ nat_eq c a) yes.1 refl)
    (λ no. no.0 ∙ sym (⊎_elim (λ yes. absurd (no.1 (sym yes.1))) (λ also. also.0) (eqb_tells b a))) (eqb_tells a b)

module _ {T : Type 0} (number : T → ℕ) where
  -- there is one exactly where one has it
  pub is_some-find : (test : T → Bool) (rows : List T) → is_some (find test rows) ≡ list_any test rows
  is_some-find test [] = refl
  is_some-find test (row ∷ rows) =
      (elim (test row) as (λ b. is_some (cond {A = Option T} b (Some row) (find test rows)) ≡ (b || list_any test rows))
      [ true ↦ refl | false ↦ is_some-find test rows ])

  -- of rows with distinct ids no second one has the id
  none_differ : (id : ℕ) (rows : List T) → AllByRecursion (λ n. nat_eq id n ≡ false) (map number rows) → filter (λ row. nat_eq (number row) id) rows ≡ []
  none_differ id [] differ = refl
  none_differ id (row ∷ rows) differ =
      ap (λ b. cond {A = List T} b (row ∷ filter (λ r. nat_eq (number r) id) rows) (filter (λ r. nat_eq (number r) id) rows)) (flipped (number row) id ∙ differ.0)
      ∙ none_differ id rows differ.1

  pub only_one : (id : ℕ) (rows : List T) → IsDistinct nat_eq (map number rows) → option_to_list (find (λ row. nat_eq (number row) id) rows) ≡ filter (λ row. nat_eq (number row) id) rows
  only_one id [] distinct = refl
  only_one id (row ∷ rows) distinct =
      (elim (nat_eq (number row) id) as (λ b. nat_eq (number row) id ≡ b → option_to_list (cond {A = Option T} b (Some row) (find (λ r. nat_eq (number r) id) rows)) ≡ cond {A = List T} b (row ∷ filter (λ r. nat_eq (number r) id) rows) (filter (λ r. nat_eq (number r) id) rows)) [
        | true ↦ λ is. ap (λ rest. row ∷ rest) (sym (none_differ id rows (subst (λ k. AllByRecursion (λ n. nat_eq k n ≡ false) (map number rows)) (eqb-true (number row) id is) (IsDistinct-head nat_eq (number row) (map number rows) distinct))))
        | false ↦ λ _. only_one id rows (IsDistinct-tail nat_eq (number row) (map number rows) distinct)
      ]) refl

  -- where none has the id, nothing is replaced
  pub not_replaced : (new : T) (test : T → Bool) (rows : List T) → list_any test rows ≡ false → rows ≡ replaced test new rows
  not_replaced new test [] none = refl
  not_replaced new test (row ∷ rows) none =
      (elim (test row) as (λ b. (b || list_any test rows) ≡ false → row ∷ rows ≡ cond {A = List T} b (new ∷ rows) (row ∷ replaced test new rows)) [
        | true ↦ λ yes. absurd (true≢false yes)
        | false ↦ λ rest. ap (λ more. row ∷ more) (not_replaced new test rows rest)
      ]) none

-- the rows of a pushed entry
pub values-push : {T : Type 0} (es : List (ℕ × T)) (id : ℕ) (row : T) → values_of (es ++ (id, row) ∷ []) ≡ values_of es ++ row ∷ []
values-push es id row = map-append (λ e. e.1) es ((id, row) ∷ [])

-- the rows of the entries whose rows pass
pub values-filter : {T : Type 0} (test : T → Bool) (es : List (ℕ × T)) → values_of (filter (λ e. test e.1) es) ≡ filter test (values_of es)
values-filter test [] = refl
values-filter {T} test (e ∷ es) =
    (elim (test e.1) as (λ b. values_of (cond {A = List (ℕ × T)} b (e ∷ filter (λ x. test x.1) es) (filter (λ x. test x.1) es)) ≡ cond {A = List T} b (e.1 ∷ filter test (values_of es)) (filter test (values_of es)))
    [ true ↦ ap (λ rest. e.1 ∷ rest) (values-filter test es) | false ↦ values-filter test es ])

-- The first row that passes, and the rows without it.
use Rattle.std.proofs.Common.{◌≡◌, ℕ, ◌<◌, ◌≤◌, Bool, true, false, cond, not, nat_eq, List, [], ◌∷◌, Option, Some, None, is_some, map, filter, find, length, unwrap_or, refl, sym, ap, subst, ◌∙◌, true≢false, arith}
use Rattle.std.proofs.lemmas.Map.Keys.{IsDistinct-head, IsDistinct-tail}
use Rattle.std.specs.List.{AllByRecursion, IsDistinct}
use Rattle.kg_tables.proofs.TableLemmas.{flipped}
use Rattle.kg_tables.proofs.KeyIndexLemmas.{same_number}

module _ {T : Type 0} (test : T → Bool) where
  abbrev pub first : List T → Option T
  first [] = None
  first (row ∷ rows) = Some row

  -- it is the first of those that pass
  pub first_passing : (rows : List T) → first (filter test rows) ≡ find test rows
  first_passing [] = refl
  first_passing (row ∷ rows) =
      (elim (test row) as (λ b. first (cond {A = List T} b (row ∷ filter test rows) (filter test rows)) ≡ cond {A = Option T} b (Some row) (find test rows))
      [ true ↦ refl | false ↦ first_passing rows ])

  -- where none passes, all are left
  pub all_stay : (rows : List T) → find test rows ≡ None → filter (λ row. not (test row)) rows ≡ rows
  all_stay [] none = refl
  all_stay (row ∷ rows) none =
      (elim (test row) as (λ b. cond {A = Option T} b (Some row) (find test rows) ≡ None → cond {A = List T} (not b) (row ∷ filter (λ r. not (test r)) rows) (filter (λ r. not (test r)) rows) ≡ row ∷ rows) [
        | true ↦ λ some. absurd (true≢false (ap is_some some))
        | false ↦ λ more. ap (λ rest. row ∷ rest) (all_stay rows more)
      ]) none

module _ {T : Type 0} (number : T → ℕ) (test : T → Bool) where
  abbrev pub is_not : ℕ → T → Bool
  is_not id row = not (nat_eq (number row) id)

  abbrev fails : T → Bool
  fails row = not (test row)

  -- no row has the id
  none_has : (id : ℕ) (rows : List T) → AllByRecursion (λ n. nat_eq id n ≡ false) (map number rows) → filter (is_not id) rows ≡ rows
  none_has id [] differ = refl
  none_has id (row ∷ rows) differ =
      ap (λ b. cond {A = List T} (not b) (row ∷ filter (is_not id) rows) (filter (is_not id) rows)) (flipped (number row) id ∙ differ.0)
      ∙ ap (λ rest. row ∷ rest) (none_has id rows differ.1)

  -- the id of the row that is found is another
  differs : (id : ℕ) (found : T) (rows : List T) → AllByRecursion (λ n. nat_eq id n ≡ false) (map number rows) → find test rows ≡ Some found → nat_eq id (number found) ≡ false
  differs id found [] differ is = absurd (true≢false (sym (ap is_some is)))
  differs id found (row ∷ rows) differ is =
      (elim (test row) as (λ b. cond {A = Option T} b (Some row) (find test rows) ≡ Some found → nat_eq id (number found) ≡ false) [
        | true ↦ λ here. ap (λ o. nat_eq id (number (unwrap_or o row))) (sym here) ∙ differ.0
        | false ↦ λ more. differs id found rows differ.1 more
      ]) is

  shorter : (id : ℕ) (rows : List T) → length (filter (is_not id) rows) ≤ length rows
  shorter id [] = omega arith
  shorter id (row ∷ rows) =
      (elim (nat_eq (number row) id) as (λ b. length (cond {A = List T} (not b) (row ∷ filter (is_not id) rows) (filter (is_not id) rows)) ≤ length (row ∷ rows))
      [ true ↦ let rest = shorter id rows in omega arith | false ↦ let rest = shorter id rows in omega arith ])

  -- without the first that passes, and without those that pass
  pub one_gone : (found : T) (rows : List T) → IsDistinct nat_eq (map number rows) → find test rows ≡ Some found → filter fails (filter (is_not (number found)) rows) ≡ filter fails rows
  one_gone found [] distinct is = refl
  one_gone found (row ∷ rows) distinct is =
      (elim (test row) as (λ b. test row ≡ b → cond {A = Option T} b (Some row) (find test rows) ≡ Some found
      → filter fails (cond {A = List T} (is_not (number found) row) (row ∷ filter (is_not (number found)) rows) (filter (is_not (number found)) rows)) ≡ cond {A = List T} (not b) (row ∷ filter fails rows) (filter fails rows)) [
        | true ↦ λ _ here. let same : row ≡ found = ap (λ o. unwrap_or o row) here in
            ap (λ b. filter fails (cond {A = List T} (not b) (row ∷ filter (is_not (number found)) rows) (filter (is_not (number found)) rows))) (ap (λ r. nat_eq (number r) (number found)) same ∙ same_number (number found))
            ∙ ap (filter fails) (ap (λ r. filter (is_not (number r)) rows) (sym same) ∙ none_has (number row) rows (IsDistinct-head nat_eq (number row) (map number rows) distinct))
        | false ↦ λ out more.
            ap (λ b. filter fails (cond {A = List T} (not b) (row ∷ filter (is_not (number found)) rows) (filter (is_not (number found)) rows)))
            (differs (number row) found rows (IsDistinct-head nat_eq (number row) (map number rows) distinct) more)
            ∙ ap (λ b. cond {A = List T} (not b) (row ∷ filter fails (filter (is_not (number found)) rows)) (filter fails (filter (is_not (number found)) rows))) out
            ∙ ap (λ rest. row ∷ rest) (one_gone found rows (IsDistinct-tail nat_eq (number row) (map number rows) distinct) more)
      ]) refl is

  pub one_fewer : (found : T) (rows : List T) → find test rows ≡ Some found → length (filter (is_not (number found)) rows) < length rows
  one_fewer found [] is = absurd (true≢false (sym (ap is_some is)))
  one_fewer found (row ∷ rows) is =
      (elim (test row) as (λ b. cond {A = Option T} b (Some row) (find test rows) ≡ Some found
      → length (cond {A = List T} (is_not (number found) row) (row ∷ filter (is_not (number found)) rows) (filter (is_not (number found)) rows)) < length (row ∷ rows)) [
        | true ↦ λ here. let same : row ≡ found = ap (λ o. unwrap_or o row) here in
            subst (λ b. length (cond {A = List T} (not b) (row ∷ filter (is_not (number found)) rows) (filter (is_not (number found)) rows)) < length (row ∷ rows))
            (sym (ap (λ r. nat_eq (number r) (number found)) same ∙ same_number (number found)))
            (let rest = shorter (number found) rows in omega arith)
        | false ↦ λ more.
            (elim (is_not (number found) row) as (λ b. length (cond {A = List T} b (row ∷ filter (is_not (number found)) rows) (filter (is_not (number found)) rows)) < length (row ∷ rows))
            [ true ↦ let rest = one_fewer found rows more in omega arith | false ↦ let rest = shorter (number found) rows in omega arith ])
      ]) is

-- The ids that the index of places has, in order, are those of the rows.
use Rattle.std.proofs.Common.{◌≡◌, ℕ, zero, suc, ◌+◌, ◌-◌, ◌<◌, ◌++◌, length, arith, Bool, true, false, cond, ◌||◌, ◌&&◌, nat_cmp, nat_eq, nat_lt, List, [], ◌∷◌, Option, Some, None, is_some, map, filter, take, refl, sym, ap, ◌∙◌, Less, Equal, Greater}
use Rattle.std.specs.BTreeMap.Range.{entries_between, range_contains}
use Rattle.std.specs.List.{list_any}
use Rattle.std.specs.List.Sorted.{IsStrictlySortedBy}
use Rattle.std.specs.Map.{keys_of, lookup, values_of}
use Rattle.std.specs.Ordering.{eq_by_cmp, is_lt}
use Rattle.std.specs.declared.ops.Bound.TheVariants.{Unbounded}
use Rattle.std.proofs.lemmas.Cmp.{nat_cmp_total}
use Rattle.std.proofs.lemmas.List.{append_assoc, length-append}
use Rattle.std.proofs.lemmas.List.Kept.{IsStrictlySortedBy-filter}
use Rattle.std.proofs.lemmas.Map.Lookups.{exact_unsigned}
use Rattle.std.proofs.lemmas.Map.Views.{tells_apart}
use Rattle.kg_tables.proofs.PlaceLemmas.{as_numbers, is_some_place}
use Rattle.kg_tables.proofs.SetLemmas.{has_order, same_sorted, sorted_order}
use Rattle.kg_tables.proofs.TableLemmas.{flipped}
use Rattle.kg_tables.specs.IdOrder.{ids_above, is_above}
use Rattle.kg_tables.specs.InOrder.{in_order}
use Rattle.kg_tables.specs.PlaceIndexes.{place_at, place_of, start_of}

-- one of the numbers
abbrev among : ℕ → List ℕ → Bool
among t ids = list_any (eq_by_cmp nat_cmp t) ids

-- the range has the ids above the offset
same_start : (offset : Option ℕ) (id : ℕ) → range_contains nat_cmp (start_of offset) Unbounded id ≡ is_above offset id
same_start None id = refl
same_start (Some last) id =
    (elim (nat_lt last id) as (λ b. (is_lt (cond b Less (cond (nat_eq last id) Equal Greater)) && true) ≡ b) [
      | true ↦ refl
      | false ↦ (elim (nat_eq last id) as (λ b. (is_lt (cond b Equal Greater) && true) ≡ false) [ true ↦ refl | false ↦ refl ])
    ])

keys_between : (test : ℕ → Bool) (es : List (ℕ × ℕ)) → keys_of (filter (λ e. test e.0) es) ≡ filter test (keys_of es)
keys_between test [] = refl
keys_between test (e ∷ es) =
    (elim (test e.0) as (λ b. keys_of (cond {A = List (ℕ × ℕ)} b (e ∷ filter (λ x. test x.0) es) (filter (λ x. test x.0) es)) ≡ cond {A = List ℕ} b (e.0 ∷ filter test (keys_of es)) (filter test (keys_of es)))
    [ true ↦ ap (λ ids. e.0 ∷ ids) (keys_between test es) | false ↦ keys_between test es ])

keys_taken : (n : ℕ) (es : List (ℕ × ℕ)) → keys_of (take n es) ≡ take n (keys_of es)
keys_taken zero es = refl
keys_taken (suc n) [] = refl
keys_taken (suc n) (e ∷ es) = ap (λ ids. e.0 ∷ ids) (keys_taken n es)

-- one more id is taken
pub one_taken : (most : ℕ) (ids : List ℕ) (e : ℕ × ℕ) (rest : List (ℕ × ℕ)) → length ids < most
    → ids ++ keys_of (take (most - length ids) (e ∷ rest)) ≡ (ids ++ e.0 ∷ []) ++ keys_of (take (most - length (ids ++ e.0 ∷ [])) rest)
one_taken most ids e rest below =
    let longer : length (ids ++ e.0 ∷ []) ≡ length ids + 1 = length-append ids (e.0 ∷ []) in
    let one : most - length ids ≡ suc (most - length (ids ++ e.0 ∷ [])) = omega arith in
    ap (λ n. ids ++ keys_of (take n (e ∷ rest))) one ∙ sym (append_assoc ids (e.0 ∷ []) (keys_of (take (most - length (ids ++ e.0 ∷ [])) rest)))

-- of the ids that pass
among_passing : (test : ℕ → Bool) (t : ℕ) (ids : List ℕ) → among t (filter test ids) ≡ (test t && among t ids)
among_passing test t [] = and_false (test t)
  where
    and_false : (b : Bool) → false ≡ (b && false)
    and_false true = refl
    and_false false = refl
among_passing test t (id ∷ ids) =
    (elim (eq_by_cmp nat_cmp t id) as (λ b. eq_by_cmp nat_cmp t id ≡ b → among t (cond {A = List ℕ} (test id) (id ∷ filter test ids) (filter test ids)) ≡ (test t && (b || among t ids))) [
      | true ↦ λ is. let same : t ≡ id = tells_apart exact_unsigned t id is in
          (elim (test id) as (λ b. test id ≡ b → among t (cond {A = List ℕ} b (id ∷ filter test ids) (filter test ids)) ≡ (test t && true)) [
            | true ↦ λ its. ap (λ b. b || among t (filter test ids)) is ∙ sym (ap (λ b. b && true) (ap test same ∙ its))
            | false ↦ λ out. among_passing test t ids ∙ ap (λ b. b && among t ids) (ap test same ∙ out) ∙ sym (ap (λ b. b && true) (ap test same ∙ out))
          ]) refl
      | false ↦ λ apart.
          (elim (test id) as (λ b. among t (cond {A = List ℕ} b (id ∷ filter test ids) (filter test ids)) ≡ (test t && among t ids)) [
            | true ↦ ap (λ b. b || among t (filter test ids)) apart ∙ among_passing test t ids
            | false ↦ among_passing test t ids
          ])
    ]) refl

among_keys : (t : ℕ) (es : List (ℕ × ℕ)) → is_some (lookup (eq_by_cmp nat_cmp t) es) ≡ among t (keys_of es)
among_keys t [] = refl
among_keys t (e ∷ es) =
    (elim (eq_by_cmp nat_cmp t e.0) as (λ b. is_some (cond {A = Option ℕ} b (Some e.1) (lookup (eq_by_cmp nat_cmp t) es)) ≡ (b || among t (keys_of es)))
    [ true ↦ refl | false ↦ among_keys t es ])

module _ {T : Type 0} (number : T → ℕ) where
  among_ids : (t : ℕ) (rows : List T) → list_any (λ row. nat_eq (number row) t) rows ≡ among t (map number rows)
  among_ids t [] = refl
  among_ids t (row ∷ rows) =
      ap (λ b. b || list_any (λ r. nat_eq (number r) t) rows) (flipped (number row) t ∙ sym (as_numbers t (number row)))
      ∙ ap (λ rest. eq_by_cmp nat_cmp t (number row) || rest) (among_ids t rows)

  pub ids_are : (offset : Option ℕ) (most : ℕ) (es : List (ℕ × T)) (places : List (ℕ × ℕ)) → IsStrictlySortedBy nat_cmp (keys_of places) → ((id : ℕ) → place_at places id ≡ place_of number es id)
      → keys_of (take most (entries_between nat_cmp (start_of offset) Unbounded places)) ≡ take most (ids_above offset (map number (values_of es)))
  ids_are offset most es places sorted found =
      keys_taken most (entries_between nat_cmp (start_of offset) Unbounded places)
      ∙ ap (take most) (keys_between (range_contains nat_cmp (start_of offset) Unbounded) places
      ∙ (λ i. filter (λ id. same_start offset id i) keys)
      ∙ same_sorted nat_cmp_total exact_unsigned (filter (is_above offset) keys) (in_order nat_cmp (filter (is_above offset) ids))
      (IsStrictlySortedBy-filter nat_cmp (is_above offset) keys sorted)
      (sorted_order nat_cmp_total exact_unsigned (filter (is_above offset) ids))
      (λ t. among_passing (is_above offset) t keys
      ∙ ap (λ b. is_above offset t && b) (sym (among_keys t places) ∙ ap is_some (found t) ∙ is_some_place number t es ∙ among_ids t (values_of es))
      ∙ sym (among_passing (is_above offset) t ids)
      ∙ sym (has_order nat_cmp_total exact_unsigned t (filter (is_above offset) ids))))
    where
      keys : List ℕ
      keys = keys_of places

      ids : List ℕ
      ids = map number (values_of es)

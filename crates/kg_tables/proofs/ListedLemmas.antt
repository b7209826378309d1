-- The rows at the places that are listed for an id are those that name it, in the order of the list.
use Rattle.std.proofs.Common.{◌≡◌, ℕ, ◌<◌, Bool, true, false, cond, nat_cmp, List, [], ◌∷◌, map, filter, All, refl, sym, ap, ◌∙◌, true≢false}
use Rattle.std.specs.List.{cons_option, filter_map, list_any}
use Rattle.std.specs.List.Sorted.{IsStrictlySortedBy}
use Rattle.std.specs.Map.{keys_of, values_of}
use Rattle.std.specs.Ordering.{eq_by_cmp}
use Rattle.std.proofs.lemmas.List.Elements.{All-cons, All-head, All-nil, All-tail}
use Rattle.kg_tables.proofs.WalkLemmas.{walk_is}
use Rattle.kg_tables.specs.PlaceIndexes.{HasPlaces, row_at, rows_at}

module _ {T : Type 0} (test : T → Bool) where
  by_pairs : (entries : List (ℕ × T)) (pairs : List (ℕ × ℕ)) → filter_map (λ pair. row_at entries pair.1) pairs ≡ filter_map (row_at entries) (map (λ pair. pair.1) pairs)
  by_pairs entries [] = refl
  by_pairs entries (pair ∷ pairs) = ap (cons_option (row_at entries pair.1)) (by_pairs entries pairs)

  abbrev Listed : (ℕ → Bool) → ℕ × T → Type 0
  Listed lists e = test e.1 ≡ true → lists e.0 ≡ true

  pub listed_rows : (entries : List (ℕ × T)) (lists : ℕ → Bool) (end : ℕ) (pairs : List (ℕ × ℕ)) → IsStrictlySortedBy nat_cmp (keys_of entries) → All (λ e. e.0 < end) entries
      → All (Listed lists) entries → HasPlaces lists end pairs → rows_at test entries pairs ≡ filter test (values_of entries)
  listed_rows entries lists end pairs sorted below listed has =
      ap (filter test) (by_pairs entries pairs) ∙ walk_is test entries (map (λ pair. pair.1) pairs) sorted has.order (each entries below listed)
    where
      Among : ℕ × T → Type 0
      Among e = test e.1 ≡ true → list_any (eq_by_cmp nat_cmp e.0) (map (λ pair. pair.1) pairs) ≡ true

      each : (es : List (ℕ × T)) → All (λ e. e.0 < end) es → All (Listed lists) es → All Among es
      each [] low all = All-nil Among
      each (e ∷ es) low all =
          All-cons Among e es (λ passes. has.among e.0 (All-head (λ x. x.0 < end) e es low) (All-head (Listed lists) e es all passes))
          (each es (All-tail (λ x. x.0 < end) e es low) (All-tail (Listed lists) e es all))

  -- where no place is listed, no row passes
  pub none_listed : (entries : List (ℕ × T)) (lists : ℕ → Bool) → ((place : ℕ) → lists place ≡ false) → All (Listed lists) entries → [] ≡ filter test (values_of entries)
  none_listed [] lists none listed = refl
  none_listed (e ∷ es) lists none listed =
      none_listed es lists none (All-tail (Listed lists) e es listed)
      ∙ sym (ap (λ b. cond {A = List T} b (e.1 ∷ filter test (values_of es)) (filter test (values_of es))) (fails (test e.1) refl))
    where
      fails : (b : Bool) → test e.1 ≡ b → b ≡ false
      fails true is = absurd (true≢false (sym (All-head (Listed lists) e es listed is) ∙ none e.0))
      fails false is = refl

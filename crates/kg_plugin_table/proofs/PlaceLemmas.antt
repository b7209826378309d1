-- Places in a list.
use Rattle.std.proofs.Common.{◌≡◌, ℕ, ◌+◌, ◌||◌, true≢false, find, inl, inr, is_some, IsTrue, subst, Bool, true, false, cond, List, [], ◌∷◌, ◌++◌, length, Some, None, sym, refl, ap, ◌∙◌, nat_lt, arith}
use Rattle.std.proofs.lemmas.Bool.{ltb-false, ltb-true}
use Rattle.std.proofs.lemmas.List.Folds.{find_at}
use Rattle.std.proofs.lemmas.Option.{slice_get_cases, slice_get_past}
use Rattle.std.proofs.lemmas.Iterator.Adapters.{position_from-zero}
use Rattle.std.specs.List.{list_any, position, position_from, position_or_len}
use Rattle.std.specs.Option.{option_or}
use Rattle.kg_row_types.specs.declared.plugin.PluginRow.{PluginRow}
use Rattle.kg_plugin_table.specs.PluginRows.{IsPlaceOf}

position_from-push : {A : Type 0} (test : A → Bool) (at : ℕ) (xs : List A) (x : A) → position_from test at (xs ++ x ∷ []) ≡ option_or (position_from test at xs) (cond (test x) (Some (at + length xs)) None)
position_from-push test at [] x = ap (λ n. cond (test x) (Some n) None) (omega arith)
position_from-push test at (y ∷ ys) x = by_test (test y) (position_from-push test (at + 1) ys x)
  where
    next : at + 1 + length ys ≡ at + length (y ∷ ys)
    next = omega arith

    by_test : (passes : Bool) → position_from test (at + 1) (ys ++ x ∷ []) ≡ option_or (position_from test (at + 1) ys) (cond (test x) (Some (at + 1 + length ys)) None) → cond passes (Some at) (position_from test (at + 1) (ys ++ x ∷ [])) ≡ option_or (cond passes (Some at) (position_from test (at + 1) ys)) (cond (test x) (Some (at + length (y ∷ ys))) None)
    by_test true later = refl
    by_test false later = later ∙ ap (λ n. option_or (position_from test (at + 1) ys) (cond (test x) (Some n) None)) next

-- the first place that passes, with one more member at the end
pub position-push : {A : Type 0} (test : A → Bool) (xs : List A) (x : A) → position test (xs ++ x ∷ []) ≡ option_or (position test xs) (cond (test x) (Some (length xs)) None)
position-push test xs x =
    position_from-zero test (xs ++ x ∷ [])
    ∙ position_from-push test 0 xs x
    ∙ ap (λ n. option_or (position_from test 0 xs) (cond (test x) (Some n) None)) (omega arith)
    ∙ ap (λ first. option_or first (cond (test x) (Some (length xs)) None)) (sym (position_from-zero test xs))

-- the first row that passes stands at the first place that passes
pub place_of_first : (test : PluginRow → Bool) (rows : List PluginRow) → IsPlaceOf rows (find test rows) (position test rows)
place_of_first test rows = by_within (nat_lt (position_or_len test rows) (length rows)) refl
  where
    by_within : (within : Bool) → nat_lt (position_or_len test rows) (length rows) ≡ within
        → IsPlaceOf rows (find test rows) (cond within (Some (position_or_len test rows)) None)
    by_within true is = elim (slice_get_cases rows (position_or_len test rows)).1 [
      | inl (row, within, some, same) ↦ (subst (λ found. IsTrue (is_some found)) (sym (find_at test rows ∙ some)) refl, sym (find_at test rows))
      | inr (past, none) ↦ absurd (omega (arith, past, ltb-true (position_or_len test rows) (length rows) is))
    ]
    by_within false is = find_at test rows ∙ slice_get_past rows (position_or_len test rows) (ltb-false (position_or_len test rows) (length rows) is)

-- tests that say the same of each member find the same
pub find_alike : {A : Type 0} (p q : A → Bool) → ((x : A) → p x ≡ q x) → (xs : List A) → find p xs ≡ find q xs
find_alike p q same [] = refl
find_alike p q same (x ∷ xs) = ap (λ t. cond t (Some x) (find p xs)) (same x) ∙ ap (λ found. cond (q x) (Some x) found) (find_alike p q same xs)

-- where no member passes a weaker test, none is found
pub find_nothing : {A : Type 0} (p q : A → Bool) → ((x : A) → q x ≡ false → p x ≡ false) → (xs : List A) → list_any q xs ≡ false → find p xs ≡ None
find_nothing p q weaker [] none = refl
find_nothing p q weaker (x ∷ xs) none = by_test (q x) refl none (find_nothing p q weaker xs)
  where
    by_test : (passes : Bool) → q x ≡ passes → (passes || list_any q xs) ≡ false → (list_any q xs ≡ false → find p xs ≡ None) → cond (p x) (Some x) (find p xs) ≡ None
    by_test true is none later = absurd (true≢false none)
    by_test false is none later = ap (λ t. cond t (Some x) (find p xs)) (weaker x is) ∙ later none

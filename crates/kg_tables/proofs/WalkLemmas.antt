-- The rows at listed places, in the order of the places, are the rows that pass, in the order of the list.
use Rattle.std.proofs.Common.{◌≡◌, ℕ, Bool, true, false, cond, ◌||◌, nat_cmp, is_eq, List, [], ◌∷◌, ◌++◌, Option, Some, None, is_some, filter, All, refl, sym, ap, subst, ◌∙◌, true≢false, Less}
use Rattle.std.proofs.lemmas.Cmp.{eq_by_cmp_equiv, nat_cmp_total}
use Rattle.std.proofs.lemmas.List.Elements.{All-head, All-tail, filter-append}
use Rattle.std.proofs.lemmas.Map.Keys.{sorted_head, sorted_tail}
use Rattle.std.proofs.lemmas.Map.Lookups.{exact_unsigned}
use Rattle.std.proofs.lemmas.Map.Views.{tells_apart}
use Rattle.std.specs.List.{AllByRecursion, cons_option, filter_map, list_any}
use Rattle.std.specs.List.Sorted.{IsStrictlySortedBy}
use Rattle.std.specs.Map.{keys_of, lookup, values_of}
use Rattle.std.specs.Ordering.{eq_by_cmp}

none_before : (k : ℕ) (ps : List ℕ) → AllByRecursion (λ q. nat_cmp k q ≡ Less) ps → list_any (eq_by_cmp nat_cmp k) ps ≡ false
none_before k [] all = refl
none_before k (p ∷ ps) all = ap (λ o. is_eq o || list_any (eq_by_cmp nat_cmp k) ps) all.0 ∙ none_before k ps all.1

all_behind : (k p : ℕ) (ps : List ℕ) → nat_cmp k p ≡ Less → AllByRecursion (λ q. nat_cmp p q ≡ Less) ps → AllByRecursion (λ q. nat_cmp k q ≡ Less) ps
all_behind k p [] before all = all
all_behind k p (q ∷ ps) before all = (nat_cmp_total.trans k p q before all.0, all_behind k p ps before all.1)

module _ {T : Type 0} where
  abbrev look : List (ℕ × T) → ℕ → Option T
  look es p = lookup (eq_by_cmp nat_cmp p) es

  -- nothing stands at a place before all
  look_before : (p : ℕ) (es : List (ℕ × T)) → AllByRecursion (λ k. nat_cmp p k ≡ Less) (keys_of es) → look es p ≡ None
  look_before p [] all = refl
  look_before p (e ∷ es) all = ap (λ o. cond {A = Option T} (is_eq o) (Some e.1) (look es p)) all.0 ∙ look_before p es all.1

  -- a place with a row stands behind what is before all
  look_behind : (k p : ℕ) (row : T) (es : List (ℕ × T)) → AllByRecursion (λ q. nat_cmp k q ≡ Less) (keys_of es) → look es p ≡ Some row → nat_cmp k p ≡ Less
  look_behind k p row [] all is = absurd (true≢false (ap is_some (sym is)))
  look_behind k p row (e ∷ es) all is =
      (elim (eq_by_cmp nat_cmp p e.0) as (λ b. eq_by_cmp nat_cmp p e.0 ≡ b → cond {A = Option T} b (Some e.1) (look es p) ≡ Some row → nat_cmp k p ≡ Less) [
        | true ↦ λ its _. subst (λ q. nat_cmp k q ≡ Less) (sym (tells_apart exact_unsigned p e.0 its)) all.0
        | false ↦ λ _ more. look_behind k p row es all.1 more
      ]) refl is

  -- the first row comes first, if its place is listed
  split_walk : (e : ℕ × T) (es : List (ℕ × T)) (ps : List ℕ) → IsStrictlySortedBy nat_cmp (keys_of (e ∷ es)) → IsStrictlySortedBy nat_cmp ps
      → filter_map (look (e ∷ es)) ps ≡ cond {A = List T} (list_any (eq_by_cmp nat_cmp e.0) ps) (e.1 ∷ []) [] ++ filter_map (look es) ps
  split_walk e es [] keys places = refl
  split_walk e es (p ∷ ps) keys places =
      (elim (eq_by_cmp nat_cmp p e.0) as (λ b. eq_by_cmp nat_cmp p e.0 ≡ b → cons_option (cond {A = Option T} b (Some e.1) (look es p)) (filter_map (look (e ∷ es)) ps)
      ≡ cond {A = List T} (eq_by_cmp nat_cmp e.0 p || any) (e.1 ∷ []) [] ++ cons_option (look es p) rest) [
        | true ↦ λ its. let here : p ≡ e.0 = tells_apart exact_unsigned p e.0 its in
            ap (λ more. e.1 ∷ more) (split_walk e es ps keys (sorted_tail nat_cmp p ps places)
            ∙ ap (λ b. cond {A = List T} b (e.1 ∷ []) [] ++ rest) (none_before e.0 ps (subst (λ k. AllByRecursion (λ q. nat_cmp k q ≡ Less) ps) here (sorted_head nat_cmp p ps places))))
            ∙ sym (ap (λ b. cond {A = List T} (b || any) (e.1 ∷ []) [] ++ cons_option (look es p) rest) ((eq_by_cmp_equiv nat_cmp_total).symm e.0 p ∙ its)
            ∙ ap (λ o. e.1 ∷ cons_option o rest) (ap (look es) here ∙ look_before e.0 es (sorted_head nat_cmp e.0 (keys_of es) keys)))
        | false ↦ λ apart.
            ap (cons_option (look es p)) (split_walk e es ps keys (sorted_tail nat_cmp p ps places))
            ∙ by (look es p) refl
            ∙ sym (ap (λ b. cond {A = List T} (b || any) (e.1 ∷ []) [] ++ cons_option (look es p) rest) ((eq_by_cmp_equiv nat_cmp_total).symm e.0 p ∙ apart))
      ]) refl
    where
      any : Bool
      any = list_any (eq_by_cmp nat_cmp e.0) ps

      rest : List T
      rest = filter_map (look es) ps

      by : (o : Option T) → look es p ≡ o → cons_option o (cond {A = List T} any (e.1 ∷ []) [] ++ rest) ≡ cond {A = List T} any (e.1 ∷ []) [] ++ cons_option o rest
      by None is = refl
      by (Some row) is =
          let none : any ≡ false = none_before e.0 ps (all_behind e.0 p ps (look_behind e.0 p row es (sorted_head nat_cmp e.0 (keys_of es) keys) is) (sorted_head nat_cmp p ps places)) in
          ap (λ b. row ∷ (cond {A = List T} b (e.1 ∷ []) [] ++ rest)) none ∙ sym (ap (λ b. cond {A = List T} b (e.1 ∷ []) [] ++ (row ∷ rest)) none)

  walk_none : (ps : List ℕ) → filter_map (look []) ps ≡ []
  walk_none [] = refl
  walk_none (p ∷ ps) = walk_none ps

  pub walk_is : (test : T → Bool) (es : List (ℕ × T)) (ps : List ℕ) → IsStrictlySortedBy nat_cmp (keys_of es) → IsStrictlySortedBy nat_cmp ps
      → All (λ e. test e.1 ≡ true → list_any (eq_by_cmp nat_cmp e.0) ps ≡ true) es → filter test (filter_map (look es) ps) ≡ filter test (values_of es)
  walk_is test [] ps keys places listed = ap (filter test) (walk_none ps)
  walk_is test (e ∷ es) ps keys places listed =
      ap (filter test) (split_walk e es ps keys places)
      ∙ filter-append test (cond {A = List T} any (e.1 ∷ []) []) (filter_map (look es) ps)
      ∙ ap (λ rest. filter test (cond {A = List T} any (e.1 ∷ []) []) ++ rest)
      (walk_is test es ps (sorted_tail nat_cmp e.0 (keys_of es) keys) places (All-tail (λ x. test x.1 ≡ true → list_any (eq_by_cmp nat_cmp x.0) ps ≡ true) e es listed))
      ∙ (elim (test e.1) as (λ b. test e.1 ≡ b → filter test (cond {A = List T} any (e.1 ∷ []) []) ++ others ≡ cond {A = List T} b (e.1 ∷ others) others) [
        | true ↦ λ its. ap (λ b. filter test (cond {A = List T} b (e.1 ∷ []) []) ++ others) (All-head (λ x. test x.1 ≡ true → list_any (eq_by_cmp nat_cmp x.0) ps ≡ true) e es listed its)
            ∙ ap (λ b. cond {A = List T} b (e.1 ∷ []) [] ++ others) its
        | false ↦ λ out. (elim any as (λ b. filter test (cond {A = List T} b (e.1 ∷ []) []) ++ others ≡ others)
            [ true ↦ ap (λ b. cond {A = List T} b (e.1 ∷ []) [] ++ others) out | false ↦ refl ])
      ]) refl
    where
      any : Bool
      any = list_any (eq_by_cmp nat_cmp e.0) ps

      others : List T
      others = filter test (values_of es)

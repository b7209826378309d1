-- The row that is chosen is tied most closely to the request.
use Rattle.std.proofs.Common.{◌≡◌, ℕ, ◌+◌, ◌<◌, ◌≤◌, suc, Bool, true, false, cond, ◌&&◌, nat_eq, List, [], ◌∷◌, length, Option, Some, None, IfSome, All, Contains, find, is_some, get_or, refl, sym, ap, subst, ◌∙◌, ⊎_elim, true≢false, arith}
use Rattle.std.proofs.lemmas.Bool.{cases_lt, eqb-true, false_from_ne_true}
use Rattle.std.proofs.lemmas.List.Elements.{All-cons, All-nil}
use Rattle.std.specs.Option.{option_eq, option_or}
use Rattle.kg_row_types.specs.PluginNames.{plugin_of, same_plugin}
use Rattle.kg_row_types.specs.declared.plugin.PluginName.{PluginName}
use Rattle.kg_row_types.specs.declared.plugin.PluginRow.{PluginRow}
use Rattle.kg_row_types.specs.declared.plugin.Scope.{Scope}
use Rattle.kg_plugin_table.specs.Closest.{IsChoice, IsClosest}
use Rattle.kg_plugin_table.specs.Precedence.{chosen_row, first_found, precedence_of, precedences, rank, row_with, runs_with, scope_fits}

-- ---- what a search finds

none_passes : {A : Type 0} (test : A → Bool) (xs : List A) → find test xs ≡ None → All (λ x. test x ≡ false) xs
none_passes test [] none = All-nil (λ x. test x ≡ false)
none_passes {A} test (x ∷ xs) none = by_test (test x) refl none (none_passes test xs)
  where
    by_test : (passes : Bool) → test x ≡ passes → cond passes (Some x) (find test xs) ≡ None → (find test xs ≡ None → All (λ y. test y ≡ false) xs) → All (λ y. test y ≡ false) (x ∷ xs)
    by_test true is none later = absurd (true≢false (ap is_some none))
    by_test false is none later = All-cons (λ y. test y ≡ false) x xs is (later none)

-- one of the list that passes
abbrev Passes : {A : Type 0} → (A → Bool) → List A → A → Type 0
Passes test xs x = Contains xs x × (test x ≡ true)

found_passes : {A : Type 0} (test : A → Bool) (xs : List A) → IfSome (find test xs) (Passes test xs)
found_passes test [] = tt
found_passes {A} test (x ∷ xs) = by_test (test x) refl (find test xs) (found_passes test xs)
  where
    by_test : (passes : Bool) → test x ≡ passes → (found : Option A) → IfSome found (Passes test xs) → IfSome (cond passes (Some x) found) (Passes test (x ∷ xs))
    by_test true is found later = ((0, omega arith, refl), is)
    by_test false is None later = tt
    by_test false is (Some y) later = ((suc later.0.0, omega (arith, later.0.1), later.0.2), later.1)

-- ---- precedences are 1 to 8

rank_within : (a b c : Bool) → (1 ≤ rank a b c) × (rank a b c ≤ 8)
rank_within true true true = (omega arith, omega arith)
rank_within true true false = (omega arith, omega arith)
rank_within true false true = (omega arith, omega arith)
rank_within false true true = (omega arith, omega arith)
rank_within true false false = (omega arith, omega arith)
rank_within false true false = (omega arith, omega arith)
rank_within false false true = (omega arith, omega arith)
rank_within false false false = (omega arith, omega arith)

second : (a b : Bool) → (a && b) ≡ true → b ≡ true
second true b both = both
second false b both = absurd (true≢false (sym both))

precedence_within : (name : PluginName) (request : Scope) (number : ℕ) (row : PluginRow) → runs_with name request number row ≡ true → (1 ≤ number) × (number ≤ 8)
precedence_within name request number row runs =
    by_fit (scope_fits own request) (second (row.enabled && same_plugin (plugin_of row.config) name) (option_eq nat_eq (precedence_of own request) (Some number)) runs)
  where
    own : Scope
    own = row.scope

    it : ℕ
    it = rank (is_some own.consumer) (is_some own.route) (is_some own.service)

    by_fit : (fits : Bool) → option_eq nat_eq (cond fits (Some it) None) (Some number) ≡ true → (1 ≤ number) × (number ≤ 8)
    by_fit true same = subst (λ n. (1 ≤ n) × (n ≤ 8)) (eqb-true it number same) (rank_within (is_some own.consumer) (is_some own.route) (is_some own.service))
    by_fit false same = absurd (true≢false (sym same))

-- ---- the search from the closest tie on

-- none of the rows runs with a smaller precedence
abbrev NoneBelow : List PluginRow → PluginName → Scope → ℕ → Type 0
NoneBelow rows name request number = All (λ other. (smaller : ℕ) → smaller < number → runs_with name request smaller other ≡ false) rows

-- a list counts up from a number
abbrev CountsUp : ℕ → List ℕ → Type 0
CountsUp number [] = Unit {0}
CountsUp number (x ∷ xs) = (number ≡ x) × CountsUp (number + 1) xs

-- the closest row, or none below the end
abbrev Comes : List PluginRow → PluginName → Scope → ℕ → Option PluginRow → Type 0
Comes rows name request end (Some row) = IsClosest rows name request row
Comes rows name request end None = NoneBelow rows name request end

first_is_closest : (rows : List PluginRow) (name : PluginName) (request : Scope) (number : ℕ) (row : PluginRow)
    → row_with rows name request number ≡ Some row → NoneBelow rows name request number → IsClosest rows name request row
first_is_closest rows name request number row is below =
    let passes : Passes (runs_with name request number) rows row = subst (λ found. IfSome found (Passes (runs_with name request number) rows)) is (found_passes (runs_with name request number) rows) in
    record {
      listed = passes.0;
      precedence = number;
      runs = passes.1;
      least = λ k d within other runs. ⊎_elim (λ less. absurd (true≢false (sym runs ∙ below k d within other less))) (λ most. most) (cases_lt other number);
    }

comes : (rows : List PluginRow) (name : PluginName) (request : Scope) (end number : ℕ) (numbers : List ℕ)
    → number + length numbers ≡ end → CountsUp number numbers → NoneBelow rows name request number → Comes rows name request end (first_found (row_with rows name request) numbers)
comes rows name request end number [] ends counts below = subst (NoneBelow rows name request) (omega (arith, ends)) below
comes rows name request end number (x ∷ xs) ends counts below =
    by_found (row_with rows name request number) refl (ap (row_with rows name request) counts.0) (comes rows name request end (number + 1) xs (omega (arith, ends)) counts.1)
  where
    by_found : (found : Option PluginRow) → row_with rows name request number ≡ found → found ≡ row_with rows name request x
        → (NoneBelow rows name request (number + 1) → Comes rows name request end (first_found (row_with rows name request) xs))
        → Comes rows name request end (option_or (row_with rows name request x) (first_found (row_with rows name request) xs))
    by_found (Some row) is same later = subst (λ found. Comes rows name request end (option_or found (first_found (row_with rows name request) xs))) same (first_is_closest rows name request number row is below)
    by_found None is same later = subst (λ found. Comes rows name request end (option_or found (first_found (row_with rows name request) xs))) same (later none)
      where
        none : NoneBelow rows name request (number + 1)
        none k d within smaller less =
            ⊎_elim (λ far. below k d within smaller far)
            (λ near. subst (λ n. runs_with name request n (get_or rows k d) ≡ false) (omega (arith, less, near)) (none_passes (runs_with name request number) rows is k d within))
            (cases_lt smaller number)

pub chosen_is_choice : (rows : List PluginRow) (name : PluginName) (request : Scope) → IsChoice rows name request (chosen_row rows name request)
chosen_is_choice rows name request =
    by_found (chosen_row rows name request)
    (comes rows name request 9 1 precedences refl (refl, (refl, (refl, (refl, (refl, (refl, (refl, (refl, tt))))))))
    (λ k d within smaller less. false_from_ne_true (runs_with name request smaller (get_or rows k d)) (λ runs. omega (arith, less, (precedence_within name request smaller (get_or rows k d) runs).0))))
  where
    by_found : (found : Option PluginRow) → Comes rows name request 9 found → IsChoice rows name request found
    by_found (Some row) closest = closest
    by_found None below = λ k d within number.
        false_from_ne_true (runs_with name request number (get_or rows k d))
        (λ runs. true≢false (sym runs ∙ below k d within number (omega (arith, (precedence_within name request number (get_or rows k d) runs).1))))

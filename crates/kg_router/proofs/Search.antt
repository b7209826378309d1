-- What `find` and `filter` give, as members.
use Rattle.std.proofs.Common.{◌≡◌, Bool, true, false, cond, List, [], ◌∷◌, Option, Some, None, refl, sym, ap, ◌∙◌, subst, find, filter, All, Contains, true≢false, arith}
use Rattle.std.specs.List.{position_or_len}
use Rattle.std.proofs.lemmas.List.Elements.{All-cons, All-head, All-tail, All-contains, All-contains_itself, All-filter, filter_passes}
use Rattle.std.proofs.lemmas.List.Folds.{find_at}
use Rattle.std.proofs.lemmas.Option.{same_Some, slice_get_within, get_or_from_slice_get}

-- what is found passes the test
pub find-passes : {A : Type 0} (test : A → Bool) (xs : List A) (one : A) → find test xs ≡ Some one → test one ≡ true
find-passes test [] one found = absurd (cc)
find-passes {A} test (x ∷ xs) one found = by_test (test x) refl found (find-passes test xs one)
  where
    by_test : (passes : Bool) → test x ≡ passes → cond passes (Some x) (find test xs) ≡ Some one → (find test xs ≡ Some one → test one ≡ true) → test one ≡ true
    by_test true is found later = subst (λ y. test y ≡ true) (same_Some x one found) is
    by_test false is found later = later found

-- what is found is a member
pub Contains-find : {A : Type 0} (test : A → Bool) (xs : List A) (one : A) → find test xs ≡ Some one → Contains xs one
Contains-find test xs one found =
    let at = position_or_len test xs in
    let is = sym (find_at test xs) ∙ found in
    (at, slice_get_within xs at one is, get_or_from_slice_get xs at one one is)

-- where nothing is found, each member fails
pub find-none : {A : Type 0} (test : A → Bool) (xs : List A) → find test xs ≡ None → All (λ x. test x ≡ false) xs
find-none test [] none = λ k d within. absurd (omega arith)
find-none {A} test (x ∷ xs) none = by_test (test x) refl none (find-none test xs)
  where
    by_test : (passes : Bool) → test x ≡ passes → cond passes (Some x) (find test xs) ≡ None → (find test xs ≡ None → All (λ y. test y ≡ false) xs) → All (λ y. test y ≡ false) (x ∷ xs)
    by_test true is none later = absurd (cc)
    by_test false is none later = All-cons (λ y. test y ≡ false) x xs is (later none)

-- the only member that passes is found
pub find-only : {A : Type 0} (test : A → Bool) (xs : List A) (one : A) → Contains xs one → test one ≡ true → ((x : A) → Contains xs x → test x ≡ true → x ≡ one) → find test xs ≡ Some one
find-only {A} test xs one within passes only = by_found (find test xs) refl
  where
    by_found : (found : Option A) → find test xs ≡ found → find test xs ≡ Some one
    by_found None is = absurd (true≢false (sym passes ∙ All-contains (λ x. test x ≡ false) xs one (find-none test xs is) within))
    by_found (Some x) is = is ∙ ap Some (only x (Contains-find test xs x is) (find-passes test xs x is))

-- what holds of all that pass a test holds of each member that passes it
pub All-filtered : {A : Type 0} (P : A → Type 0) (test : A → Bool) (xs : List A) → All P (filter test xs) → All (λ x. test x ≡ true → P x) xs
All-filtered P test [] each = λ k d within. absurd (omega arith)
All-filtered {A} P test (x ∷ xs) each = by_test (test x) refl each (All-filtered P test xs)
  where
    by_test : (passes : Bool) → test x ≡ passes → All P (cond passes (x ∷ filter test xs) (filter test xs)) → (All P (filter test xs) → All (λ y. test y ≡ true → P y) xs) → All (λ y. test y ≡ true → P y) (x ∷ xs)
    by_test true is each later = All-cons (λ y. test y ≡ true → P y) x xs (λ _. All-head P x (filter test xs) each) (later (All-tail P x (filter test xs) each))
    by_test false is each later = All-cons (λ y. test y ≡ true → P y) x xs (λ passes. absurd (true≢false (sym passes ∙ is))) (later each)

-- the members that pass are members of what is filtered
pub Contains-filter : {A : Type 0} (test : A → Bool) (xs : List A) (x : A) → Contains xs x → test x ≡ true → Contains (filter test xs) x
Contains-filter test xs x within = All-contains (λ y. test y ≡ true → Contains (filter test xs) y) xs x (All-filtered (Contains (filter test xs)) test xs (All-contains_itself (filter test xs))) within

-- and the other way round
pub Contains-filtered : {A : Type 0} (test : A → Bool) (xs : List A) (x : A) → Contains (filter test xs) x → Contains xs x × (test x ≡ true)
Contains-filtered test xs x within = (
  All-contains (Contains xs) (filter test xs) x (All-filter test (Contains xs) xs (All-contains_itself xs)) within,
  All-contains (λ y. test y ≡ true) (filter test xs) x (filter_passes test xs) within,
)

-- where each member fails, nothing is left
pub filter-none : {A : Type 0} (test : A → Bool) (xs : List A) → All (λ x. test x ≡ false) xs → filter test xs ≡ []
filter-none test [] each = refl
filter-none test (x ∷ xs) each =
    ap (λ b. cond b (x ∷ filter test xs) (filter test xs)) (All-head (λ y. test y ≡ false) x xs each)
    ∙ filter-none test xs (All-tail (λ y. test y ≡ false) x xs each)

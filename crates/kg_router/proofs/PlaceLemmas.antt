-- Where the services stand.
use Rattle.std.proofs.Common.{◌≡◌, ℕ, ◌+◌, ◌<◌, Bool, true, false, cond, List, [], ◌∷◌, ◌++◌, length, Some, None, IfSome, sym, refl, ap, ◌∙◌, nat_lt, arith}
use Rattle.std.proofs.lemmas.Bool.{ltb-true}
use Rattle.std.proofs.lemmas.Iterator.Adapters.{position_from-zero}
use Rattle.std.specs.List.{position, position_from, position_or_len}
use Rattle.std.specs.Option.{option_or}

position_from-push : {A : Type 0} (test : A → Bool) (at : ℕ) (xs : List A) (x : A) → position_from test at (xs ++ x ∷ []) ≡ option_or (position_from test at xs) (cond (test x) (Some (at + length xs)) None)
position_from-push test at [] x = ap (λ n. cond (test x) (Some n) None) (omega arith)
position_from-push test at (y ∷ ys) x = by_test (test y) (position_from-push test (at + 1) ys x)
  where
    next : at + 1 + length ys ≡ at + length (y ∷ ys)
    next = omega arith

    by_test : (passes : Bool) → position_from test (at + 1) (ys ++ x ∷ []) ≡ option_or (position_from test (at + 1) ys) (cond (test x) (Some (at + 1 + length ys)) None) → cond passes (Some at) (position_from test (at + 1) (ys ++ x ∷ [])) ≡ option_or (cond passes (Some at) (position_from test (at + 1) ys)) (cond (test x) (Some (at + length (y ∷ ys))) None)
    by_test true later = refl
    by_test false later = later ∙ ap (λ n. option_or (position_from test (at + 1) ys) (cond (test x) (Some n) None)) next

-- the first place that passes, with one more member at the end
pub position-push : {A : Type 0} (test : A → Bool) (xs : List A) (x : A) → position test (xs ++ x ∷ []) ≡ option_or (position test xs) (cond (test x) (Some (length xs)) None)
position-push test xs x =
    position_from-zero test (xs ++ x ∷ [])
    ∙ position_from-push test 0 xs x
    ∙ ap (λ n. option_or (position_from test 0 xs) (cond (test x) (Some n) None)) (omega arith)
    ∙ ap (λ first. option_or first (cond (test x) (Some (length xs)) None)) (sym (position_from-zero test xs))

-- it is a place in the list
pub position-within : {A : Type 0} (test : A → Bool) (xs : List A) → IfSome (position test xs) (λ place. place < length xs)
position-within test xs = by_within (nat_lt (position_or_len test xs) (length xs)) refl
  where
    by_within : (within : Bool) → nat_lt (position_or_len test xs) (length xs) ≡ within → IfSome (cond within (Some (position_or_len test xs)) None) (λ place. place < length xs)
    by_within true is = ltb-true (position_or_len test xs) (length xs) is
    by_within false is = tt

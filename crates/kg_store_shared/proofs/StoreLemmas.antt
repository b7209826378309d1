-- The last commit of a list that is longer by one.
use Rattle.std.proofs.Common.{◌≡◌, ◌+◌, ◌-◌, List, [], ◌∷◌, ◌++◌, length, refl, sym, ap, subst, ◌∙◌, arith, length-append}
use Rattle.std.specs.Prelude.{slice_get, Some}
use mathlib.Core.List.{IsPrefix}

-- a list of one member
one_member : {A : Type 0} (xs : List A) → length xs ≡ 1 → (x : A) × (xs ≡ x ∷ [])
one_member [] one = absurd (omega (arith, one))
one_member (x ∷ []) one = (x, refl)
one_member (x ∷ y ∷ xs) one = absurd (omega (arith, one))

-- the member behind a front stands at the front's length
behind : {A : Type 0} (xs : List A) (x : A) → slice_get (xs ++ x ∷ []) (length xs) ≡ Some x
behind [] x = refl
behind (y ∷ xs) x = behind xs x

-- what the list has more than its front is its last member
pub with_last : {A : Type 0} (xs ys : List A) → IsPrefix xs ys → length ys ≡ length xs + 1
    → (x : A) × (xs ++ x ∷ [] ≡ ys) × (slice_get ys (length ys - 1) ≡ Some x)
with_last xs ys front longer =
    let more : length front.0 ≡ 1 = omega (arith, longer, sym (ap length front.1), length-append xs front.0) in
    let last = one_member front.0 more in
    let whole : xs ++ last.0 ∷ [] ≡ ys = ap (λ rest. xs ++ rest) (sym last.1) ∙ front.1 in
    let place : length ys - 1 ≡ length xs = omega (arith, longer) in
    (last.0, whole, subst (λ l. slice_get l (length ys - 1) ≡ Some last.0) whole (subst (λ n. slice_get (xs ++ last.0 ∷ []) n ≡ Some last.0) (sym place) (behind xs last.0)))

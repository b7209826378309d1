-- A pile of equal names, taken from its end.
use Rattle.std.proofs.Common.{◌≡◌, ℕ, ◌+◌, ◌-◌, zero, suc, List, length, take, replicate, slice_index_or, refl, ap, ◌∙◌, arith}
use Rattle.std.proofs.lemmas.List.{length-replicate, take-replicate}

same_anywhere : {A : Type 0} (n i : ℕ) (a : A) → slice_index_or (replicate n a) i a ≡ a
same_anywhere zero i a = refl
same_anywhere (suc n) zero a = refl
same_anywhere (suc n) (suc i) a = same_anywhere n i a

-- each is the same
pub pile_last : {A : Type 0} (n i : ℕ) (a : A) (pile : List A) → pile ≡ replicate n a → slice_index_or pile i a ≡ a
pile_last n i a pile same = ap (λ l. slice_index_or l i a) same ∙ same_anywhere n i a

-- one less is left
pub pile_left : {A : Type 0} (n m len : ℕ) (a : A) (pile left : List A) → pile ≡ replicate n a → n ≡ 1 + m
    → len ≡ length pile → left ≡ take (len - 1) pile → left ≡ replicate m a
pile_left n m len a pile left same more long taken =
    let all : len ≡ n = long ∙ ap length same ∙ length-replicate n a in
    let less : len - 1 ≡ m = omega (arith, all, more) in
    taken
    ∙ ap (λ l. take (len - 1) l) same
    ∙ take-replicate (len - 1) n a (omega (arith, less, more))
    ∙ ap (λ k. replicate k a) less

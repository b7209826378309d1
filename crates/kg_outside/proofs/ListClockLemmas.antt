-- What a clock of a list reads.
use Rattle.std.specs.Prelude.{◌≡◌, ℕ, ◌≤◌, List, [], ◌∷◌, ◌++◌, fold, length, replicate, take, refl}
use Rattle.std.proofs.Common.{zero, suc, sym, ap, ◌∙◌, arith}
use Rattle.kg_outside.specs.Readings.{Readings, first_reading, later_readings, one_read, reading_now, readings_of}
use Rattle.kg_outside.specs.Runs.{IsRun}

-- a front has as many repeats of the last as it needs
enough : (xs : List ℕ) (last n m : ℕ) → n ≤ m → take n (xs ++ replicate m last) ≡ take n (xs ++ replicate n last)
enough xs last zero m within = refl
enough [] last (suc n) zero within = absurd (omega arith)
enough [] last (suc n) (suc m) within = ap (λ more. last ∷ more) (enough [] last n m (omega arith))
enough (x ∷ xs) last (suc n) m within =
    ap (λ more. x ∷ more) (enough xs last n m (omega arith) ∙ sym (enough xs last n (suc n) (omega arith)))

-- one reading, and those after it
one_more_of : (left : List ℕ) (n : ℕ) → readings_of left (suc n) ≡ first_reading left ∷ readings_of (later_readings left) n
one_more_of [] n = refl
one_more_of (last ∷ []) n = refl
one_more_of (x ∷ next ∷ later) n =
    ap (λ more. x ∷ more) (enough (next ∷ later) (fold (λ _ reading. reading) next later) n (suc n) (omega arith))

-- the outputs of a run are the readings of the list
pub run_given : (before after : Readings) (readings : List ℕ)
    → IsRun reading_now one_read before after readings → readings ≡ readings_of before.left (length readings)
run_given before after [] run = refl
run_given before after (x ∷ xs) run =
    let later : xs ≡ readings_of (later_readings before.left) (length xs) = run_given (one_read before) after xs run.1 in
    let first : x ≡ first_reading before.left = run.0 in
    let all = one_more_of before.left (length xs) in
    cc

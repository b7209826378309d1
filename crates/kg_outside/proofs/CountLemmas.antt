-- The runs of a machine that counts its steps.
use Rattle.std.specs.Prelude.{◌≡◌, ℕ, ◌+◌, ◌-◌, ◌<◌, ◌^◌, min, List, [], ◌∷◌, length, map, refl}
use Rattle.std.specs.List.{range_with_len}
use Rattle.std.proofs.Common.{ap, ◌∙◌, subst, arith}
use Rattle.kg_outside.specs.Counts.{one_more}
use Rattle.kg_outside.specs.Runs.{IsRun}

-- below the end of 64 bits, one more is the next number
pub one_more-below : (count : ℕ) → count + 1 < 2 ^ 64 → one_more count ≡ count + 1
one_more-below count below = omega arith

-- the outputs are the values of the numbers that follow
pub run_outputs : {T : Type 0} (f : ℕ → T) (before after : ℕ) (outputs : List T)
    → IsRun (λ n. f (one_more n)) one_more before after outputs → before + length outputs < 2 ^ 64
    → outputs ≡ map f (range_with_len (before + 1) (length outputs))
run_outputs f before after [] run below = refl
run_outputs f before after (x ∷ xs) run below =
    let next : one_more before ≡ before + 1 = one_more-below before (omega arith) in
    let first : x ≡ f (before + 1) = run.0 ∙ ap f next in
    let rest : IsRun (λ n. f (one_more n)) one_more (before + 1) after xs =
    subst (λ n. IsRun (λ n. f (one_more n)) one_more n after xs) next run.1 in
    let later = run_outputs f (before + 1) after xs rest (omega arith) in
    cc

-- the count has risen by one for each output
pub run_count : {T : Type 0} (f : ℕ → T) (before after : ℕ) (outputs : List T)
    → IsRun (λ n. f (one_more n)) one_more before after outputs → before + length outputs < 2 ^ 64
    → after ≡ before + length outputs
run_count f before after [] run below = omega arith
run_count f before after (x ∷ xs) run below =
    let next : one_more before ≡ before + 1 = one_more-below before (omega arith) in
    let rest : IsRun (λ n. f (one_more n)) one_more (before + 1) after xs =
    subst (λ n. IsRun (λ n. f (one_more n)) one_more n after xs) next run.1 in
    let later = run_count f (before + 1) after xs rest (omega arith) in
    omega arith

-- the count of a machine that counts each step has risen by one for each output, as far as 64 bits hold it
pub run_counted : {S T : Type 0} (output : S → T) (next : S → S) (count : S → ℕ) (before after : S) (outputs : List T)
    → ((state : S) → count (next state) ≡ one_more (count state)) → IsRun output next before after outputs → count before < 2 ^ 64
    → count after ≡ min (count before + length outputs) (2 ^ 64 - 1)
run_counted output next count before after [] steps run below =
    let same : count after ≡ count before = ap count run in
    omega arith
run_counted output next count before after (x ∷ xs) steps run below =
    let one : count (next before) ≡ one_more (count before) = steps before in
    let later = run_counted output next count (next before) after xs steps run.1 (omega arith) in
    omega arith

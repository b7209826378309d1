-- Runs of a machine that gives one output in each state and then goes on to one next state (this
-- project's own; a Moore machine).
use Rattle.std.specs.Prelude.{◌≡◌, List, [], ◌∷◌, ◌++◌}
use Rattle.std.proofs.Common.{subst}

-- from the first state to the second the machine gave exactly these outputs, in order
abbrev pub IsRun : {S T : Type 0} → (S → T) → (S → S) → S → S → List T → Type 0
IsRun output next a b [] = b ≡ a
IsRun output next a b (x ∷ xs) = (x ≡ output a) × IsRun output next (next a) b xs

-- two runs, the second from where the first ended
pub IsRun-append : {S T : Type 0} (output : S → T) (next : S → S) (a b c : S) (xs ys : List T)
    → IsRun output next a b xs → IsRun output next b c ys → IsRun output next a c (xs ++ ys)
IsRun-append output next a b c [] ys first second =
    subst (λ s. IsRun output next s c ys) first second
IsRun-append output next a b c (x ∷ xs) ys first second =
    (first.0, IsRun-append output next (next a) b c xs ys first.1 second)

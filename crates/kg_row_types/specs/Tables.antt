-- Lists of rows of one kind: look-up and change.
use Rattle.std.specs.Prelude.{Bool, List, [], ◌∷◌, cond}

-- the first member that passes the test replaced, in its place; no member passes: the list as it is
abbrev pub replaced : {X : Type 0} → (X → Bool) → X → List X → List X
replaced test new [] = []
replaced test new (x ∷ xs) = cond (test x) (new ∷ xs) (x ∷ replaced test new xs)

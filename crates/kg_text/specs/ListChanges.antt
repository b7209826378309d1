-- Changes of the members that pass a test. The others stay, and so does the order.
use Rattle.std.specs.Prelude.{Bool, not, List, [], ◌∷◌, filter, map, if◌then◌else◌}

-- those that pass are dropped
abbrev pub without : {X : Type 0} → (X → Bool) → List X → List X
without p xs = filter (λ x. not (p x)) xs

-- the first that passes is changed, and the others that pass are dropped
abbrev pub one_changed : {X : Type 0} → (X → Bool) → (X → X) → List X → List X
one_changed p change [] = []
one_changed p change (x ∷ xs) = if p x then change x ∷ without p xs else x ∷ one_changed p change xs

-- each that passes is changed in its place
abbrev pub each_changed : {X : Type 0} → (X → Bool) → (X → X) → List X → List X
each_changed p change xs = map (λ x. if p x then change x else x) xs

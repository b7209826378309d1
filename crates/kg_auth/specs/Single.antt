-- Lists of one.
use Rattle.std.specs.Prelude.{List, [], ◌∷◌, Option, Some, None}

-- the member, where there is just one
abbrev pub single : {A : Type 0} → List A → Option A
single [] = None
single (member ∷ []) = Some member
single (member ∷ other ∷ rest) = None

-- The attributes of a route, each a list that is set where it isn't empty.
use Rattle.std.specs.Prelude.{Bool, ◌||◌, ◌==◌, List, length}
use Rattle.std.specs.List.{list_any}

-- an attribute fits where it isn't set, and where it has a value that fits
abbrev pub fits_where : {A : Type 0} → (A → Bool) → List A → Bool
fits_where fits values = length values == 0 || list_any fits values

-- Other rows than one.
use Rattle.std.specs.Prelude.{ℕ, Bool, true, not, ◌==◌, Option}
use Rattle.std.specs.Option.{option_map_or}

-- the id of another row than the one that is left out, if one is
abbrev pub is_other : Option ℕ → ℕ → Bool
is_other except id = option_map_or (λ old. not (id == old)) except true

-- What a reading of a text answers: the value, the first byte that is outside the grammar, or that
-- there was no memory.
use Rattle.std.specs.Prelude.{◌≡◌, ℕ, Result, Ok, Err, ⊤}
use Rattle.kg_text.specs.declared.error.TextError.{TextError}
use Rattle.kg_text.specs.declared.error.TextError.TheVariants.{Bad, NoMemory}

-- the refusal tells the place that is meant; want of memory is free
abbrev pub Refuses : {V : Type 0} → TextError → Result V ℕ → Type 0
Refuses (Bad at) meant = meant ≡ Err at
Refuses NoMemory meant = ⊤

-- the result is what is meant, or there was no memory
abbrev pub Gives : {V : Type 0} → Result V TextError → Result V ℕ → Type 0
Gives (Ok value) meant = meant ≡ Ok value
Gives (Err e) meant = Refuses e meant

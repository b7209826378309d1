-- A clock that gives a list of readings, in milliseconds, and counts them (this project's own).
use Rattle.std.specs.Prelude.{ℕ, List, [], ◌∷◌, ◌++◌, fold, replicate, take}
use Rattle.kg_outside.specs.Counts.{one_more}

-- the readings to come, and how many were made
pub record Readings : Type 0 where
  pub left : List ℕ
  pub made : ℕ

-- the next reading: the first of those to come, or 0 where there is none
abbrev pub first_reading : List ℕ → ℕ
first_reading [] = 0
first_reading (reading ∷ later) = reading

-- the readings to come after one more: the last one stays
abbrev pub later_readings : List ℕ → List ℕ
later_readings [] = []
later_readings (last ∷ []) = last ∷ []
later_readings (reading ∷ next ∷ later) = next ∷ later

-- what the clock reads
abbrev pub reading_now : Readings → ℕ
reading_now clock = first_reading clock.left

-- the clock after one more reading, also after one past the last of its list
abbrev pub one_read : Readings → Readings
one_read clock = record { left = later_readings clock.left; made = one_more clock.made }

-- so many readings from a list: its front, and then its last one again and again
abbrev pub readings_of : List ℕ → ℕ → List ℕ
readings_of left count = take count (left ++ replicate count (fold (λ _ reading. reading) 0 left))

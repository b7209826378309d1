-- Ids that are the numbers 1, 2, 3 and so on (this project's own).
use Rattle.std.specs.Prelude.{ℕ, List, ◌++◌, map, replicate}
use Rattle.std.specs.List.{range_with_len}
use Rattle.std.specs.Int.{w64, to_be_bytes}
use Rattle.kg_outside.specs.Counts.{one_more}

-- the 16 bytes of a number: eight zeros, and then the number with its highest byte first
abbrev pub id_of : ℕ → List ℕ
id_of number = replicate 8 0 ++ to_be_bytes w64 number

-- the next id, after so many draws
abbrev pub next_id : ℕ → List ℕ
next_id drawn = id_of (one_more drawn)

-- the ids of so many numbers, from a first one on
abbrev pub ids_from : ℕ → ℕ → List (List ℕ)
ids_from first count = map id_of (range_with_len first count)

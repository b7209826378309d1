-- Machinery for proofs: an address in dotted decimal, read part by part.
use Rattle.std.specs.Prelude.{◌≡◌, ℕ, ◌-◌, ◌<◌, ◌≤◌, ◌^◌, List, length, IsTrue}
use Rattle.std.specs.List.{list_all, slice_split}
use Rattle.kg_row_types.specs.ConfigTexts.{is_decimal_within}
use Rattle.kg_guard.specs.Addresses.{address_number, is_dot, octets_of, with_octets}

abbrev pub parts_of : List ℕ → List (List ℕ)
parts_of text = slice_split is_dot text

-- the octets so far make this number, those of the rest are left, and together they are at most four
pub record IsLeft (whole : List ℕ) (number : ℕ) (rest : List ℕ) : Type 0 where
  pub total : with_octets number (octets_of rest) ≡ address_number (octets_of whole)
  pub octets : IsTrue (list_all (is_decimal_within 255) (parts_of rest))
  pub few : length (parts_of rest) ≤ 4
  pub small : number < 256 ^ (4 - length (parts_of rest))

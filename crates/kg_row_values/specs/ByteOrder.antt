-- Sets of texts, in byte order.
use Rattle.std.specs.Prelude.{ℕ, List}
use Rattle.std.specs.Cmp.Lexicographic.{slice_cmp}
use Rattle.std.specs.List.Sorted.{IsStrictlySortedBy}
use Rattle.std.specs.Ordering.{nat_cmp}
use Rattle.kg_tables.specs.InOrder.{in_order}

-- the texts in byte order, each once
abbrev pub in_byte_order : List (List ℕ) → List (List ℕ)
in_byte_order texts = in_order (slice_cmp nat_cmp) texts

-- they stand in byte order, each once
abbrev pub IsInByteOrder : List (List ℕ) → Type 0
IsInByteOrder texts = IsStrictlySortedBy (slice_cmp nat_cmp) texts

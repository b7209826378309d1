-- Ids in their order (an offset into a list is an id: Kong Admin API, lists).
use Rattle.std.specs.Prelude.{ℕ, Bool, true, nat_lt, List, filter, Option}
use Rattle.std.specs.Option.{option_map_or}
use Rattle.std.specs.Ordering.{nat_cmp}
use Rattle.kg_tables.specs.InOrder.{in_order}

-- an id above the offset, if there is one
abbrev pub is_above : Option ℕ → ℕ → Bool
is_above offset id = option_map_or (λ last. nat_lt last id) offset true

-- the ids above the offset, from the least to the greatest
abbrev pub ids_above : Option ℕ → List ℕ → List ℕ
ids_above offset ids = in_order nat_cmp (filter (is_above offset) ids)

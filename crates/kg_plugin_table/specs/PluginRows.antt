-- The rows that a table of plugins is built from, and their places.
use Rattle.std.specs.Prelude.{◌≡◌, ℕ, List, Option, Some, None, is_some, IsTrue, slice_get}
use Rattle.kg_row_types.specs.declared.plugin.PluginRow.{PluginRow}

-- a revision's plugins, in the order of insertion
pub record PluginRows : Type 0 where
  pub rev : ℕ
  pub rows : List PluginRow

-- the place is one of this row, or there is neither
abbrev pub IsPlaceOf : List PluginRow → Option PluginRow → Option ℕ → Type 0
IsPlaceOf rows row None = row ≡ None
IsPlaceOf rows row (Some place) = IsTrue (is_some row) × (slice_get rows place ≡ row)

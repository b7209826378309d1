-- Machinery for proofs: how deep the tables of fields lie one inside the other, by which judging ends.
use Rattle.std.specs.Prelude.{ℕ, ◌+◌}
use Rattle.kg_field_tables.specs.declared.table.Field.{Field}
use Rattle.kg_field_tables.specs.declared.table.Field.TheVariants.{Inside}
use Rattle.kg_field_tables.specs.declared.table.Table.{Table}
use Rattle.kg_field_tables.specs.declared.table.Table.TheVariants as table

-- how many tables can lie one inside the other, below a table
abbrev pub levels : Table → ℕ
levels (table.Plugin name) = 2
levels (table.Config name) = 1
levels _ = 0

-- and below a field
abbrev pub depth_of : Field → ℕ
depth_of (Inside table) = levels table + 1
depth_of _ = 0

use Rattle.std.specs.Prelude.{take}
use Rattle.kg_plugin_table.specs.Keys.{ArePlaces}
use Rattle.kg_plugin_table.proofs.places.RowPlaces.of.Given as goal

-- the places of the rows so far
abbrev pub invariant-loop-place : goal.invariant-loop-place
invariant-loop-place l = ArePlaces (take l.place l.rows) l.places

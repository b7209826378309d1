-- Machinery for proofs: the rows that are still to come in a walk.
use Rattle.std.specs.Prelude.{List, []}
use Rattle.kg_tables.specs.declared.walk.Steps.{Steps}
use Rattle.kg_tables.specs.declared.walk.Steps.TheVariants.{All, Listed, Nowhere}

abbrev pub rows_of : {T : Type 0} → Steps T → List T
rows_of (All rows) = rows
rows_of (Listed rows) = rows
rows_of Nowhere = []

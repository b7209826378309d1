use Rattle.std.specs.Prelude.{take}
use Rattle.kg_plugin_table.specs.Names.{AreNames}
use Rattle.kg_plugin_table.proofs.names.RowNames.of.Given as goal

-- those of the rows so far
abbrev pub invariant-loop-row : goal.invariant-loop-row
invariant-loop-row l = AreNames (take l.row-index l.rows) l.names

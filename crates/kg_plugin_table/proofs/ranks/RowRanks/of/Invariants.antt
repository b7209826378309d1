use Rattle.std.specs.Prelude.{take}
use Rattle.kg_plugin_table.specs.Ranks.{AreRanks}
use Rattle.kg_plugin_table.proofs.ranks.RowRanks.of.Given as goal

-- those of the rows so far
abbrev pub invariant-loop-row : goal.invariant-loop-row
invariant-loop-row l = AreRanks (take l.row-index l.rows) l.ranks

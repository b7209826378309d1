use Rattle.std.proofs.Common.{◌≡◌}
use Rattle.kg_lone.specs.InsertedRows.{listed_in}
use Rattle.kg_lone.proofs.rows.inserted_rows.Given as goal

abbrev pub invariant-loop-command : goal.invariant-loop-command
invariant-loop-command l = l.listing ≡ listed_in l.yielded

use Rattle.kg_lone.proofs.InsertedLemmas.{IsOnWay}
use Rattle.kg_lone.proofs.rows.declared_rows.Given as goal

abbrev pub invariant-loop-command : goal.invariant-loop-command
invariant-loop-command l = IsOnWay l.commands l.command-index l.rows

use Rattle.std.proofs.Common.{All}
use Rattle.kg_declare.specs.Inserting.{IsConsistent, Stands}
use Rattle.kg_declared_rows.specs.SeenRows.{seen_all}
use Rattle.kg_declare.proofs.ProgressLemmas.{SoFar}
use Rattle.kg_declare.proofs.progress.insert_rows.Given as goal

abbrev pub invariant-loop-row : goal.invariant-loop-row
invariant-loop-row g l = record {
  so_far : SoFar g.I.Ids.draws l.initial.ids l.ids l.initial.made l.made l.now l.limit (seen_all l.fn.rows.items) (seen_all l.row-iterator.rest.items);
  stand : All Stands (seen_all l.row-iterator.rest.items);
  consistent : IsConsistent l.limit l.initial.made → IsConsistent l.limit l.made;
}

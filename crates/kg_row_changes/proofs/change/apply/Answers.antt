use Rattle.std.proofs.Common.{subst, sym}
use Rattle.kg_row_types.specs.ValidRows.{AreValidRows, HasDistinctRows, HasReferences}
use Rattle.kg_row_changes.specs.Candidates.{candidates}
use Rattle.kg_row_changes.proofs.DistinctKept.{changed_distinct}
use Rattle.kg_row_changes.proofs.Exact.{names_changed}
use Rattle.kg_row_values.proofs.GroupLemmas.{all_orderly}
use Rattle.kg_row_changes.proofs.ReferencesKept.{changed_refers}
use Rattle.kg_row_changes.proofs.ValidKept.{changed_valid}
use Rattle.kg_row_changes.proofs.change.apply.Goals as goal

-- the keys that differ among the candidates, and the generations that change
pub returns-clause-touched : goal.returns-clause-touched
returns-clause-touched c = record {
  keys = rw c.listed-keys.ensures (names_changed c.args.rows.now c.args.command.now c.differing.result.keys
      ((rw (c.in_ok-run.ensures.ok, c.in_ok-watched.ensures, c.in_ok-asked.ensures) at c.differing.ensures.differ)
      (all_orderly c.args.rows.now (candidates c.args.command.now c.args.rows.now))));
  gens = c.in_ok-gens.ensures;
}

-- valid rows stay valid
pub returns-clause-valid : goal.returns-clause-valid
returns-clause-valid c = λ ok valid. subst AreValidRows (sym c.in_ok-run.ensures.ok) (changed_valid c.args.rows.now valid c.args.command.now ok)

-- what only one row may have stays with one
pub returns-clause-distinct : goal.returns-clause-distinct
returns-clause-distinct c = λ distinct. subst HasDistinctRows (sym c.in_ok-run.ensures.ok) (changed_distinct c.args.rows.now distinct c.args.command.now c.requires)

-- what a row names stays there
pub returns-clause-references : goal.returns-clause-references
returns-clause-references c = λ refers. subst HasReferences (sym c.in_ok-run.ensures.ok) (changed_refers c.args.rows.now refers c.args.command.now c.requires)

use Rattle.kg_rows.specs.Decision.{decision}
use Rattle.kg_declare.proofs.HistoryLemmas.{insertion_inserts, new_row}
use Rattle.kg_declare.proofs.ProgressLemmas.{refused_draft}
use Rattle.kg_declare.proofs.progress.decided.Goals as goal

pub returns-in-Ok-clause-ok : goal.returns-in-Ok-clause-ok
returns-in-Ok-clause-ok c = record {
  decides = c.in-Ok.ensures.decision;
  new = new_row c.args.rows.now c.args.limit c.in-Ok.command
      (insertion_inserts c.args.rows.now c.args.draft.now c.args.limit c.in-Ok.command c.requires.insertion c.in-Ok.ensures.decision) c.in-Ok.ensures.allowed;
  allowed = c.in-Ok.ensures.allowed;
  valid = c.in-Ok.ensures.valid;
}

pub returns-in-Err-clause-err : goal.returns-in-Err-clause-err
returns-in-Err-clause-err c = refused_draft c.in-Err.e c.refused.result (decision c.args.rows.now c.args.draft.now c.args.limit) c.refused.ensures c.in-Err.ensures.decision

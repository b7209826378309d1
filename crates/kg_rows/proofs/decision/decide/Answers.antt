use Rattle.kg_rows.proofs.DecidedLemmas.{is_allowed_if_ok}
use Rattle.kg_rows.proofs.decision.decide.Goals as goal

pub returns-clause-allowed : goal.returns-clause-allowed
returns-clause-allowed c = is_allowed_if_ok c.args.rows.now c.args.draft.now c.args.limit c.decided.result c.decided.ensures.decision

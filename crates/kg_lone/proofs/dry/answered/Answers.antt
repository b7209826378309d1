use Rattle.std.proofs.Common.{inr, refl}
use Rattle.kg_plain.proofs.AnsweredLemmas.{stopped_at_once}
use Rattle.kg_lone.proofs.dry.answered.Goals as goal

-- nothing was written before the router was made
pub returns-in-Err-clause-err : goal.returns-in-Err-clause-err
returns-in-Err-clause-err g c = (inr (inr refl), stopped_at_once _ _ _ _ (g.met.T.Clock.reads_none c.args.clock.now))

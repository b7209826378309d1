use Rattle.std.proofs.Common.{refl}
use Rattle.kg_crew.proofs.NextLemmas.{front_written}
use Rattle.kg_crew.proofs.reply.write_reply.Goals as goal

-- a front of the reply is written
pub returns-in-Err-clause-written : goal.returns-in-Err-clause-written
returns-in-Err-clause-written g c = front_written _ _ _ _ refl c.in-Err.ensures.err

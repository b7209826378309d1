use Rattle.std.proofs.Common.{◌∙◌}
use Rattle.kg_crew.proofs.NextLemmas.{front_written}
use Rattle.kg_crew.proofs.reply.refuse.Goals as goal

-- a front of the refusal is written
pub returns-in-Ok-clause-refused : goal.returns-in-Ok-clause-refused
returns-in-Ok-clause-refused g c = front_written _ _ _ _ (c.as_slice.ensures ∙ c.in-Ok.ensures) c.in-Err-write_whole.ensures.err

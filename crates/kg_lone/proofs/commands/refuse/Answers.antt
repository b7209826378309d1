use Rattle.std.proofs.Common.{◌∙◌}
use Rattle.kg_plain.proofs.AnsweredLemmas.{front_written}
use Rattle.kg_lone.proofs.commands.refuse.Goals as goal

-- a front of the refusal is written
pub returns-in-Ok-clause-front : goal.returns-in-Ok-clause-front
returns-in-Ok-clause-front g c other =
    front_written _ _ _ _ (c.as_slice.ensures ∙ c.in-Ok.ensures) c.in-Err-write_whole.ensures.err

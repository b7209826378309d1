use Rattle.std.proofs.Common.{◌∙◌}
use Rattle.kg_plain.proofs.AnsweredLemmas.{front_written, on_err}
use Rattle.kg_plain.proofs.answers.answer_bad.Goals as goal

-- a front of the text is written
pub returns-in_err-write_whole-clause-err : goal.returns-in_err-write_whole-clause-err
returns-in_err-write_whole-clause-err g c =
    on_err _ (front_written _ _ _ _ (c.as_slice.ensures ∙ c.in_ok-refusal.ensures) c.in_err-write_whole.ensures.err)

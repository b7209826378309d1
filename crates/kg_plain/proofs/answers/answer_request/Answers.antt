use Rattle.std.proofs.Common.{◌∙◌}
use Rattle.kg_plain.proofs.AnsweredLemmas.{front_written, on_err, replied_front, replied_nothing}
use Rattle.kg_plain.proofs.answers.answer_request.Goals as goal

-- nothing of the reply is written
pub returns-in_err-text-clause-err : goal.returns-in_err-text-clause-err
returns-in_err-text-clause-err g c hits stands = on_err _ (replied_nothing _ _ _ _ _ _ _ c.now-time.ensures)

-- a front of the reply is written
pub returns-in_err-write_whole-clause-err : goal.returns-in_err-write_whole-clause-err
returns-in_err-write_whole-clause-err g c hits stands =
    on_err _
    (replied_front _ _ _ _ _ _ _ _ c.now-time.ensures
    (front_written _ _ _ _ (c.as_slice.ensures ∙ (c.in_ok-text.ensures hits stands).0) c.in_err-write_whole.ensures.err))

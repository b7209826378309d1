use Rattle.kg_plain.proofs.AnsweredLemmas.{on_ok, taken_ok, taken_err, nothing_stopped, bad_ok, bad_err, closed_next, refused_ahead, cut_next}
use Rattle.kg_plain.proofs.answers.answer_next.Goals as goal

-- the request that was read is answered
pub returns-in-Ok-Some-clause-ok : goal.returns-in-Ok-Some-clause-ok
returns-in-Ok-Some-clause-ok g c hits stands =
    taken_ok c.answer_request.result _ _ _ _ c.args.answered _ _ _ _ _ _ c.in-Ok-Some.request c.requires.address
    (rw c.in-Ok-Some.field-0-is at c.in-Ok-Some.ensures.ok) (c.answer_request.ensures.ok hits stands) c.answer_request.ensures.end

-- or its reply is cut short
pub returns-in-Ok-Some-clause-err : goal.returns-in-Ok-Some-clause-err
returns-in-Ok-Some-clause-err g c hits stands =
    taken_err c.answer_request.result _ _ _ c.args.answered _ _ _ _ _ _ c.in-Ok-Some.request c.requires.address
    (rw c.in-Ok-Some.field-0-is at c.in-Ok-Some.ensures.ok) (c.answer_request.ensures.err hits stands)

-- the source ended
pub returns-in-Ok-None-clause-ok : goal.returns-in-Ok-None-clause-ok
returns-in-Ok-None-clause-ok g c hits stands =
    closed_next _ _ _ _ _ _ (g.met.T.Clock.reads_none c.args.clock.now) (rw c.in-Ok-None.field-0-is at c.in-Ok-None.ensures.ok)

-- the message that is refused is answered
pub returns-in-Err-Bad-clause-ok : goal.returns-in-Err-Bad-clause-ok
returns-in-Err-Bad-clause-ok g c hits stands =
    let ends = rw c.in-Err-Bad.field-0-is at (c.in-Err-Bad.ensures.err c.requires.fresh) in
    bad_ok c.answer_bad.result _ _ _ _ c.args.answered _ _ _ _ _ _ _ (g.met.T.Clock.reads_none c.args.clock.now)
    (refused_ahead _ _ _ _ _ _ ends.0 ends.1) ends.1.0 c.answer_bad.ensures.ok

-- or the answer is cut short
pub returns-in-Err-Bad-clause-err : goal.returns-in-Err-Bad-clause-err
returns-in-Err-Bad-clause-err g c hits stands =
    let ends = rw c.in-Err-Bad.field-0-is at (c.in-Err-Bad.ensures.err c.requires.fresh) in
    bad_err c.answer_bad.result _ _ _ c.args.answered _ _ _ (g.met.T.Clock.reads_none c.args.clock.now)
    (refused_ahead _ _ _ _ _ _ ends.0 ends.1) c.answer_bad.ensures.err

-- a message is cut off
pub returns-in-Err-Cut-clause-ok : goal.returns-in-Err-Cut-clause-ok
returns-in-Err-Cut-clause-ok g c hits stands =
    let ends = rw c.in-Err-Cut.field-0-is at (c.in-Err-Cut.ensures.err c.requires.fresh) in
    cut_next _ 0 _ _ _ _ _ _ (g.met.T.Clock.reads_none c.args.clock.now) ends.0 ends.1

-- nothing was written
pub returns-in-Err-ReadFault-clause-err : goal.returns-in-Err-ReadFault-clause-err
returns-in-Err-ReadFault-clause-err g c hits stands = nothing_stopped _ _ _ _ _ _ (g.met.T.Clock.reads_none c.args.clock.now)

pub returns-in-Err-NoMemory-clause-err : goal.returns-in-Err-NoMemory-clause-err
returns-in-Err-NoMemory-clause-err g c hits stands = nothing_stopped _ _ _ _ _ _ (g.met.T.Clock.reads_none c.args.clock.now)

-- no read failed where a message is refused or cut off
pub returns-in-Err-Bad-clause-kept_read : goal.returns-in-Err-Bad-clause-kept_read
returns-in-Err-Bad-clause-kept_read g c = on_ok _ (rw c.in-Err-Bad.field-0-is at (c.in-Err-Bad.ensures.counts c.requires.fresh))

pub returns-in-Err-Cut-clause-kept_read : goal.returns-in-Err-Cut-clause-kept_read
returns-in-Err-Cut-clause-kept_read g c = rw c.in-Err-Cut.field-0-is at (c.in-Err-Cut.ensures.counts c.requires.fresh)

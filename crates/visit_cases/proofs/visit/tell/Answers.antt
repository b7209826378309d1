use Rattle.visit_cases.proofs.VisitLemmas.{wanted}
use Rattle.visit_cases.proofs.visit.tell.Goals as goal

-- it wants the upstream's answer
pub give_upstream-requires-clause-wanted : goal.give_upstream-requires-clause-wanted
give_upstream-requires-clause-wanted c =
    wanted c.args.visit.now c.want.result.now _ c.in-Some.answer (c.want.ensures c.requires.whole) c.in_ok-answer.ensures c.in-Some.is

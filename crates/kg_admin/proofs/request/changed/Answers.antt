use Rattle.std.proofs.Common.{◌≡◌, IfOk, sym, subst}
use Rattle.kg_admin.specs.AdminAnswers.{answer_to, put_response}
use Rattle.kg_admin.specs.AdminCalls.{Runs}
use Rattle.kg_admin.specs.AdminRequests.{Changed}
use Rattle.kg_admin.specs.Asking.{change_of}
use Rattle.kg_admin.proofs.CallLemmas.{committed}
use Rattle.kg_admin.proofs.request.changed.Goals as goal

pub returns-in-Ok : goal.returns-in-Ok
returns-in-Ok g c path =
    let before = g.P.Keeper.observed c.args.keeper.now in
    let now = g.P.Keeper.observed c.commit.new.self in
    subst (Runs before now (answer_to path before.limit (Changed (change_of c.args.draft.now)))) (sym c.told.ensures)
    (committed path before now c.args.draft.now c.in-Ok.done c.put_response.result c.in-Ok.ensures.call c.in-Ok.ensures.faults c.in-Ok.ensures.committed
    (subst (λ status. IfOk c.put_response.result (λ made. made ≡ put_response status c.in-Ok.done.row)) c.status_of.ensures c.put_response.ensures))

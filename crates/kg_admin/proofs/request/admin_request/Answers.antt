use Rattle.std.proofs.Common.{◌≡◌, Ok, subst}
use Rattle.kg_row_types.specs.Ids.{drawn_id}
use Rattle.kg_admin.specs.AdminAnswers.{answer_to}
use Rattle.kg_admin.specs.AdminCalls.{Runs}
use Rattle.kg_admin.specs.AdminRequests.{asked}
use Rattle.kg_admin.specs.Asking.{asked_by}
use Rattle.kg_admin.proofs.CallLemmas.{asked_meets}
use Rattle.kg_admin.proofs.request.admin_request.Goals as goal

pub returns-in-Ok : goal.returns-in-Ok
returns-in-Ok g c =
    let before = g.P.Keeper.observed c.args.keeper.now in
    let now = g.P.Keeper.observed c.answered.new.keeper in
    let wanted = asked_by c.in-Ok.wanted in
    record {
      bytes = c.drawn-bytes.result;
      drawn = c.drawn-bytes.ensures;
      meets = asked_meets before now c.args.request.now (drawn_id c.drawn-bytes.result) c.args.now wanted c.answered.result
          (subst (λ id. asked c.args.request.now id c.args.now ≡ Ok wanted) c.from_drawn.ensures c.in-Ok.ensures.wanted)
          (subst (λ path. Runs before now (answer_to path before.limit wanted) c.answered.result) c.as_str.ensures c.answered.ensures);
    }

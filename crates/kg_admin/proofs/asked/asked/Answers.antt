use Rattle.kg_admin.proofs.AskLemmas.{refused_first}
use Rattle.kg_admin.specs.AdminRequests.{asked, asked_of, operation_in}
use Rattle.kg_admin.specs.Asking.{asked_by}
use Rattle.kg_admin.proofs.asked.asked.Goals as goal

pub returns-in-Ok-clause-wanted : goal.returns-in-Ok-clause-wanted
unfolding asked
returns-in-Ok-clause-wanted c = rw c.in-Ok.ensures.operation c.asked_of.ensures.wanted

pub returns-in-Err-clause-wanted : goal.returns-in-Err-clause-wanted
unfolding asked
returns-in-Err-clause-wanted c =
    refused_first (λ x. x) asked_by c.in-Err.e (operation_in c.args.request.now) (λ operation. asked_of operation c.args.request.now c.args.id c.args.now)
    c.in-Err.ensures.operation

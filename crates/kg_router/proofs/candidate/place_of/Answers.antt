use Rattle.std.proofs.Common.{◌==◌, ◌<◌, IfSome, length, sym, subst, ◌∙◌}
use Rattle.kg_row_types.specs.declared.service.Service.{Service}
use Rattle.kg_router.proofs.PlaceLemmas.{position-within}
use Rattle.kg_router.proofs.candidate.place_of.Goals as goal

-- the first service of the id
pub returns-clause-value : goal.returns-clause-value
returns-clause-value c = c.get.ensures ∙ c.requires c.args.id

-- it is in the list
pub returns-clause-within : goal.returns-clause-within
returns-clause-within c =
    let services = c.args.services.now in
    subst (λ found. IfSome found (λ place. place < length services)) (sym (c.get.ensures ∙ c.requires c.args.id))
    (position-within (λ (service : Service). service.id == c.args.id) services)

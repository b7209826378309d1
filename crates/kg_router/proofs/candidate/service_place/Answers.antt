use Rattle.std.proofs.Common.{◌==◌, Some, None, cond, option_and_then, sym, ap, ◌∙◌}
use Rattle.kg_row_types.specs.declared.service.Service.{Service}
use Rattle.kg_router.proofs.TableLemmas.{if_enabled, place-some, place-none}
use Rattle.kg_router.proofs.candidate.service_place.Goals as goal

-- there is none of the id
pub returns-in-None : goal.returns-in-None
returns-in-None c =
    ap (option_and_then if_enabled) (place-none (λ (service : Service). service.id == c.args.route.now.service) c.args.services.now (sym c.place_of.ensures.value ∙ c.in-None.is))

-- it is enabled
pub returns-then-services-place : goal.returns-then-services-place
returns-then-services-place c =
    let service = c.index-services-place.result in
    let at = sym c.index-services-place.is in
    record {
      service = service;
      within = rw c.in-Some.is at c.place_of.ensures.within;
      at = at;
      leads = ap (option_and_then if_enabled) (place-some (λ (one : Service). one.id == c.args.route.now.service) c.args.services.now c.in-Some.place service (sym c.place_of.ensures.value ∙ c.in-Some.is) at)
          ∙ ap (λ enabled. cond enabled (Some service) None) (ap (λ (one : Service). one.enabled) c.index-services-place.is ∙ c.if-services-place.true);
    }

-- it isn't
pub returns-else-services-place : goal.returns-else-services-place
returns-else-services-place c =
    let service = c.index-services-place.result in
    ap (option_and_then if_enabled) (place-some (λ (one : Service). one.id == c.args.route.now.service) c.args.services.now c.in-Some.place service (sym c.place_of.ensures.value ∙ c.in-Some.is) (sym c.index-services-place.is))
    ∙ ap (λ enabled. cond enabled (Some service) None) (ap (λ (one : Service). one.enabled) c.index-services-place.is ∙ c.if-services-place.false)

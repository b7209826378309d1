use Rattle.std.proofs.Common.{◌==◌, ◌++◌, ◌∷◌, [], Some, None, cond, take, sym, ap, ◌∙◌, arith}
use Rattle.std.proofs.lemmas.List.{length-take-le, take_all, take_more}
use Rattle.std.specs.List.{position}
use Rattle.std.specs.Option.{option_or}
use Rattle.kg_row_types.specs.declared.service.Service.{Service}
use Rattle.kg_router.proofs.PlaceLemmas.{position-push}
use Rattle.kg_router.proofs.places.ServicePlaces.of.Goals as goal

-- one more service
pub loop-place-preserved : goal.loop-place-preserved
loop-place-preserved c = λ id.
    let services = c.args.services.now in
    let place = c.loop-place.place in
    let service = c.index-services-place.result in
    let front = take place services in
    let test = λ (one : Service). one.id == id in
    let grown = take_more services place service c.loop-place-test.true ∙ ap (λ one. front ++ one ∷ []) (sym c.index-services-place.is) in
    c.in_ok-note.ensures id
    ∙ ap (λ kept. option_or kept (cond (test service) (Some place) None)) (c.loop-place.invariant id)
    ∙ ap (λ at. option_or (position test front) (cond (test service) (Some at) None)) (sym (length-take-le place services (omega (arith, c.loop-place-test.true))))
    ∙ sym (position-push test front service)
    ∙ ap (position test) (sym grown)

-- each service
pub returns : goal.returns
returns c = λ id.
    c.loop-place.invariant id
    ∙ ap (position (λ (service : Service). service.id == id)) (take_all c.loop-place.place c.args.services.now c.loop-place-test.false)

use Rattle.std.proofs.Common.{◌<◌, ◌++◌, ◌∷◌, [], All, Some, length, take, sym, ap, subst, ◌∙◌}
use Rattle.std.proofs.lemmas.List.{get_or_default, take_all, take_more}
use Rattle.std.proofs.lemmas.List.Elements.{All-push}
use Rattle.kg_match.specs.Fits.{fits}
use Rattle.kg_router.specs.Best.{best_choice}
use Rattle.kg_router.specs.Table.{IsTable}
use Rattle.kg_router.proofs.BestRoute.{apart}
use Rattle.kg_router.proofs.TableLemmas.{IsUnfit, matched, unmatched, first-takes, none-takes}
use Rattle.kg_router.proofs.generation.RouterGen.find.Goals as goal

-- the first candidate whose route fits
pub returns-in-Some-clause-found : goal.returns-in-Some-clause-found
returns-in-Some-clause-found c =
    let request = c.args.request.now in
    let services = c.as_slice-services.result.now in
    let tests = c.as_slice-tests.result.now in
    let candidates = c.as_slice-candidate-items.result.now in
    let table : IsTable services tests candidates = rw (c.as_slice-services.ensures, c.as_slice-tests.ensures, c.as_slice-candidate-items.ensures.value) c.self.invariant.1 in
    let same_services = c.as_slice-services.ensures ∙ ap (λ rows. rows.services) c.self.view_is in
    let same_routes = c.as_slice-tests.ensures ∙ ap (λ rows. rows.routes) c.self.view_is in
    let route = c.index-tests-candidate.result in
    let service = c.index-services-candidate.result in
    let match = matched route request c.in-Some.cut (sym c.in_ok-cut.ensures.cut ∙ c.in-Some.is) in
    (λ i. Some (record { route = c.route.ensures i; service = service; cut = match.1 i }))
    ∙ sym (first-takes services tests candidates request table (apart tests (rw c.as_slice-tests.ensures c.self.invariant.0))
    c.loop-candidate.candidate-index c.candidate-item.result c.loop-candidate-test.true (sym c.candidate-item.is) c.loop-candidate.invariant
    route service (sym c.index-tests-candidate.is) (sym c.index-services-candidate.is) match.0)
    ∙ (λ i. best_choice (same_services i) (same_routes i) request)

-- one more candidate whose route doesn't fit
pub loop-candidate-preserved : goal.loop-candidate-preserved
loop-candidate-preserved c =
    let request = c.args.request.now in
    let services = c.as_slice-services.result.now in
    let tests = c.as_slice-tests.result.now in
    let candidates = c.as_slice-candidate-items.result.now in
    let table : IsTable services tests candidates = rw (c.as_slice-services.ensures, c.as_slice-tests.ensures, c.as_slice-candidate-items.ensures.value) c.self.invariant.1 in
    let at = c.loop-candidate.candidate-index in
    let candidate = c.candidate-item.result in
    let below = c.loop-candidate-test.true in
    let route = c.index-tests-candidate.result in
    let within = subst (λ one. one.test < length tests) (sym c.candidate-item.is) (table.listed.each at candidate below).within in
    let unfit : IsUnfit tests request candidate = λ d. ap (λ r. fits r request) (get_or_default tests candidate.test d route within ∙ sym c.index-tests-candidate.is) ∙ unmatched route request (sym c.in_ok-cut.ensures.cut ∙ c.in-None.is) in
    let grown = take_more candidates at candidate below ∙ ap (λ one. take at candidates ++ one ∷ []) (sym c.candidate-item.is) in
    subst (All (IsUnfit tests request)) (sym grown) (All-push (IsUnfit tests request) (take at candidates) candidate c.loop-candidate.invariant unfit)

-- none fits
pub returns-clause-found : goal.returns-clause-found
returns-clause-found c =
    let request = c.args.request.now in
    let services = c.as_slice-services.result.now in
    let tests = c.as_slice-tests.result.now in
    let candidates = c.as_slice-candidate-items.result.now in
    let table : IsTable services tests candidates = rw (c.as_slice-services.ensures, c.as_slice-tests.ensures, c.as_slice-candidate-items.ensures.value) c.self.invariant.1 in
    let same_services = c.as_slice-services.ensures ∙ ap (λ rows. rows.services) c.self.view_is in
    let same_routes = c.as_slice-tests.ensures ∙ ap (λ rows. rows.routes) c.self.view_is in
    let whole = take_all c.loop-candidate.candidate-index candidates c.loop-candidate-test.false in
    sym (none-takes services tests candidates request table (apart tests (rw c.as_slice-tests.ensures c.self.invariant.0)) (subst (All (IsUnfit tests request)) whole c.loop-candidate.invariant))
    ∙ (λ i. best_choice (same_services i) (same_routes i) request)

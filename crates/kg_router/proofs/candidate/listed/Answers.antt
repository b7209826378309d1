use Rattle.std.proofs.Common.{◌+◌, refl, sym, ap, subst, ◌∙◌}
use Rattle.std.proofs.lemmas.List.{get_or_default}
use Rattle.kg_router.specs.declared.candidate.Candidate.{Candidate}
use Rattle.kg_router.specs.Best.{service_of}
use Rattle.kg_router.specs.Ranks.{rank_of}
use Rattle.kg_router.specs.Table.{AreListed, IsCandidate, LeadsTo}
use Rattle.kg_router.proofs.TableLemmas.{listed-push, listed-skip}
use Rattle.kg_router.proofs.candidate.listed.Goals as goal
use Rattle.kg_router.proofs.candidate.listed.Goals.{in-Some+in_ok-push-in-Some, in-None}

-- one more route
pub loop-place-preserved : goal.loop-place-preserved
loop-place-preserved c =
    let services = c.args.services.now in
    let tests = c.args.tests.now in
    let place = c.loop-place.place in
    let front = c.loop-place.candidates.items in
    let route = c.index-tests-place.result in
    elim c.match-service_place.branch [
      | in-Some+in_ok-push-in-Some w ↦
          let candidate : Candidate = record { rank = w.of.result; test = place; service = w.in-Some.service } in
          let own : IsCandidate services tests candidate = record {
            route = route;
            within = c.loop-place-test.true;
            at = sym c.index-tests-place.is;
            rank = w.of.ensures ∙ ap rank_of w.route-in-Some.ensures;
            to = subst (λ r. LeadsTo services r w.in-Some.service) c.route.ensures w.in-Some.ensures;
          } in
          subst (λ v. AreListed services tests (place + 1) v.items) (sym w.candidates-is)
          (rw w.in_ok-push-in-Some.ensures.items (listed-push services tests place front candidate c.loop-place.invariant refl own))
      | in-None w ↦
          subst (λ v. AreListed services tests (place + 1) v.items) (sym w.candidates-is)
          (listed-skip services tests place front c.loop-place.invariant (λ d. ap (service_of services) (get_or_default tests place d route c.loop-place-test.true ∙ sym c.index-tests-place.is ∙ sym c.route.ensures) ∙ w.in-None.ensures))
    ]

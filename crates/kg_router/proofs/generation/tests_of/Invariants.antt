use Rattle.std.specs.Prelude.{◌≡◌, take}
use Rattle.kg_router.proofs.generation.tests_of.Given as goal

abbrev pub invariant-loop-route : goal.invariant-loop-route
invariant-loop-route l = l.tests ≡ take l.route-index l.routes

use Rattle.kg_router.proofs.BestRoute.{apart}
use Rattle.kg_router.proofs.SomeBest.{some_best}
use Rattle.kg_router.proofs.best.some_route_that_takes_a_request_is_the_best.Goals as goal

pub returns : goal.returns
returns c = λ services routes request distinct. some_best services routes request (apart routes distinct)

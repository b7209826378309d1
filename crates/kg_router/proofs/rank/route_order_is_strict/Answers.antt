use Rattle.kg_router.proofs.RouteOrder.{is_before-irreflexive, is_before-transitive}
use Rattle.kg_router.proofs.rank.route_order_is_strict.Goals as goal

pub returns : goal.returns
returns c = record { irreflexive = is_before-irreflexive; transitive = is_before-transitive }

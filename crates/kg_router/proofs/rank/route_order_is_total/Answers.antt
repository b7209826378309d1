use Rattle.kg_router.proofs.RouteOrder.{one_is_before}
use Rattle.kg_router.proofs.rank.route_order_is_total.Goals as goal

pub returns : goal.returns
returns c = one_is_before

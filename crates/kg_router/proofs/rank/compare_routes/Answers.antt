use Rattle.std.proofs.Common.{sym, ap, ◌∙◌}
use Rattle.kg_router.specs.Ranks.{rank_cmp, rank_of}
use Rattle.kg_router.proofs.RouteOrder.{route_cmp_by_rank}
use Rattle.kg_router.proofs.rank.compare_routes.Goals as goal

pub returns : goal.returns
returns c =
    c.compare.ensures
    ∙ ap (λ rank. rank_cmp rank c.of-2.result) c.of.ensures
    ∙ ap (rank_cmp (rank_of c.args.first.now)) c.of-2.ensures
    ∙ sym (route_cmp_by_rank c.args.first.now c.args.second.now)

use Rattle.std.proofs.Common.{rules, is_lt}
use Rattle.std.proofs.lemmas.Fn.{always_returns_same}
use Rattle.std.proofs.lemmas.List.Sorted.{ranks_by}
use Rattle.std.proofs.lemmas.Result.{on_ok_weaker}
use Rattle.kg_router.specs.declared.candidate.Candidate.{Candidate}
use Rattle.kg_router.specs.Ranks.{rank_cmp}
use Rattle.kg_router.proofs.RouteOrder.{rank_cmp_total}
use Rattle.kg_router.proofs.candidate.sort.Goals as goal

pub returns-clause-ordered : goal.returns-clause-ordered
returns-clause-ordered c =
    on_ok_weaker c.sort_by.result
    (λ sorted. sorted (λ a b. is_lt (rank_cmp a.rank b.rank)) (ranks_by rank_cmp_total (λ (candidate : Candidate). candidate.rank)) (always_returns_same _ _ _ (λ a r f k. search rules)))
    c.sort_by.ensures.sorted

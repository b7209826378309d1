use Rattle.std.proofs.Common.{rules}
use Rattle.kg_router.specs.Ranks.{rank_cmp}
use Rattle.kg_router.proofs.rank.Rank.compare.Goals as goal

pub returns : goal.returns
unfolding rank_cmp
returns c = search rules

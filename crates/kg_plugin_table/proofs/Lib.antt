mod ChoiceLemmas
mod ClosestLemmas
mod KeyLemmas
mod PlaceLemmas
mod RankLemmas

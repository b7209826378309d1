mod FirstLemmas
mod IdIndexLemmas
mod IdLemmas
mod KeyIndexLemmas
mod ListedLemmas
mod PairLemmas
mod PlaceLemmas
mod PluginKeyLemmas
pub mod SetLemmas
mod TableLemmas
mod WalkLemmas

mod BestRoute
mod PlaceLemmas
mod RouteOrder
mod Search
mod SomeBest
pub mod TableLemmas
mod ValidPaths

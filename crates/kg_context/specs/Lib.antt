pub mod Context
pub mod Echo
pub mod Fields
pub mod Given
pub mod PairLists
pub mod Rule
pub mod SetConsumer
pub mod UpstreamFields

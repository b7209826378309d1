pub mod IdOrder
pub mod InOrder
pub mod Others
pub mod PlaceIndexes
pub mod PluginKeys
pub mod References
pub mod KeyIndexes
pub mod Walks

pub mod Closest
pub mod Keys
pub mod Names
pub mod PluginRows
pub mod Precedence
pub mod Ranks

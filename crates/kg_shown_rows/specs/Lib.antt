pub mod Puts
pub mod Shown
pub mod ShownConfigs
pub mod ShownParts

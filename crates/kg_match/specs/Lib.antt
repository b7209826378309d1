pub mod Attributes
pub mod Fits
pub mod RoutePaths
pub mod Wildcards

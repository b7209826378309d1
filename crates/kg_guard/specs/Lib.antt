pub mod Addresses
pub mod Cors
pub mod CorsHeaders
pub mod DottedSteps
pub mod Guards
pub mod IpRestriction
pub mod RequestSizeLimiting
pub mod RequestTermination

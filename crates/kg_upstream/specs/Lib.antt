pub mod UpstreamMessage
pub mod UpstreamPath

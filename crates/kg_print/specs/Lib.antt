pub mod Connection
pub mod FieldLines
pub mod ReplyText
pub mod UpstreamText

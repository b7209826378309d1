pub mod Edits
pub mod RequestTransformer
pub mod ResponseTransformer

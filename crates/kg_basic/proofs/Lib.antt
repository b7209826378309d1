pub mod LoginLemmas
pub mod SecretLemmas

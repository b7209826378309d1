pub mod EchoLemmas
pub mod UntouchedLemmas

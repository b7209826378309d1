pub mod AdminLaws
pub mod AdminReplies
pub mod AdminServing
pub mod ServingSteps

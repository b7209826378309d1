pub mod AdminAnswers
pub mod AdminCalls
pub mod AdminRequests
pub mod AdminResponses
pub mod Asking

pub mod Answered
pub mod AnsweringSteps
pub mod DryReply
pub mod Driving
pub mod Fronts
pub mod Replies
pub mod Starts

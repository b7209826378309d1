pub mod DryRun
pub mod DryText
pub mod FirstCommands
pub mod FirstLine
pub mod InsertedRows
pub mod LineSteps

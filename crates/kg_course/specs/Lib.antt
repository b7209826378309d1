pub mod Course
pub mod CourseLaws
pub mod Phases
pub mod Plain
pub mod Steps
pub mod Walks
pub mod Wants

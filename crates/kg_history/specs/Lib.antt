pub mod Seats
pub mod Sights
pub mod Views

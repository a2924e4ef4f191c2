pub mod Meeting
pub mod Ties

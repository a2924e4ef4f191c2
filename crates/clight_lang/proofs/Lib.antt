pub mod Lists
pub mod Placements
pub mod Put
pub mod WellMade

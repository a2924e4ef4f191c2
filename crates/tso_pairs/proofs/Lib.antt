pub mod Answered
pub mod Drained
pub mod Grouped
pub mod Grown
pub mod Lagged
pub mod Rightly

pub mod Plays
pub mod Laws
pub mod Playing
pub mod Printed
pub mod Scanning
pub mod Schedules
pub mod Stepping
pub mod Text

pub mod Printed
pub mod Views

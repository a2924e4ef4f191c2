pub mod Placeless
pub mod RoundTrip

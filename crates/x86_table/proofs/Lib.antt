pub mod Apart
pub mod FormsFit
pub mod Numbered
pub mod OfOperands

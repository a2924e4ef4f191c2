pub mod Assembled
pub mod Stages
pub mod Tied

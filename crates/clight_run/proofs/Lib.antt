pub mod Defaults
pub mod OneStep
pub mod AsRuns
pub mod TriedNames

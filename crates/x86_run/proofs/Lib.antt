pub mod OneStep
pub mod AsRuns

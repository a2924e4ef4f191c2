pub mod Locals
pub mod ProgramsOf
pub mod Refusals
pub mod Answers

pub mod Bytes
pub mod Choices
pub mod Known
pub mod Machines
pub mod Proper
pub mod State

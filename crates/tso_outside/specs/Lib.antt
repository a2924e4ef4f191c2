pub mod Counting
pub mod Entries
pub mod SinkCalls
pub mod Steady
pub mod StoreCalls
pub mod Views

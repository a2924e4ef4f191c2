pub mod BytesLaws
pub mod PageLookups
pub mod Writes

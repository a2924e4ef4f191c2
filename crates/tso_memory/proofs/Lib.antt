pub mod Items
pub mod KeptMemory
pub mod MemoryLaws
pub mod ObjectLists
pub mod PageLookups
pub mod Views

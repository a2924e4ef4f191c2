pub mod Members
pub mod Behind
pub mod Words
pub mod Items
pub mod Names
pub mod Chosen

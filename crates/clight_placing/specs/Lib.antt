pub mod InnerOf
pub mod Listed
pub mod Placing
pub mod Switched

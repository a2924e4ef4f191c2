pub mod Bottom
pub mod MoreNames
pub mod OtherFrames

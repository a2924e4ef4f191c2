pub mod CountsOf
pub mod First
pub mod PassedOf

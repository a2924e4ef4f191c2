pub mod BelowLaws
pub mod ByteLaws
pub mod OperatorLaws

pub mod MadeOf

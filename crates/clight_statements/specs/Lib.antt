pub mod StatementsOf

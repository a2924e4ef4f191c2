pub mod TypingOf

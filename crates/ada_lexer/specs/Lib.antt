pub mod Lexeme
pub mod Word
pub mod Cut
pub mod Table
pub mod Tokens
pub mod Nesting

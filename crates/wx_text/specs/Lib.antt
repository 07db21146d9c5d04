pub mod Cursor
pub mod Decimal
pub mod Hexadecimal

pub mod Fields
pub mod Mnemonics
pub mod Names
pub mod Operands
pub mod Text

pub mod DigitLemmas
mod FromStart
mod Decimals
mod HexDigits

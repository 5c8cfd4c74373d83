pub mod DigitLaws
pub mod HexLaws

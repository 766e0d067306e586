-- What an off-System trade gets, and its laws. The notation is explained in crates/ladder/specs/Lib.antt.
pub mod Trades
pub mod Laws

-- What an order stands for. The notation is explained in crates/ladder/specs/Lib.antt.
pub mod Orders

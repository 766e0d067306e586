-- What a spread table is, and which tables there are, to be read in this order. The notation is explained at the head of
-- crates/ladder/specs/Lib.antt.
pub mod Bands
pub mod Named
pub mod Growth
pub mod Inverses
pub mod Laws

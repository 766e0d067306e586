-- A question filled from a day, and its laws. To be read in this order; the notation is explained in crates/ladder/specs/Lib.antt.
pub mod Filling
pub mod Laws

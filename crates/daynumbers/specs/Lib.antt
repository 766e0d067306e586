-- A day as plain numbers, and its laws. To be read in this order; the notation is explained in crates/ladder/specs/Lib.antt.
pub mod Numbers
pub mod Laws

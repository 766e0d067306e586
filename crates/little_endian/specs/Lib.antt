-- Numbers in bytes, and their laws. To be read in this order; the notation is explained in crates/ladder/specs/Lib.antt.
pub mod Numbers
pub mod Laws

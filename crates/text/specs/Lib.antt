-- What text of numbers means, and its laws. To be read in this order; the notation is explained in crates/ladder/specs/Lib.antt.
pub mod Decimal
pub mod Ending
pub mod Laws

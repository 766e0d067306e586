-- The page of a day report, and its laws. To be read in this order; the notation is explained in crates/ladder/specs/Lib.antt.
pub mod Page
pub mod Laws

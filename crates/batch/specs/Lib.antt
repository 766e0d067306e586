-- What a batch and its answer buffer mean, and their laws. To be read in this order; the notation is explained in
-- crates/ladder/specs/Lib.antt.
pub mod Record
pub mod Batch
pub mod Laws

-- The permitted range of a question, its reading (the range, or why there is none), and their laws. To be read in this
-- order; the notation is explained in crates/ladder/specs/Lib.antt.
pub mod Bounds
pub mod Permitted
pub mod Readings
pub mod Laws

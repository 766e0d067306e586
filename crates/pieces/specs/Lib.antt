-- What came of an input that is read in pieces. To be read in this order; the notation is explained in crates/ladder/specs/Lib.antt.
pub mod Input
pub mod Pieces

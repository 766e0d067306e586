-- What a page of answers means, and its laws. To be read in this order; the notation is explained in crates/ladder/specs/Lib.antt.
pub mod Lines
pub mod Pages
pub mod Laws

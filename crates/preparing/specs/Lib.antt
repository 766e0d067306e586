-- What the first part of judging gives: a prepared question, as a range and as plain numbers, and its laws. To be read in this order; the
-- notation is explained in crates/ladder/specs/Lib.antt.
pub mod Prepared
pub mod Numbers
pub mod Laws

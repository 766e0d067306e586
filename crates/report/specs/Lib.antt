-- What the day report counts, and its laws. To be read in this order; the notation is explained in crates/ladder/specs/Lib.antt. Besides,
-- count_by test l says how many of the list l pass a test, sum l adds them, map f l puts each through f, and λ x. y is the function that takes
-- x to y.
pub mod Records
pub mod Counts
pub mod Widths
pub mod Laws

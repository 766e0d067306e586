-- The verdict on a price and the answer to a question, and their laws. To be read in this order; the notation is explained
-- in crates/ladder/specs/Lib.antt.
pub mod Shown
pub mod Verdicts
pub mod Numbers
pub mod Answers
pub mod Laws
pub mod Cutting

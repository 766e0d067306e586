-- What the codes of a question choose, and checks 2, 4 and 5. To be read in this order; the notation is explained in
-- crates/ladder/specs/Lib.antt.
pub mod Rules
pub mod Checks

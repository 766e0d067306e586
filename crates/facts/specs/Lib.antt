-- What is said of any list of numbers. The notation is explained in crates/ladder/specs/Lib.antt.
pub mod Lists

-- What the C interface hands over where the crates below answer by an enum. The notation is explained in crates/ladder/specs/Lib.antt.
pub mod Results

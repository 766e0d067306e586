-- What dayreport counts of what came, and what it writes. The notation is explained in crates/ladder/specs/Lib.antt.
pub mod Run
pub mod Laws

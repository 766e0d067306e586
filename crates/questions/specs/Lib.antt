-- What a question is, check 15 on its security code, check 3 on its references, and laws of its bytes and of files of questions. To be read in
-- this order; the notation is explained in crates/ladder/specs/Lib.antt.
pub mod Missing
pub mod Record
pub mod Checks
pub mod Laws

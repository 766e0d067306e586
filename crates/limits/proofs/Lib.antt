pub mod ByNumber
mod Steps
mod Growing
mod Moving
mod Reached
-- Laws: what other crates see.
pub mod Laws

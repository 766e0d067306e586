-- Laws: what other crates see. Lengths: how long the numbers of a line are.
pub mod Laws
mod Lengths

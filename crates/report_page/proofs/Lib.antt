-- Laws: what other crates see. Lengths: how long the numbers of a line are, and where a text ends.
pub mod Laws
mod Lengths

-- Laws: what other crates see. Pairs: what pairs of references make of a range.
pub mod Laws
mod Pairs

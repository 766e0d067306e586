-- What the limits of a reference mean, what they are worked out by, and their laws.
pub mod Limits
pub mod Moves
pub mod Terms
pub mod Laws

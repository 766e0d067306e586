-- Well-formed tables: how bands make the ladder, and what band arithmetic finds on it.
pub mod Chain
pub mod Table
pub mod Members
pub mod Landing
pub mod Trying
pub mod Stands
pub mod NextUp
pub mod Nearest
pub mod Starts
pub mod Walks
pub mod Counting
pub mod Rise
pub mod Gaps

-- Rising lists of prices: nothing here knows of a band.
pub mod Ends
pub mod Extremes
pub mod Entries
pub mod Moves
pub mod Going
pub mod Order
pub mod Finding

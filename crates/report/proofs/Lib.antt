-- Laws: what other crates see. Joining: counts of lists end to end. OneMore: one record more, in its cell. Further: counts of further records.
-- Rows: the total, row by row. Widening: widths of lists end to end, and of further answers. Limits: how large they get. Ends: the smallest and
-- the largest.
pub mod Laws
mod Joining
mod OneMore
mod Further
mod Rows
mod Widening
mod Limits
mod Ends

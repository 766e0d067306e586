-- Claim: the lines, computed. Limits and Answers are for it alone. PlayedDay: the day, computed.
pub mod Claim
mod Limits
mod Answers
pub mod PlayedDay

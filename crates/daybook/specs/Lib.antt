-- The day book of one security: its events, what a list of them says, which are accepted, the day that they leave, and their laws. To be read
-- in this order; the notation is explained in crates/ladder/specs/Lib.antt. Document 02 is the customer's paper of requests; the day book is
-- its request (a). Words in quotation marks are its own.
pub mod Events
pub mod Kept
pub mod Accepted
pub mod Days
pub mod Laws

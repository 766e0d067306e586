-- Following: the day by events is the day by their list. ByKind: the number of every event, kind by kind. InOrder: every day that events lead
-- to is in order. Laws: what other crates see.
pub mod Following
pub mod ByKind
pub mod InOrder
pub mod Laws

-- Laws: what other crates see. Cuts and Windows: how cut bounds give the shown range. Acceptance: what the verdict accepts.
-- Parts: a question by the first part and the second.
pub mod Laws
mod Cuts
mod Windows
mod Acceptance
mod Parts

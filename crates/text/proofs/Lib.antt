-- Laws: what other crates see. Decimals: numbers digit by digit. AnyEnd, Parts: a text that is filled from its end, part by part, as a list and
-- as a `Filling`.
pub mod Laws
mod Parts
mod AnyEnd
mod Decimals

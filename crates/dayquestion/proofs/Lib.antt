-- Opening: a last price is there exactly where one was accepted. Filled: what a filled question is answered. Laws: what other crates see.
pub mod Opening
pub mod Filled
pub mod Laws

-- Laws: what other crates see. Fields: questions that agree but for the order price.
pub mod Laws
mod Fields

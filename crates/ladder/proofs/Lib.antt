-- Laws: what other crates see. Lists: rising lists of prices. Tables: how bands make the ladder, and what band arithmetic finds on it.
pub mod Laws
mod ByNumber
mod Lists
mod Divides
mod Tables

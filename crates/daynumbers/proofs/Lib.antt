-- Same: the day as numbers is the same day, and a trade that is given them. Laws: what other crates see.
pub mod Same
pub mod Laws

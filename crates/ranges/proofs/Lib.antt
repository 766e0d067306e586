-- Laws: what other crates see. OnLadder: references on the ladder, and what is made of them.
pub mod Laws
mod OnLadder

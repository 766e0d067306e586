-- Laws: how the input is cut does not show.
pub mod Laws

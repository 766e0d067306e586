-- Laws: what other crates see. Lengths: how many bytes whole questions have. Parts: a part that is lent and comes back. Buffer: the
-- buffer as the answers come in. Changes: lists that agree but for one record.
pub mod Laws
mod Lengths
mod Parts
mod Buffer
mod Changes

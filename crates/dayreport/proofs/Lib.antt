-- Judged: the whole questions of a piece, as a batch. Pieces: what was counted of full pieces, and of one more.
mod Laws
mod Judged
mod Pieces

-- The worked lines of document 01, as one claim, those of document 02, b, as another, lines that tell the named tables apart, questions that are
-- prepared once, questions with good and bad security codes, and a day played by hand. The notation is explained in
-- crates/ladder/specs/Lib.antt.
pub mod Worked
pub mod OldCloses
pub mod TableLines
pub mod Slider
pub mod SecurityCodes
pub mod Played

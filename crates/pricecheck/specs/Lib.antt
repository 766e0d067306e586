-- What the arguments of pricecheck say, what it prints, how it cuts its input, and that the cuts do not show. The notation is explained in
-- crates/ladder/specs/Lib.antt.
pub mod Arguments
pub mod Run
pub mod Laws

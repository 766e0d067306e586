-- Tests: what passes and what fails. Numbers: the smaller and the larger of two. Lists: members of a list, and neighbours on a rising one.
pub mod Tests
pub mod Numbers
pub mod Lists

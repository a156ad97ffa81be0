-- What a run does: with files, with a session, with an order, and with the words.
pub mod Files
pub mod Sessions
pub mod Orders
pub mod Runs

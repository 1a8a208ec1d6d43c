pub mod Orders
pub mod Places
pub mod Queues
pub mod Records

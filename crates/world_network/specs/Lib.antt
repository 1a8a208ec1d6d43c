pub mod Pairs
pub mod Mails
pub mod Managers
pub mod Networks

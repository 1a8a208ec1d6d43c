pub mod Short
pub mod CommandCodec
pub mod ResultLists
pub mod AnswerCodec
pub mod Stops

pub mod Assistants

mod Appending
mod Places

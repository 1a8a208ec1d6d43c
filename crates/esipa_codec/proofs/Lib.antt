mod Computing
mod Counters
pub mod Recording
pub mod ToEimCodec
pub mod ToIpaCodec

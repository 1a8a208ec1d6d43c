pub mod TableCodec
pub mod EimListCodec
pub mod ItemCodec
pub mod ResultCodec
pub mod RefusalCodec

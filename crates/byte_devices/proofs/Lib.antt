pub mod shared
mod Blocks
mod ByteNames
mod Decimals
mod Unflushed

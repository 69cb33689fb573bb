pub mod shared
mod MovesRise
mod NormalKept

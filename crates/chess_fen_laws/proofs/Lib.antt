pub mod shared
mod EqualFens
mod NamedRooks
mod OneRankText
mod NormalRead
mod NormalWritten

pub mod shared
mod Words
mod Comments
mod Responses
mod LinesOn
mod RunLemmas
mod Rows
mod OwnRows

pub mod shared
mod Gathered
mod Reach
mod Room
mod SomeMove
mod SetBits
mod Counting
mod ListNotEmpty
mod Shifted
mod OutOfReach

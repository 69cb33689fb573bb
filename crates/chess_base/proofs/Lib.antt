pub mod shared
mod ClearLines
mod Rays
mod Reaches
mod Knights
mod CountedWrites
mod KingChecks
mod CastlingChange
mod StaysSound
mod TakesBack
mod CountsAfter
mod ReserveAfter
mod InitialIsSound
mod MoveTexts

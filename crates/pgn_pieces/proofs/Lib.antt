pub mod shared
mod CutLines
mod InPlace
mod Kept
mod LineEnds
mod LineKinds
mod Parts
mod PlainLengths
mod SeenLines
mod Steps
mod StringEnds
mod Views
mod WholePieces

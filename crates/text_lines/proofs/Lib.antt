pub mod shared
mod FewDigits
mod Trims
mod LineParts
mod LineEnds
mod Reading

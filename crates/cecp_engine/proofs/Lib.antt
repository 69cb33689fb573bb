pub mod shared
mod Allotment
mod Pieces
mod LevelTexts
mod FeatureRuns

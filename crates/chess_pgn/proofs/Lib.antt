pub mod shared
mod FaultPlaces
mod FenVariants
mod GameEnds
mod GameReads
mod LeftTokens
mod PgnWords
mod StepKinds
mod SkippedTokens
mod TagScans
mod LineKinds
mod LinesRead
mod PassedWords
mod RowsRead
mod GamesByTags
mod PastDraws
mod UnreadGames

pub mod shared
mod EmptyGames
mod FullLines
mod LastTexts
mod LegalVariations
mod NormalGames
mod OfTokens
mod PgnFen
mod PgnMoves
mod PgnPieces
mod PgnTags
mod PgnWhole
mod TagTexts
mod WorkedOut
mod WrittenWords

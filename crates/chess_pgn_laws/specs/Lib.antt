pub mod PgnLaw
pub mod GameOfTokens
pub mod LegalVariations
pub mod Normal
pub mod Examples
pub mod EmptyGames

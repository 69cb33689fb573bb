pub mod shared
mod Added
mod FilledLines
mod GameTexts
mod LaidOut
mod NumberedMoves
mod Outcomes
mod ShortTokens
mod TagLines

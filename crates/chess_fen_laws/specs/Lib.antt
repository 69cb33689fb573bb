pub mod NamedRooks
pub mod Laws
pub mod RankTexts
pub mod Examples
pub mod Normal

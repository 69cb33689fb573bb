pub mod shared
mod NormalTexts
mod PartsOfTexts
mod ShownLaw

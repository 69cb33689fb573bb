pub mod Grammar
pub mod ties

-- What only joins code to the definitions: no claim rests on it.
pub mod Forms
pub mod SanParts
pub mod Usual

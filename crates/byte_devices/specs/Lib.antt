pub mod Bytes
pub mod Devices
pub mod Transfers
pub mod ties

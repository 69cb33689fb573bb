pub mod Stub

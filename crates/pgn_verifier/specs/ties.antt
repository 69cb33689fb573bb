-- What only joins code to the definitions: no claim rests on it.
pub mod AfterFaults
pub mod Counting
pub mod Explaining
pub mod OnTheWay

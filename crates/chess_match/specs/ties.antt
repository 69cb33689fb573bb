-- What only joins code to the definitions: no claim rests on it.
pub mod Texts
pub mod Represents
pub mod Chess
pub mod Sane
pub mod Reported
pub mod Awaits
pub mod Delivering
pub mod Driving
pub mod EngineOutput
pub mod AtDesk

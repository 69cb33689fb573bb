pub mod Arguments
pub mod PlainArguments
pub mod Programs
pub mod Statuses
pub mod StubLines
pub mod WorkedOptions

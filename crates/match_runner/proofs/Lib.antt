mod GamesWritten
mod HostSteps
mod MemorySteps
mod Logged
mod FaultTexts
mod FirstBytes

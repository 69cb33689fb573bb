pub mod shared
mod CollectionVerified
mod FaultLines
mod FaultsInText
mod Finished
mod InputRead
mod Judging
mod LinesWritten
mod NamesShown
mod Placed
mod TextVerified
mod TooLong
mod UnreadFaults
mod Verifying

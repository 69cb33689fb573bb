mod ResultLines
mod Games
mod Summed
mod Verified

pub mod Inserted
pub mod Walks
pub mod Backwards
pub mod Marking
mod Subtables
mod LigatureKeys
mod GsubRows
mod FlagRows
mod SightRows
mod PresenceRows
mod LookedRows
mod RandomRows
pub mod Unbroken
pub mod Pairs
pub mod Kept
pub mod LigatureKeeps
pub mod LookupKeeps
pub mod Lengths
mod AsLong
pub mod LawKeeps
pub mod LawGrows
pub mod Machines
mod Unshifted
pub mod Untouched
mod PlainPuts
mod Started
mod Sighted

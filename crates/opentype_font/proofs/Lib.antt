pub mod Tests
mod WouldApplyRows
mod ScriptFeatureRows
mod Absent
mod PresenceRows
mod Unbegun

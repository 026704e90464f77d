pub mod Tests
pub mod TextTags
pub mod WouldApply
pub mod ScriptFeatures
pub mod Fonts
pub mod Lookups
pub mod Presence
pub mod Proved

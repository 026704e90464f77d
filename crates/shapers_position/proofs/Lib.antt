mod ClusterFlagRows
pub mod ClusterGroups
pub mod FlagLaws
pub mod FlagSets
mod HidingRows
pub mod OneGlyph
pub mod PositionSteps
pub mod RemovalLaws
pub mod RemovalSteps
mod SpaceRows
pub mod Unflagged
pub mod Untouched
mod WidthRows

pub mod Changes
pub mod HangulClusters
pub mod HangulGroups
pub mod HangulFlags
mod HangulRows
pub mod HangulSpelling
pub mod ItemFlags
pub mod Items
pub mod KeptTexts
pub mod Outputs
mod RequestRows
pub mod Walks

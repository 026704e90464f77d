pub mod Sights
pub mod Placed
pub mod Reached
pub mod Skipped
pub mod NoneFits
pub mod Keyed
mod ContextKinds
pub mod SubtableStarts
pub mod Lookings
mod BitPlaces
mod OneGlyph
mod Passed
mod Grids
mod Headed
mod RowMarks
mod Unfollowed
mod Flags
mod Listed
mod PairsListed
mod SubtablesListed
mod PositionsListed
mod RulesListed
mod RuleRows
mod KeyRows
mod RuleHeadRows
mod StartRows
mod LookupRowRows
mod SightRows
mod FeatureRows
mod InputRows
mod LookingRows
mod PairRows
mod SubstitutionRows
mod PositionRows
mod Gaps
mod GapRows

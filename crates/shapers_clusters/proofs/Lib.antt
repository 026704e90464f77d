pub mod Alone
pub mod Appended
pub mod Borders
mod BorderRows
pub mod Bounds
pub mod CarriedGroups
mod CarriedGroupRows
mod FloodRows
pub mod FloodsBack
pub mod ClearPlaces
pub mod Cuts
pub mod StepsOutside
pub mod EqualArguments
pub mod Falls
pub mod FlagCalls
pub mod FlagLaw
pub mod Flagging
pub mod ViewedFlags
pub mod GatheredCuts
pub mod GroupWalk
pub mod GuardedGroups
pub mod Halves
pub mod ClusterMerges
pub mod Labels
pub mod LabelsAsMerged
mod LawRows
pub mod MadeGlyphs
pub mod Merging
mod MonotoneRows
pub mod Moves
pub mod Needless
pub mod Neighbours
pub mod Permuted
pub mod Picks
pub mod Proved
mod Rows
pub mod Sources
pub mod SettledGroups
pub mod SparedCuts
pub mod Spread
pub mod StaysAlong
pub mod StaysMerged
pub mod Swaps
pub mod ViewedSteps
pub mod Views
pub mod Widened

pub mod Arranging
pub mod BitLemmas
mod BufferRows
mod CategoryRows
pub mod ClusterLemmas
pub mod OneCluster
mod ConstantRows
mod Copying
mod GlyphFlagRows
mod GlyphRows
pub mod ListLaws
pub mod Listing
pub mod MappedLists
pub mod MaskBits
mod NumberRows
pub mod PieceLaws
pub mod PlaceLaws
mod PlaceRows
pub mod PropertyLemmas
mod PropertyRows
mod Rows
pub mod RunLemmas
mod SettingsRows
pub mod SyllableLaws
pub mod SyllableLemmas
mod SyllableRows
pub mod Picks
pub mod Placements
pub mod Ranges
mod Turning

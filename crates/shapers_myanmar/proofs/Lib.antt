mod Ascending
mod Drawing
mod Inside
mod Listing
mod Merging
mod MyanmarRows
pub mod MyanmarSerials
mod OneMoved
mod Positioned
mod Reordered
mod RequestRows

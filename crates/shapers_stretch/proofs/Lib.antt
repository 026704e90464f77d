mod MeasureRows
mod RecordedRows
mod StretchRows
mod WidthRows
pub mod Moves
pub mod Numbers
pub mod PartCounts
pub mod Parts
pub mod PartLaying
pub mod Pen
pub mod Counts
pub mod Flagging
pub mod LaidText
pub mod LastParts
pub mod LayBounds
pub mod LaidCopies
pub mod Lengths
pub mod RunLaying
pub mod Steps
pub mod StretchFlags
pub mod Postprocessing
pub mod Sums
pub mod TileWalk
pub mod Widths
pub mod Zips

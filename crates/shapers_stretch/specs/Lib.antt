pub mod Cells
pub mod CountingWalk
pub mod Lays
pub mod LayingWalk
pub mod Measure
pub mod Recorded
pub mod Stretch
pub mod StretchLaws

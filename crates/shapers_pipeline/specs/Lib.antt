pub mod ByShaper
pub mod ClusterLaws
pub mod Fractions
pub mod Lengths
pub mod Lookups
pub mod Masks
pub mod NormalizeLaws
pub mod Planned
pub mod Positioned
pub mod Prepared
pub mod Preparing
pub mod Refusals
pub mod ShapeLaws
pub mod Shaped
pub mod Shaping
pub mod ShaperSteps
pub mod SingleLaws
pub mod Singles
pub mod Stages
pub mod Substituted
pub mod Substituting
pub mod TextTables
-- what the public clauses cite of the crates below
pub use Rattle.shapers_normal.specs.Context
pub use Rattle.shapers_normal.specs.Decomposition
pub use Rattle.shapers_normal.specs.Laws as normal_laws
pub use Rattle.shapers_normal.specs.Normalization

pub mod ClusterFlags
pub mod Ignorables
pub mod Laws
pub mod Metrics
pub mod Spaces
pub mod Widths

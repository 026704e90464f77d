pub mod Myanmar
pub mod MyanmarLaws
pub mod MyanmarUnits
pub mod MyanmarWalk
pub mod Requests
pub mod Proved

pub mod Steps
pub mod StepLemmas
pub mod Tables
pub mod Simulation
pub mod Facts
pub mod CyclingFacts
pub mod Reading
pub mod Reached
pub mod Joining
pub mod Scanning
pub mod Walking
pub mod Cover
pub mod FoundSpans
pub mod WrittenBytes
pub mod Cutting
pub mod Alike
pub mod GrammarRows
mod IndicRows
mod KhmerRows
mod MyanmarRows
mod UniversalRows
pub mod IndicMachine
pub mod KhmerMachine
pub mod MyanmarMachine
pub mod UniversalMachine

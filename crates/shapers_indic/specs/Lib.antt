pub mod Characters
pub mod Glyphs
pub mod Plan
pub mod Requests

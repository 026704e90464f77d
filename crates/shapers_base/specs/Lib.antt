pub mod Font
pub mod Map
pub mod Masks
pub mod Numbers
pub mod Plan
pub mod Planner
pub mod Questions

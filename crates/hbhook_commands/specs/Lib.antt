pub mod Fault
pub mod Font
pub mod Tables

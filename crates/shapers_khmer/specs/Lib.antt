pub mod Khmer
pub mod KhmerLaws
pub mod KhmerMovers
pub mod KhmerWalk
pub mod Plan
pub mod Requests
pub mod Proved

pub mod Hangul
pub mod HangulLaws
pub mod Masks
pub mod Requests
pub mod RewritingWalk

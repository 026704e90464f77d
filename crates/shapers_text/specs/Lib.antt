pub mod Hebrew
pub mod Thai
pub mod ThaiForms
pub mod ThaiLaws
pub mod ThaiWalk

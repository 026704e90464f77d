pub mod Equivalence
pub mod Laws
pub mod Shapers
pub mod PreparedTexts
pub mod Staying

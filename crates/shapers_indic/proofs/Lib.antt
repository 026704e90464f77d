mod CharacterRows
mod ConstantRows
pub mod PlaceSearch
mod PlanRows
mod RequestRows
pub mod RowWords

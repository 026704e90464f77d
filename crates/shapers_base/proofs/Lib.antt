mod ConstantRows
pub mod MapLemmas
mod MapRows
mod NumberRows
mod PlanRows
mod QuestionRows

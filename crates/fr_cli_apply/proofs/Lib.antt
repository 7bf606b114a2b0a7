pub mod ScriptLemmas
pub mod PlanLemmas
pub mod RowLemmas

pub mod CallLemmas
pub mod KnownLemmas
pub mod LeadLemmas
pub mod ThenLemmas
pub mod UndoLeads
pub mod CountLemmas
pub mod StepLemmas
pub mod WorkLemmas

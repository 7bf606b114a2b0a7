pub mod OrderLemmas
pub mod StoreLemmas
pub mod FileLemmas
pub mod ReadLemmas
pub mod EmptyLemmas
pub mod RestartLemmas

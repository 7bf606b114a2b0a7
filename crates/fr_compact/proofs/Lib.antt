mod CellBack
mod AskLemmas
mod ReadLemmas
mod NodeLemmas

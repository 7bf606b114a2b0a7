mod Lemmas
mod OpeningLemmas
mod SeveralLemmas
mod NodeLemmas
mod ReadLemmas
mod CellLemmas

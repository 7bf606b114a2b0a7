mod DbLemmas

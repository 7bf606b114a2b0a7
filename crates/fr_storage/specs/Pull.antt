-- What an answer of a log makes of a store.
use Rattle.std.specs.Prelude.{ℕ, List, ◌++◌, Option, map, max, min}
use Rattle.fr_undo.specs.State.{StoreState}
use Rattle.fr_log.specs.Peeked.{PeekedContent}
use Rattle.fr_storage.specs.Storage.{Call, records_between, reached, apply_of, advance_calls, forget_calls, cut_at}

-- the calls of a store at an answer whose generation has this end
abbrev pub pull_calls : StoreState → Option ℕ → PeekedContent → List Call
pull_calls s end peeked =
    let records = records_between s.applied end peeked.records in
    let target = cut_at end peeked.upto in
    map apply_of records
    ++ advance_calls (reached s.applied records) target
    ++ forget_calls s.floor (min peeked.known (max (reached s.applied records) target))

-- Which logs of a generation hold a tag.
use Rattle.std.specs.Prelude.{ℕ, ◌+◌, ◌-◌, ◌%◌, ◌==◌, Bool, List, map, nat_lt, count_by}
use Rattle.std.specs.List.{range_with_len, list_any}

-- the k logs that hold tag t: log t modulo m, and those that follow it round the circle of the m logs
abbrev pub holders : ℕ → ℕ → ℕ → List ℕ
holders t m k = map (λ i. (t + i) % m) (range_with_len 0 k)

-- whether a log is among others
abbrev pub is_among : List ℕ → ℕ → Bool
is_among logs log = list_any (λ other. other == log) logs

-- whether a log holds tag t
abbrev pub is_held : ℕ → ℕ → ℕ → ℕ → Bool
is_held t m k log = is_among (holders t m k) log

-- how many of the m logs of a generation are among these, each counted once
abbrev pub log_count : ℕ → List ℕ → ℕ
log_count m logs = count_by (is_among logs) (range_with_len 0 m)

-- whether more than m - k of the m logs are among these
abbrev pub covers : ℕ → ℕ → List ℕ → Bool
covers m k logs = nat_lt (m - k) (log_count m logs)

use Rattle.std.proofs.Common.{◌≡◌, ◌-◌, ◌*◌, ◌≤◌, length}
use Rattle.fr_state.specs.Reading.{generations_at, is_list}
use Rattle.fr_state.proofs.ReadLemmas.{is_list_after}
use Rattle.fr_state.proofs.reading.is_list.Given as goal

abbrev pub invariant-loop : goal.invariant-loop
invariant-loop l = record {
  room : 26 * (l.count - l.counter) ≤ length l.rest;
  so_far : is_list_after l.last (generations_at (l.count - l.counter) l.rest) ≡ is_list (generations_at l.count l.bytes);
}

use Rattle.std.proofs.Common.{◌≡◌, ◌-◌, ◌*◌, ◌≤◌, ◌++◌, length, true}
use Rattle.std.specs.List.{list_all}
use Rattle.fr_state.specs.Reading.{generations_at, is_within}
use Rattle.fr_state.proofs.reading.generations.Given as goal

abbrev pub invariant-loop : goal.invariant-loop
invariant-loop l = record {
  room : 26 * (l.count - l.counter) ≤ length l.rest;
  within : list_all is_within (generations_at (l.count - l.counter) l.rest) ≡ true;
  so_far : l.gens.items ++ generations_at (l.count - l.counter) l.rest ≡ generations_at l.count l.bytes;
}

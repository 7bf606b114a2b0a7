use Rattle.std.proofs.Common.{◌≡◌, ◌<◌, ◌≤◌, ℕ, false, true, length, get_or}
use Rattle.std.specs.Vec.{vec_capacity}
use Rattle.fr_record.proofs.over.fill_unsynced.Given as goal

abbrev pub invariant-loop-i : goal.invariant-loop-i
invariant-loop-i l = record {
  len : length l.bytes.items ≡ length l.initial.bytes.items;
  synced : (k : ℕ) → get_or l.synced k false ≡ true → get_or l.bytes.items k 0 ≡ get_or l.initial.bytes.items k 0;
  unsynced : (k : ℕ) → k < l.i → get_or l.synced k true ≡ false → get_or l.bytes.items k 0 ≡ l.fill;
  capacity : vec_capacity l.initial.bytes ≤ vec_capacity l.bytes;
}

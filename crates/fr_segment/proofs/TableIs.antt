-- The table of the code holds the eight steps of each byte.
use Rattle.std.proofs.Common.{◌≡◌, ℕ, ◌<◌, get_or, refl, ap, ◌∙◌, arith}
use Rattle.std.specs.Prelude.{map}
use Rattle.std.specs.List.{range_with_len}
use Rattle.std.proofs.lemmas.List.FromFn.{get_or-map-range_with_len}
use Rattle.fr_segment.specs.declared.crc.TheConstants.{TABLE}
use Rattle.fr_segment.specs.Crc.{bit_step, bit_steps}

table_is : TABLE ≡ map (λ k. bit_steps 8 k) (range_with_len 0 256)
unfolding bit_steps bit_step
table_is = refl

pub table_found : (k : ℕ) → k < 256 → get_or TABLE k 0 ≡ bit_steps 8 k
table_found k small = ap (λ l. get_or l k 0) table_is ∙ get_or-map-range_with_len (λ n. bit_steps 8 n) 0 256 k k 0 small (omega arith)

-- A file at rest, and what reads it.
use Rattle.std.proofs.Common.{◌≡◌, ℕ, List, length, get_or, refl, sym, ap, ◌∙◌, subst, arith}
use Rattle.std.proofs.lemmas.List.{length-take-le, get_or_at}
use Rattle.fr_record.specs.Disk.{Disk, MayLeave}
use Rattle.fr_record.specs.Moments.{LeavesOnly, Throughout}
use Rattle.fr_record.proofs.Moments.{weaker}
use Rattle.fr_record.proofs.PutLemmas.{content_left}
use Rattle.fr_record.proofs.ReadLemmas.{unique, parsed_stands}
use Rattle.fr_record.specs.declared.frame.Frame.{Frame}
use Rattle.fr_record.specs.File.{frames, StandsFor, IsAtRest}
use Rattle.fr_record.specs.Table.{records_at, IsParsed}

pub rest_stands : (file : List ℕ) (records : List (List ℕ)) → IsAtRest records file → StandsFor file records
rest_stands file records rest = record { gate = 0; rest = rest.rest; closed = refl; split = rest.split; short = rest.short }

-- the gate that is found in a file at rest is 00
pub rest_gate : (file : List ℕ) (before : List (List ℕ)) (table : List Frame) (end : ℕ) → IsAtRest before file → IsParsed file table end → get_or file end 1 ≡ 0
rest_gate file before table end rest parsed =
    let same = unique file before (records_at file table) (rest_stands file before rest) (parsed_stands file table end parsed) in
    let end_is : end ≡ length (frames before) = sym (length-take-le end file (omega (arith, parsed.long))) ∙ ap length parsed.front ∙ ap (λ xs. length (frames xs)) same in
    ap (λ l. get_or l end 1) rest.split ∙ get_or_at (frames before) 0 rest.rest 1 end (sym end_is)

module _ {D : Type 0} (Led : D → D → Type 0) (disk : D → Disk) (first : D) (before : List (List ℕ)) (leaves : LeavesOnly Led disk (IsAtRest before) first) where
  -- while it is read it stays so
  pub rest_read : (loaded : D) → Throughout Led disk (MayLeave (disk first)) first loaded → Throughout Led disk (IsAtRest before) first loaded
  rest_read loaded always = weaker Led disk (MayLeave (disk first)) (IsAtRest before) leaves first loaded always

  -- and its gate is found closed
  pub rest_found : (bytes : List ℕ) → bytes ≡ (disk first).content → (table : List Frame) (end : ℕ) → IsParsed bytes table end → get_or bytes end 1 ≡ 0
  rest_found bytes loads table end parsed =
      rest_gate bytes before table end (subst (λ l. IsAtRest before l) (sym loads) (leaves (disk first).content (content_left (disk first)))) parsed

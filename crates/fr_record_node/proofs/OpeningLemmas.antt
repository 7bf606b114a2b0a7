-- Opening a file and then reading it.
use Rattle.std.proofs.Common.{◌≡◌, ℕ, List, [], ◌∷◌, length, get_or, refl, sym, ap, ◌∙◌, subst, arith}
use Rattle.fr_base.specs.Faults as base
use Rattle.fr_record.specs.Disk.{Disk, MayLeave, IsDurable, Stands}
use Rattle.fr_record.specs.Moments.{Throughout}
use Rattle.fr_record.specs.declared.fault.RecordFault.{RecordFault}
use Rattle.fr_record.specs.declared.fault.RecordFault.TheVariants.{Device, Full, Failed, Memory, Broken}
use Rattle.fr_record.specs.Fault.{is_device}
use Rattle.fr_record.specs.File.{IsLeft, IsAtRest}
use Rattle.fr_record.specs.Opening.{IsOpening}
use Rattle.fr_record_node.specs.Node.{node_fault}
use Rattle.fr_record_node.specs.Reading.{IsRead}
use Rattle.fr_record_node.proofs.Lemmas.{started, weaker, at_last}

-- a node's fault is the device's where its file's is
pub same_fault : (fault : RecordFault) → is_device fault ≡ base.is_device (node_fault fault)
same_fault Device = refl
same_fault Full = refl
same_fault Failed = refl
same_fault Memory = refl
same_fault Broken = refl

stands_leaves : (old new : Disk) (left : List ℕ) → Stands old new → MayLeave new left → MayLeave old left
stands_leaves old new left stands may = record {
  no_shorter = omega (arith, may.no_shorter, ap length stands.same, stands.len);
  no_longer = omega (arith, may.no_longer, ap length stands.same);
  same = λ i h kept. may.same i h (stands.kept i kept) ∙ ap (λ l. get_or l i 0) stands.same;
}

pub stands_durable : (old new : Disk) → IsDurable old → Stands old new → IsDurable new
stands_durable old new durable stands = record {
  kept = λ i h. stands.kept i (durable.kept i (omega (arith, h, ap length stands.same)));
  len = omega (arith, durable.len, stands.len, ap length stands.same);
}

module _ {D : Type 0} (Led : D → D → Type 0) (disk : D → Disk) where
  joined : (P : List ℕ → Type 0) (first middle last : D) → Throughout Led disk P first middle → Throughout Led disk P middle last → Throughout Led disk P first last
  joined P first middle last start ([], run) = subst (λ d. Throughout Led disk P first d) (sym run.0) start
  joined P first middle last start (before ∷ earlier, run) = let so_far = joined P first middle before start (earlier, run.0) in (before ∷ so_far.0, (so_far.1, run.1, run.2))

  -- nothing was read yet
  pub unread : (device : D) → IsRead Led disk device device
  unread device = record {
    stands = record { same = refl; kept = λ i k. k; len = omega arith };
    always = started Led disk (MayLeave (disk device)) device (λ left may. may);
  }

  -- and more is
  pub read_on : (first middle last : D) → IsRead Led disk first middle → Stands (disk middle) (disk last) → Throughout Led disk (MayLeave (disk middle)) middle last → IsRead Led disk first last
  read_on first middle last read stands always = record {
    stands = record { same = stands.same ∙ read.stands.same; kept = λ i k. stands.kept i (read.stands.kept i k); len = omega (arith, stands.len, read.stands.len) };
    always = joined (MayLeave (disk first)) first middle last read.always (weaker Led disk (MayLeave (disk middle)) (MayLeave (disk first)) (λ left may. stands_leaves (disk first) (disk middle) left read.stands may) middle last always);
  }

  -- a file that was opened is read
  then_read : (P : List ℕ → Type 0) (first middle last : D) → Throughout Led disk P first middle → IsRead Led disk middle last → Throughout Led disk P first last
  then_read P first middle last opening read =
      joined P first middle last opening (weaker Led disk (MayLeave (disk middle)) P (at_last Led disk P first middle opening) middle last read.always)

  pub opened_read : (first middle last : D) → IsOpening Led disk first middle → IsRead Led disk middle last → IsOpening Led disk first last
  opened_read first middle last opening read = record {
    in_flight = λ before r rs short leaves. then_read (IsLeft before (r ∷ rs)) first middle last (opening.in_flight before r rs short leaves) read;
    at_rest = λ before leaves. then_read (IsAtRest before) first middle last (opening.at_rest before leaves) read;
  }

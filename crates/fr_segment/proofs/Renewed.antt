-- A file that was begun anew with one group.
use Rattle.std.proofs.Common.{◌≡◌, ℕ, ◌+◌, ◌<◌, ◌^◌, Bool, true, false, List, [], ◌∷◌, ◌++◌, length, refl, sym, ap, ◌∙◌, subst, arith, length-append}
use Rattle.fr_record.specs.Disk.{Disk, MayLeave, IsDurable}
use Rattle.fr_segment.specs.declared.place.Place.{Place}
use Rattle.fr_segment.specs.File.{Group, body, block, behind, guard, IsAtRest}
use Rattle.fr_segment.specs.Put.{IsAtGate}
use Rattle.fr_segment.specs.Table.{places, groups_in, IsFile, IsGuarded}
use Rattle.fr_segment.proofs.FileLemmas.{length-block}
use Rattle.fr_segment.proofs.GuardBytes.{length-guard}
use Rattle.fr_segment.proofs.Grown.{grown_groups, grown_guarded, grown}
use Rattle.fr_segment.proofs.ReadMore.{none_read}

-- bytes of a group, a closed gate and a guard
pub length-spelled_group : (number : ℕ) (g : Group) → length (behind number g ++ guard (number + 1)) ≡ 22 + length (body g)
length-spelled_group number g =
    omega (arith, length-append (behind number g) (guard (number + 1)), length-guard (number + 1), length-append (block number (body g)) (0 ∷ 0 ∷ []), length-block number (body g))

-- a device that holds nothing
abbrev blank : Disk
blank = record { content = 0 ∷ 0 ∷ []; is_kept = λ i. true; kept_len = 2 }

blank_file : IsFile blank [] 0 false (groups_in 0 (0 ∷ 0 ∷ []))
unfolding groups_in
blank_file = record { read = none_read (0 ∷ 0 ∷ []); long = omega arith; closed = λ works. (refl, refl); durable = λ works. record { kept = λ i h. refl; len = omega arith } }

module _ (disk : Disk) (g : Group) (short : length (body g) < 2 ^ 32) (old bytes : List ℕ) (is : bytes ≡ behind 0 g ++ guard 1) (at : IsAtGate old 0 (1 ∷ 1 ∷ []) bytes disk.content) where
  at_blank : IsAtGate (0 ∷ 0 ∷ []) 0 (1 ∷ 1 ∷ []) (behind 0 g ++ guard 1) disk.content
  at_blank = subst (λ b. IsAtGate (0 ∷ 0 ∷ []) 0 (1 ∷ 1 ∷ []) b disk.content) is (record { front = refl; two_long = at.two_long; at = at.at })

  pub renewed_groups : groups_in 1 disk.content ≡ g ∷ []
  unfolding groups_in
  renewed_groups = grown_groups blank [] 0 false 0 blank_file g disk short at_blank

  module _ (n : ℕ) (n_is : n ≡ 14 + length (body g)) where
    pub renewed_file : IsDurable disk → (items : List Place) → items ≡ places 10 g → IsFile disk items n false (groups_in 1 disk.content)
    renewed_file durable items items_is =
        subst (λ t. IsFile disk t n false (groups_in 1 disk.content)) (sym items_is)
        (subst (λ m. IsFile disk (places 10 g) m false (groups_in 1 disk.content)) (sym n_is) (grown blank [] 0 false 0 blank_file g disk short at_blank durable))

    pub renewed_guarded : IsGuarded disk.content n 1
    renewed_guarded = subst (λ m. IsGuarded disk.content m 1) (sym n_is) (grown_guarded blank [] 0 false 0 blank_file g disk short at_blank)

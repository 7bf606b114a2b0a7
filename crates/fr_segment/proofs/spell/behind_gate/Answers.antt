use Rattle.std.proofs.Common.{refl, ◌≡◌, ◌∙◌, ◌++◌, ◌∷◌, [], length, ap}
use Rattle.fr_segment.specs.Crc.{sum_of}
use Rattle.fr_segment.specs.File.{block}
use Rattle.fr_segment.proofs.FileLemmas.{be32, spelled_block}
use Rattle.fr_segment.proofs.spell.behind_gate.Goals as goal

pub returns : goal.returns
returns c =
    let b = c.args.body.now in
    let l = c.to_be_bytes-len.result in
    let first = c.to_be_bytes.result in
    let second = c.to_be_bytes-2.result in
    let group =
    c.in_ok-extend_from_slice-5.ensures.items
    ∙ ap (λ x. x ++ 0 ∷ 0 ∷ []) (c.in_ok-extend_from_slice-4.ensures.items
    ∙ ap (λ x. x ++ second) (c.in_ok-extend_from_slice-3.ensures.items
    ∙ ap (λ x. x ++ b) (c.in_ok-extend_from_slice-2.ensures.items
    ∙ ap (λ x. x ++ first) (c.in_ok-extend_from_slice.ensures.items ∙ ap (λ x. x ++ l) c.in_ok-bytes.ensures.items))))
    ∙ ap (λ x. (((x ++ first) ++ b) ++ second) ++ 0 ∷ 0 ∷ []) c.to_be_bytes-len.ensures
    ∙ ap (λ x. (((be32 (length b) ++ x) ++ b) ++ second) ++ 0 ∷ 0 ∷ []) c.to_be_bytes.ensures
    ∙ ap (λ x. (((be32 (length b) ++ be32 c.sum.result) ++ b) ++ x) ++ 0 ∷ 0 ∷ []) c.to_be_bytes-2.ensures
    ∙ spelled_block c.args.number (length b) c.sum.result c.sum-2.result b refl (c.sum.ensures ∙ ap (λ x. sum_of c.args.number x) c.to_be_bytes-len.ensures) c.sum-2.ensures in
    c.in_ok-extend_from_slice-6.ensures.items ∙ ap (λ x. x ++ c.guard.result) group ∙ ap (λ x. (block c.args.number b ++ 0 ∷ 0 ∷ []) ++ x) c.guard.ensures

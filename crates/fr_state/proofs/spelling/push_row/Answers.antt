use Rattle.std.proofs.Common.{◌≡◌, ℕ, List, [], ◌∷◌, ◌++◌, ap, ◌∙◌, append_assoc}
use Rattle.std.specs.Int.{w64, to_be_bytes}
use Rattle.fr_state.specs.Spelling.{row}
use Rattle.fr_state.proofs.spelling.push_row.Goals as goal

-- five fields, one after another
appended : (out a b c d e epoch first seeded_to epoch' first' seeded_to' : List ℕ) (m k m' k' : ℕ) → a ≡ out ++ epoch' → b ≡ a ++ m' ∷ [] → c ≡ b ++ k' ∷ [] → d ≡ c ++ first' → e ≡ d ++ seeded_to'
    → epoch' ≡ epoch → m' ≡ m → k' ≡ k → first' ≡ first → seeded_to' ≡ seeded_to → e ≡ out ++ (epoch ++ m ∷ k ∷ [] ++ first ++ seeded_to)
appended out a b c d e epoch first seeded_to epoch' first' seeded_to' m k m' k' p q r s t epoch-is m-is k-is first-is seeded_to-is =
    rw (t, s, r, q, p, epoch-is, m-is, k-is, first-is, seeded_to-is) (simp append_assoc)

-- a number that went through two readers
written : (bytes : List ℕ) (n epoch value : ℕ) → bytes ≡ to_be_bytes w64 n → n ≡ epoch → epoch ≡ value → bytes ≡ to_be_bytes w64 value
written bytes n epoch value p q r = p ∙ ap (to_be_bytes w64) (q ∙ r)

pub returns : goal.returns
unfolding row
returns c =
    let g = c.args.generation in
    appended c.args.bytes.now.items c.extend_from_slice.new.self.items c.push.new.self.items c.push-2.new.self.items c.extend_from_slice-2.new.self.items c.extend_from_slice-3.new.self.items
    (to_be_bytes w64 g.epoch) (to_be_bytes w64 g.first) (to_be_bytes w64 g.seeded_to) c.to_be_bytes.result c.to_be_bytes-2.result c.to_be_bytes-3.result g.m g.k c.m.result c.k.result
    c.in_ok-extend_from_slice.ensures.items c.in_ok-push.ensures.items c.in_ok-push-2.ensures.items c.in_ok-extend_from_slice-2.ensures.items c.in_ok-extend_from_slice-3.ensures.items
    (written c.to_be_bytes.result c.get.result c.epoch.result g.epoch c.to_be_bytes.ensures c.get.ensures.value c.epoch.ensures)
    c.m.ensures c.k.ensures
    (written c.to_be_bytes-2.result c.get-2.result c.first.result g.first c.to_be_bytes-2.ensures c.get-2.ensures.value c.first.ensures)
    (written c.to_be_bytes-3.result c.get-3.result c.seeded_to.result g.seeded_to c.to_be_bytes-3.ensures c.get-3.ensures.value c.seeded_to.ensures)

-- Numbers of requests: each version is that of one, and each is of a batch that was taken.
use Rattle.std.proofs.Common.{◌≡◌, ℕ, ◌-◌, ◌≤◌, List, [], ◌∷◌, ◌++◌, length, reverse, inl, inr, sym, ◌∙◌, ap, arith}
use Rattle.std.specs.List.{Contains}
use Rattle.std.proofs.lemmas.List.{length-reverse}
use Rattle.fr_run.specs.Config.{Config}
use Rattle.fr_run.specs.Turn.{Turn}
use Rattle.fr_run.specs.Run.{IsRun}
use Rattle.fr_run.specs.Batches.{batches}
use Rattle.fr_run.specs.Laws.{Laws}
use Rattle.fr_run.proofs.Cells.{Contains-none, Contains-cases}
use Rattle.fr_run_headline.specs.Numbers.{Numbering, numbers, AreChained}
use Rattle.fr_run_headline.proofs.Numbers.{chained_below, numbers_stay}
use Rattle.fr_run_headline.proofs.Taken.{number_has_batch}
use Rattle.fr_run_history.proofs.Coming.{get_within}

-- each version is that of one number
pub chained_once : (base : ℕ) (ns : List Numbering) → AreChained base ns → (x y : Numbering) → Contains ns x → Contains ns y → x.version ≡ y.version → x ≡ y
chained_once base [] all x y k l same = absurd (Contains-none k)
chained_once base (n ∷ ns) (follows, rises, rest) x y k l same = elim (Contains-cases n ns x k) [
  | inl one ↦ elim (Contains-cases n ns y l) [
    | inl other ↦ sym one ∙ other
    | inr later ↦ absurd (apart y later (ap (λ (z : Numbering). z.version) one ∙ same))
  ]
  | inr later ↦ elim (Contains-cases n ns y l) [
    | inl other ↦ absurd (apart x later (ap (λ (z : Numbering). z.version) other ∙ sym same))
    | inr both ↦ chained_once base ns rest x y later both same
  ]
]
  where
    apart : (z : Numbering) → Contains ns z → n.version ≡ z.version → ⊥
    apart z there at = let k = chained_below base ns rest z there in let high = k.2 in omega (arith, high, follows, rises, at)

-- numbers stay
pub still_numbered : (more h : List Turn) (e : ℕ) (n : Numbering) → Contains (numbers h e) n → Contains (numbers (more ++ h) e) n
still_numbered [] h e n k = k
still_numbered (t ∷ more) h e n k = numbers_stay t e (numbers (more ++ h) e) n (still_numbered more h e n k)

-- a number is of a batch that its proxy took
pub number_is_taken : Laws → (c : Config) (h : List Turn) → IsRun c h → (e : ℕ) (n : Numbering) → Contains (numbers h e) n → n.request ≤ length (batches h e n.proxy)
number_is_taken laws c h run e n k =
    let b = number_has_batch laws c h run e n k in
    let low = get_within (reverse (batches h e n.proxy)) (n.request - 1) b.batch b.at in
    let size : length (reverse (batches h e n.proxy)) ≡ length (batches h e n.proxy) = length-reverse (batches h e n.proxy) in
    omega (arith, low, size)

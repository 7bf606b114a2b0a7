-- Keys of trees: which places are one, and what a tree holds where one place took a value.
use Rattle.std.proofs.Common.{◌≡◌, ℕ, Bool, true, false, cond, Option, refl, sym, ◌∙◌, ap}
use Rattle.std.specs.Prelude.{Result, Ok, Err, OnErr}
use Rattle.std.specs.Ordering.{nat_cmp, ordering_then}
use Rattle.std.specs.declared.cmp.Ordering.{Ordering}
use Rattle.std.specs.declared.cmp.Ordering.TheVariants.{Less, Equal, Greater}
use Rattle.std.specs.FinMap.{IsAntisymmetric, nat_cmp-IsAntisymmetric}
use Rattle.std.specs.BTreeMap as tree
use Rattle.std.specs.BTreeMap.{BTreeMap}
use Rattle.fr_base.proofs.MapLemmas.{one_key}
use Rattle.fr_world_nodes.specs.Parts.{pair_cmp}

pairs : (a b x y : ℕ) → a ≡ b → x ≡ y → ◌≡◌ {A = ℕ × ℕ} (a, x) (b, y)
pairs a b x y e d = ap (λ (n : ℕ). let z : ℕ × ℕ = (n, x) in z) e ∙ ap (λ (n : ℕ). let z : ℕ × ℕ = (b, n) in z) d

pub pair_cmp-IsAntisymmetric : IsAntisymmetric pair_cmp
pair_cmp-IsAntisymmetric p q e = go (nat_cmp p.0 q.0) refl e
  where
    go : (r : Ordering) → nat_cmp p.0 q.0 ≡ r → ordering_then r (nat_cmp p.1 q.1) ≡ Equal → p ≡ q
    go Less k h = absurd (cc)
    go Equal k h =
        let a = nat_cmp-IsAntisymmetric p.0 q.0 k in
        let b = nat_cmp-IsAntisymmetric p.1 q.1 h in
        pairs p.0 q.0 p.1 q.1 a b
    go Greater k h = absurd (cc)

module _ {K X : Type 0} {R : K → K → Ordering} (exact : IsAntisymmetric R) where
  -- a place that took what it held holds what it did
  pub put_same : (m n : BTreeMap K X) (k : K) (o : Option X) → tree.get R m k ≡ o → ((q : K) → tree.get R n q ≡ cond (tree.is_at (R k) q) o (tree.get R m q)) → (q : K) → tree.get R n q ≡ tree.get R m q
  put_same m n k o held put q = put q ∙ go (tree.is_at (R k) q) refl
    where
      go : (b : Bool) → tree.is_at (R k) q ≡ b → cond b o (tree.get R m q) ≡ tree.get R m q
      go true e = sym held ∙ ap (tree.get R m) (one_key exact k q e)
      go false e = refl

-- what follows at a refusal
pub on_err : {T E : Type 0} {P Q : Type 0} (r : Result T E) → (P → Q) → OnErr r P → OnErr r Q
on_err (Ok x) f k = k
on_err (Err e) f k = f k

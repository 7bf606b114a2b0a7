-- Tests that answer yes exactly if their arguments are the same.
use Rattle.std.specs.Prelude.{◌≡◌, Bool, true, false, List, [], ◌∷◌, refl}
use Rattle.std.specs.Cmp.{IsEquivalence}
use Rattle.std.specs.Cmp.Lexicographic.{pointwise}
use Rattle.std.proofs.Common.{ap}
use Rattle.std.proofs.lemmas.Bool.{and_parts}
use Rattle.std.proofs.lemmas.Slice.Eq.{bytes_eq-Decides}
use Rattle.fr_base.specs.Bytes.{bytes_eq}

-- a test answers yes exactly if its arguments are the same
pub record IsSameness {K : Type 0} (E : K → K → Bool) : Type 0 where
  pub itself : (x : K) → E x x ≡ true
  pub same : (x y : K) → E x y ≡ true → x ≡ y

-- a test of sameness has the laws of `==`
pub IsSameness-equivalence : {K : Type 0} {E : K → K → Bool} → IsSameness E → IsEquivalence E
IsSameness-equivalence {K} {E} h = record {
  refl = h.itself;
  symm = λ x y. back x y (E x y) (E y x) refl refl;
  congr = λ x y z e. ap (λ w. E w z) (h.same x y e);
}
  where
    back : (x y : K) (s t : Bool) → E x y ≡ s → E y x ≡ t → E x y ≡ E y x
    back x y true true e d = cc
    back x y false false e d = cc
    back x y true false e d = let k = h.same x y e in let r = h.itself x in cc
    back x y false true e d = let k = h.same y x d in let r = h.itself x in cc

-- two lists are the same if their items are, one by one
pub pointwise-IsSameness : {K : Type 0} {E : K → K → Bool} → IsSameness E → IsSameness (pointwise E)
pointwise-IsSameness {K} {E} h = record { itself = itself; same = same }
  where
    itself : (xs : List K) → pointwise E xs xs ≡ true
    itself [] = refl
    itself (x ∷ xs) = rw (h.itself x) (itself xs)

    same : (xs ys : List K) → pointwise E xs ys ≡ true → xs ≡ ys
    same [] [] e = refl
    same [] (y ∷ ys) e = absurd (cc)
    same (x ∷ xs) [] e = absurd (cc)
    same (x ∷ xs) (y ∷ ys) e =
        let p = and_parts (E x y) (pointwise E xs ys) e in
        let a = h.same x y p.0 in
        let b = same xs ys p.1 in
        cc

pub bytes_eq-IsSameness : IsSameness bytes_eq
bytes_eq-IsSameness = record {
  itself = λ x. (bytes_eq-Decides x x).1 refl;
  same = λ x y e. (bytes_eq-Decides x y).0 e;
}

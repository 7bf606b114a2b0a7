-- Facts of each element of a list.
use Rattle.std.proofs.Common.{◌≡◌, ℕ, zero, suc, List, [], ◌∷◌, ◌++◌, arith}
use Rattle.std.specs.Prelude.{All}

pub all_first : {X : Type 0} (P : X → Type 0) → (x : X) (xs : List X) → P x → All P xs → All P (x ∷ xs)
all_first P x xs first others zero d h = first
all_first P x xs first others (suc i) d h = others i d (omega (arith, h))

pub all_rest : {X : Type 0} (P : X → Type 0) → (x : X) (xs : List X) → All P (x ∷ xs) → All P xs
all_rest P x xs all i d h = all (suc i) d (omega (arith, h))

pub all_head : {X : Type 0} (P : X → Type 0) → (x : X) (xs : List X) → All P (x ∷ xs) → P x
all_head P x xs all = all zero x (omega arith)

pub all_none : {X : Type 0} (P : X → Type 0) → All P []
all_none P i d h = absurd (omega (arith, h))

pub all_left : {X : Type 0} (P : X → Type 0) → (xs ys : List X) → All P (xs ++ ys) → All P xs
all_left P [] ys all = all_none P
all_left P (x ∷ xs) ys all = all_first P x xs (all_head P x (xs ++ ys) all) (all_left P xs ys (all_rest P x (xs ++ ys) all))

pub all_right : {X : Type 0} (P : X → Type 0) → (xs ys : List X) → All P (xs ++ ys) → All P ys
all_right P [] ys all = all
all_right P (x ∷ xs) ys all = all_right P xs ys (all_rest P x (xs ++ ys) all)

-- What `==` answers of two mutations and of two batches: whether they are the same.
use Rattle.std.specs.Prelude.{◌≡◌, ℕ, ◌==◌, Bool, true, false, ◌&&◌, List, Some, refl}
use Rattle.std.specs.Cmp.Lexicographic.{pointwise}
use Rattle.std.proofs.Common.{ap, sym, ◌∙◌}
use Rattle.std.proofs.lemmas.Bool.{and_parts, eqb-true, eq-eqb}
use Rattle.fr_base.specs.Bytes.{bytes_eq}
use Rattle.fr_base.specs.Same.{IsSameness, pointwise-IsSameness, bytes_eq-IsSameness}
use Rattle.fr_mutation.specs.Atomic.{op_byte, op_with}
use Rattle.fr_mutation.specs.declared.atomic.AtomicOp.{AtomicOp}
use Rattle.fr_mutation.specs.declared.atomic.AtomicOp.TheVariants as ops
use Rattle.fr_mutation.specs.declared.mutation.Mutation.{Mutation}
use Rattle.fr_mutation.specs.declared.mutation.Mutation.TheVariants.{Set, Clear, Atomic}

-- whether two atomic operations are one
abbrev pub is_same_op : AtomicOp → AtomicOp → Bool
is_same_op a b = op_byte a == op_byte b

-- whether two mutations are of one kind and have the same keys and operands
abbrev pub is_same_mutation : Mutation → Mutation → Bool
is_same_mutation (Set k v) (Set l w) = bytes_eq k l && bytes_eq v w
is_same_mutation (Clear b e) (Clear c f) = bytes_eq b c && bytes_eq e f
is_same_mutation (Atomic o k p) (Atomic n l q) = is_same_op o n && (bytes_eq k l && bytes_eq p q)
is_same_mutation a b = false

-- whether two batches have the same mutations, one by one
abbrev pub is_same_batch : List Mutation → List Mutation → Bool
is_same_batch = pointwise is_same_mutation

-- each operation is found by its byte
found_by_byte : (op : AtomicOp) → op_with (op_byte op) ≡ Some op
found_by_byte ops.Add = refl
found_by_byte ops.And = refl
found_by_byte ops.Or = refl
found_by_byte ops.Xor = refl
found_by_byte ops.Max = refl
found_by_byte ops.Min = refl
found_by_byte ops.CompareAndClear = refl

pub is_same_op-IsSameness : IsSameness is_same_op
is_same_op-IsSameness = record {
  itself = λ o. eq-eqb (op_byte o) (op_byte o) refl;
  same = λ o n e.
      (let k : Some o ≡ Some n = sym (found_by_byte o) ∙ (ap op_with (eqb-true (op_byte o) (op_byte n) e) ∙ found_by_byte n) in
      cc);
}

both_itself : (k v : List ℕ) → (bytes_eq k k && bytes_eq v v) ≡ true
both_itself k v = rw (bytes_eq-IsSameness.itself k) (bytes_eq-IsSameness.itself v)

both_same : (k l v w : List ℕ) (make : List ℕ → List ℕ → Mutation) → (bytes_eq k l && bytes_eq v w) ≡ true → make k v ≡ make l w
both_same k l v w make e =
    let p = and_parts (bytes_eq k l) (bytes_eq v w) e in
    let a = bytes_eq-IsSameness.same k l p.0 in
    let b = bytes_eq-IsSameness.same v w p.1 in
    cc

pub is_same_mutation-IsSameness : IsSameness is_same_mutation
is_same_mutation-IsSameness = record { itself = itself; same = same }
  where
    itself : (a : Mutation) → is_same_mutation a a ≡ true
    itself (Set k v) = both_itself k v
    itself (Clear k v) = both_itself k v
    itself (Atomic o k v) = rw (is_same_op-IsSameness.itself o) (both_itself k v)

    same : (a b : Mutation) → is_same_mutation a b ≡ true → a ≡ b
    same (Set k v) (Set l w) e = both_same k l v w (λ x y. Set x y) e
    same (Clear k v) (Clear l w) e = both_same k l v w (λ x y. Clear x y) e
    same (Atomic o k v) (Atomic n l w) e =
        let p = and_parts (is_same_op o n) (bytes_eq k l && bytes_eq v w) e in
        let a = is_same_op-IsSameness.same o n p.0 in
        let b = both_same k l v w (λ x y. Atomic o x y) p.1 in
        b ∙ ap (λ i. Atomic i l w) a
    same a b e = absurd (cc)

pub is_same_batch-IsSameness : IsSameness is_same_batch
is_same_batch-IsSameness = pointwise-IsSameness is_same_mutation-IsSameness

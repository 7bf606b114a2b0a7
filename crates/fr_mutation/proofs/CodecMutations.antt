-- A mutation that is read is the one that was written, and what was written is read again.
use Rattle.std.proofs.Common.{◌≡◌, ℕ, Bool, true, false, cond, List, [], ◌∷◌, ◌++◌, Option, Some, None, Result, Ok, Err, refl, sym, ap, subst, ◌∙◌, append_assoc}
use Rattle.std.specs.Prelude.{find, ◌==◌, not}
use Rattle.std.specs.Ordering.{is_lt}
use Rattle.std.proofs.lemmas.Bool.{eqb-true}
use Rattle.fr_base.specs.Bytes.{bytes_cmp}
use Rattle.fr_mutation.specs.declared.codec.fault.DecodeFault.{DecodeFault}
use Rattle.fr_mutation.specs.declared.codec.fault.DecodeFault.TheVariants.{UnknownKind, Inverted}
use Rattle.fr_mutation.specs.declared.codec.format.Format.{Format}
use Rattle.fr_mutation.specs.declared.codec.format.Format.TheVariants as formats
use Rattle.fr_mutation.specs.declared.atomic.AtomicOp.{AtomicOp}
use Rattle.fr_mutation.specs.declared.atomic.AtomicOp.TheVariants as ops
use Rattle.fr_mutation.specs.declared.codec.kind.Kind.{Kind}
use Rattle.fr_mutation.specs.declared.codec.kind.Kind.TheVariants as kinds
use Rattle.fr_mutation.specs.declared.mutation.Mutation.{Mutation}
use Rattle.fr_mutation.specs.declared.mutation.Mutation.TheVariants.{Set, Clear, Atomic}
use Rattle.fr_mutation.specs.Limits.{keyed_fault, clear_fault, mutation_fault}
use Rattle.fr_mutation.specs.Atomic.{op_byte}
use Rattle.fr_mutation.specs.CodecKind.{kind_byte, all_kinds, kind_of, mutation_of}
use Rattle.fr_mutation.specs.CodecFormat.{is_compare_and_clear, is_compare_and_clear_kind, has_kind}
use Rattle.fr_mutation.specs.CodecSpelling.{spelled_key, spelled_operand, spelled_keyed, spelled_mutation}
use Rattle.fr_mutation.specs.CodecReading.{◌>>=◌, known, kind_at, key_at, operand_at, clear_at, keyed_at, fields_at, mutation_at}
use Rattle.fr_mutation.proofs.CodecLimits.{keyed_limits, keyed_within, clear_limits, clear_within}
use Rattle.fr_mutation.proofs.CodecFields.{IsBytes, IsBytes-rest, bind_ok, guard_ok, ok_is, Takes, Takes-then, key_takes, key_again, operand_takes, operand_again}

-- ---- kinds

pub find_passes : {X : Type 0} (p : X → Bool) (xs : List X) (x : X) → find p xs ≡ Some x → p x ≡ true
find_passes p [] x e = absurd cc
find_passes p (y ∷ ys) x e = go (p y) refl e (find_passes p ys x)
  where
    go : (b : Bool) → p y ≡ b → cond b (Some y) (find p ys) ≡ Some x → (find p ys ≡ Some x → p x ≡ true) → p x ≡ true
    go true h f later = let same : y ≡ x = cc in rw (← same) h
    go false h f later = later f

kind_is : (byte : ℕ) (kind : Kind) → kind_of byte ≡ Some kind → byte ≡ kind_byte kind
kind_is byte kind e = eqb-true _ _ (find_passes (λ k. byte == kind_byte k) all_kinds kind e)

pub known_ok : {A : Type 0} (o : Option A) (x : A) → known o ≡ Ok x → o ≡ Some x
known_ok None x e = absurd cc
known_ok (Some y) x e = cc

-- a test that was passed
pub passed : {A : Type 0} (b : Bool) (d : DecodeFault) (x y : A) → cond b (Ok x) (Err d) ≡ Ok y → (b ≡ true) × (x ≡ y)
passed true d x y e = (refl, cc)
passed false d x y e = absurd cc

kind_takes : (format : Format) (bytes : List ℕ) (x : Kind × List ℕ) → IsBytes bytes → kind_at format bytes ≡ Ok x → Takes bytes (kind_byte x.0 ∷ []) x.1 × (has_kind format x.0 ≡ true)
unfolding kind_at
kind_takes format [] x fits e = absurd cc
kind_takes format (byte ∷ rest) x fits e =
    let a = bind_ok (known (kind_of byte)) (λ kind. cond (has_kind format kind) (Ok (kind, rest)) (Err UnknownKind)) x e in
    let is : byte ≡ kind_byte a.0 = kind_is byte a.0 (known_ok (kind_of byte) a.0 a.1) in
    let g = passed (has_kind format a.0) UnknownKind (a.0, rest) x a.2 in
    subst (λ (p : Kind × List ℕ). Takes (byte ∷ rest) (kind_byte p.0 ∷ []) p.1 × (has_kind format p.0 ≡ true)) g.1
    (record { parts = ap (λ (b : ℕ). b ∷ rest) is; rest_fits = IsBytes-rest byte rest fits }, g.0)

pub kind_tells : (kind : Kind) (first second : List ℕ) → is_compare_and_clear (mutation_of kind first second) ≡ is_compare_and_clear_kind kind
kind_tells kinds.Set first second = refl
kind_tells kinds.Clear first second = refl
kind_tells (kinds.Atomic op) first second = refl

-- ---- formats

-- whether a format has the mutation
abbrev pub has_mutation : Format → Mutation → Bool
has_mutation formats.First m = not (is_compare_and_clear m)
has_mutation formats.Second m = true

kind_has : (format : Format) (kind : Kind) (m : Mutation) → is_compare_and_clear m ≡ is_compare_and_clear_kind kind → has_kind format kind ≡ has_mutation format m
kind_has formats.First kind m e = ap not (sym e)
kind_has formats.Second kind m e = refl

-- ---- fields

-- what was read behind a kind's byte, as it is spelled and within the limits
pub record TakesFields (kind : Kind) (bytes : List ℕ) (x : Mutation × List ℕ) : Type 0 where
  pub text : List ℕ
  pub spells : spelled_mutation x.0 ≡ kind_byte kind ∷ text
  pub takes : Takes bytes text x.1
  pub within : mutation_fault x.0 ≡ None
  pub tells : is_compare_and_clear x.0 ≡ is_compare_and_clear_kind kind

clear_takes : (bytes : List ℕ) (x : Mutation × List ℕ) → IsBytes bytes → clear_at bytes ≡ Ok x → TakesFields kinds.Clear bytes x
unfolding clear_at
clear_takes bytes x fits e =
    let a = bind_ok (key_at bytes) (λ begin. key_at begin.1 >>= λ end. cond (is_lt (bytes_cmp end.0 begin.0)) (Err Inverted) (Ok (Clear begin.0 end.0, end.1))) x e in
    let b = bind_ok (key_at a.0.1) (λ end. cond (is_lt (bytes_cmp end.0 a.0.0)) (Err Inverted) (Ok (Clear a.0.0 end.0, end.1))) x a.2 in
    let g = guard_ok (is_lt (bytes_cmp b.0.0 a.0.0)) Inverted (Clear a.0.0 b.0.0, b.0.1) x b.2 in
    let s = key_takes bytes a.0 fits a.1 in
    let t = key_takes a.0.1 b.0 s.0.rest_fits b.1 in
    subst (λ (p : Mutation × List ℕ). TakesFields kinds.Clear bytes p) g.1 (record {
      text = spelled_key a.0.0 ++ spelled_key b.0.0;
      spells = refl;
      takes = Takes-then bytes (spelled_key a.0.0) a.0.1 (spelled_key b.0.0) b.0.1 s.0 t.0;
      within = clear_within a.0.0 b.0.0 s.1 t.1 g.0;
      tells = refl;
    })

keyed_takes : (kind : Kind) → ((key operand : List ℕ) → spelled_mutation (mutation_of kind key operand) ≡ spelled_keyed kind key operand)
    → ((key operand : List ℕ) → mutation_fault (mutation_of kind key operand) ≡ keyed_fault key operand)
    → (bytes : List ℕ) (x : Mutation × List ℕ) → IsBytes bytes → keyed_at kind bytes ≡ Ok x → TakesFields kind bytes x
unfolding keyed_at
keyed_takes kind spells faults bytes x fits e =
    let a = bind_ok (key_at bytes) (λ key. operand_at key.1 >>= λ operand. Ok (mutation_of kind key.0 operand.0, operand.1)) x e in
    let b = bind_ok (operand_at a.0.1) (λ operand. Ok (mutation_of kind a.0.0 operand.0, operand.1)) x a.2 in
    let s = key_takes bytes a.0 fits a.1 in
    let t = operand_takes a.0.1 b.0 s.0.rest_fits b.1 in
    let made : Mutation × List ℕ = (mutation_of kind a.0.0 b.0.0, b.0.1) in
    subst (λ (p : Mutation × List ℕ). TakesFields kind bytes p) (ok_is made x b.2) (record {
      text = spelled_key a.0.0 ++ spelled_operand b.0.0;
      spells = spells a.0.0 b.0.0;
      takes = Takes-then bytes (spelled_key a.0.0) a.0.1 (spelled_operand b.0.0) b.0.1 s.0 t.0;
      within = faults a.0.0 b.0.0 ∙ keyed_within a.0.0 b.0.0 s.1 t.1;
      tells = kind_tells kind a.0.0 b.0.0;
    })

fields_take : (kind : Kind) (bytes : List ℕ) (x : Mutation × List ℕ) → IsBytes bytes → fields_at kind bytes ≡ Ok x → TakesFields kind bytes x
fields_take kinds.Set = keyed_takes kinds.Set (λ k o. refl) (λ k o. refl)
fields_take kinds.Clear = clear_takes
fields_take (kinds.Atomic op) = keyed_takes (kinds.Atomic op) (λ k o. refl) (λ k o. refl)

clear_again : (begin end rest : List ℕ) → clear_fault begin end ≡ None → clear_at ((spelled_key begin ++ spelled_key end) ++ rest) ≡ Ok (Clear begin end, rest)
unfolding clear_at
clear_again begin end rest e =
    let l = clear_limits begin end e in
    ap clear_at (append_assoc (spelled_key begin) (spelled_key end) rest)
    ∙ rw (key_again begin (spelled_key end ++ rest) l.0, key_again end rest l.1, l.2) refl

keyed_again : (kind : Kind) (key operand rest : List ℕ) → keyed_fault key operand ≡ None → keyed_at kind ((spelled_key key ++ spelled_operand operand) ++ rest) ≡ Ok (mutation_of kind key operand, rest)
unfolding keyed_at
keyed_again kind key operand rest e =
    let l = keyed_limits key operand e in
    ap (keyed_at kind) (append_assoc (spelled_key key) (spelled_operand operand) rest)
    ∙ rw (key_again key (spelled_operand operand ++ rest) l.0, operand_again operand rest l.1) refl

-- ---- mutations

pub mutation_takes : (format : Format) (bytes : List ℕ) (x : Mutation × List ℕ) → IsBytes bytes → mutation_at format bytes ≡ Ok x
    → Takes bytes (spelled_mutation x.0) x.1 × (mutation_fault x.0 ≡ None) × (has_mutation format x.0 ≡ true)
unfolding mutation_at
mutation_takes format bytes x fits e =
    let a = bind_ok (kind_at format bytes) (λ kind. fields_at kind.0 kind.1) x e in
    let s = kind_takes format bytes a.0 fits a.1 in
    let t = fields_take a.0.0 a.0.1 x s.0.rest_fits a.2 in
    let both : Takes bytes (kind_byte a.0.0 ∷ t.text) x.1 = Takes-then bytes (kind_byte a.0.0 ∷ []) a.0.1 t.text x.1 s.0 t.takes in
    (subst (λ (p : List ℕ). Takes bytes p x.1) (sym t.spells) both, t.within, sym (kind_has format a.0.0 x.0 t.tells) ∙ s.1)

-- each operation is found by its byte
op_is_known : (op : AtomicOp) → kind_of (op_byte op) ≡ Some (kinds.Atomic op)
op_is_known ops.Add = refl
op_is_known ops.And = refl
op_is_known ops.Or = refl
op_is_known ops.Xor = refl
op_is_known ops.Max = refl
op_is_known ops.Min = refl
op_is_known ops.CompareAndClear = refl

kind_again : (format : Format) (kind : Kind) (rest : List ℕ) → kind_of (kind_byte kind) ≡ Some kind → has_kind format kind ≡ true → kind_at format (kind_byte kind ∷ rest) ≡ Ok (kind, rest)
unfolding kind_at
kind_again format kind rest e h = rw (e, h) refl

again : (format : Format) (kind : Kind) (m : Mutation) (text rest : List ℕ) → kind_of (kind_byte kind) ≡ Some kind → is_compare_and_clear m ≡ is_compare_and_clear_kind kind → has_mutation format m ≡ true
    → fields_at kind (text ++ rest) ≡ Ok (m, rest) → mutation_at format (kind_byte kind ∷ (text ++ rest)) ≡ Ok (m, rest)
unfolding mutation_at
again format kind m text rest known tells h fields =
    ap (λ (r : Result (Kind × List ℕ) DecodeFault). r >>= λ k. fields_at k.0 k.1) (kind_again format kind (text ++ rest) known (kind_has format kind m tells ∙ h)) ∙ fields

pub mutation_again : (format : Format) (m : Mutation) (rest : List ℕ) → mutation_fault m ≡ None → has_mutation format m ≡ true → mutation_at format (spelled_mutation m ++ rest) ≡ Ok (m, rest)
mutation_again format (Set key value) rest e h = again format kinds.Set (Set key value) (spelled_key key ++ spelled_operand value) rest refl refl h (keyed_again kinds.Set key value rest e)
mutation_again format (Clear begin end) rest e h = again format kinds.Clear (Clear begin end) (spelled_key begin ++ spelled_key end) rest refl refl h (clear_again begin end rest e)
mutation_again format (Atomic op key param) rest e h =
    again format (kinds.Atomic op) (Atomic op key param) (spelled_key key ++ spelled_operand param) rest (op_is_known op) refl h (keyed_again (kinds.Atomic op) key param rest e)

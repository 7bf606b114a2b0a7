-- Values of the types that the columns of a store have.
use Rattle.std.proofs.Common.{◌≡◌, ℕ, ℤ, pos, negsuc, Bool, true, false, not, List, Some, IsTrue, refl, sym, ap, ◌∙◌, arith, ltb-false}
use Rattle.std.specs.Prelude.{nat_lt}
use Rattle.std.specs.Ordering.{is_eq, int_cmp}
use Rattle.std.proofs.lemmas.Cmp.{tied_itself}
use Rattle.sqlite.specs.declared.types.Value.{Value}
use Rattle.sqlite.specs.declared.types.Value.TheVariants.{Null, Int, Real, Text, Blob}
use Rattle.sqlite.specs.Kind.TheVariants as kind
use Rattle.sqlite_trees.specs.View.{is_int}
use Rattle.sqlite_sql.specs.Ops.{is_null, is_false, from_truth, binary}
use Rattle.sqlite_schema.specs.Rules.{is_of, equal, differ}
use Rattle.sqlite.specs.Collation.TheVariants.{Binary}
use Rattle.sqlite_value.specs.Order.{value_cmp}
use Rattle.sqlite_value.proofs.OrderLemmas.{value_cmp_total, value_cmp-Int}
use Rattle.std.specs.declared.cmp.Ordering.TheVariants.{Less}

pub int_of : (v : Value) → IsTrue (is_int v) → (n : ℤ) × (v ≡ Int n)
int_of Null h = absurd cc
int_of (Int n) h = (n, refl)
int_of (Real x) h = absurd cc
int_of (Text t) h = absurd cc
int_of (Blob b) h = absurd cc

pub blob_of : (v : Value) → is_of kind.Blob v ≡ true → not (is_null v) ≡ true → (b : List ℕ) × (v ≡ Blob b)
blob_of Null h some = absurd cc
blob_of (Int n) h some = absurd cc
blob_of (Real x) h some = absurd cc
blob_of (Text t) h some = absurd cc
blob_of (Blob b) h some = (b, refl)

pub null_of : (v : Value) → is_null v ≡ true → v ≡ Null
null_of Null h = refl
null_of (Int n) h = absurd cc
null_of (Real x) h = absurd cc
null_of (Text t) h = absurd cc
null_of (Blob b) h = absurd cc

-- SQL says that a value equals itself, and that rowids in order differ
pub equals_int : (n : ℤ) → equal Binary (Int n) (Int n) ≡ true
unfolding binary
equals_int n = rw (tied_itself value_cmp_total (Int n)) refl

pub equals_blob : (b : List ℕ) → equal Binary (Blob b) (Blob b) ≡ true
unfolding binary
equals_blob b = rw (tied_itself value_cmp_total (Blob b)) refl

pub differs : (i j : ℤ) → value_cmp (Int i) (Int j) ≡ Less → differ (Int i) (Int j) ≡ true
unfolding binary
differs i j less = rw less refl

-- ---- a rowid that is 1

not_false : (b : Bool) → not (is_false (from_truth (Some b))) ≡ true → b ≡ true
not_false true h = refl
not_false false h = absurd cc

one_is : (n : ℤ) → is_eq (int_cmp n (pos 1)) ≡ true → n ≡ pos 1
one_is (negsuc k) h = absurd cc
one_is (pos m) h = go (nat_lt m 1) refl (nat_lt 1 m) refl
  where
    go : (s : Bool) → nat_lt m 1 ≡ s → (t : Bool) → nat_lt 1 m ≡ t → pos m ≡ pos 1
    go true e t f = absurd (let clash = rw e at h in cc)
    go false e true f = absurd (let clash = rw (e, f) at h in cc)
    go false e false f = let same : m ≡ 1 = omega (arith, ltb-false m 1 e, ltb-false 1 m f) in ap pos same

pub checked_one : (n : ℤ) → not (is_false (from_truth (Some (is_eq (value_cmp (Int n) (Int (pos 1))))))) ≡ true → n ≡ pos 1
checked_one n h = one_is n (ap is_eq (value_cmp_back n) ∙ not_false _ h)
  where
    value_cmp_back : (n : ℤ) → int_cmp n (pos 1) ≡ value_cmp (Int n) (Int (pos 1))
    value_cmp_back n = sym (value_cmp-Int n (pos 1))

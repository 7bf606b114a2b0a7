-- When two last states are the same.
use Rattle.std.specs.Prelude.{◌≡◌, ℕ, Bool, true, false, ◌==◌, ◌&&◌, refl, not, if◌then◌else◌}
use Rattle.std.proofs.Common.{ap}
use Rattle.std.proofs.lemmas.Bool.{and_parts, eq-eqb, eqb-true}
use Rattle.fr_base.specs.Bytes.{bytes_eq}
use Rattle.fr_base.specs.Same.{IsSameness, bytes_eq-IsSameness}
use Rattle.fr_log.specs.Fields.{three, four, five}
use Rattle.std.specs.Cmp.Lexicographic.{pointwise}
use Rattle.fr_log.specs.Left.{is_same_popped, are_same_popped-IsSameness}
use Rattle.fr_ask.specs.Rows.{is_same_rows, is_same_rows-IsSameness}
use Rattle.fr_ask.specs.declared.last.Last.{Last}
use Rattle.fr_ask.specs.declared.last.Last.TheVariants as last

abbrev is_same_bool : Bool → Bool → Bool
is_same_bool a b = if a then b else not b

-- whether two nodes of one kind stood at the same
abbrev pub is_same_last : Last → Last → Bool
is_same_last (last.Cell p w v) (last.Cell q x u) = (p == q) && ((w == x) && bytes_eq v u)
is_same_last (last.Log s d k t p) (last.Log r e l u q) = is_same_bool s r && ((d == e) && ((k == l) && (is_same_bool t u && pointwise is_same_popped p q)))
is_same_last (last.Sequencer v) (last.Sequencer w) = v == w
is_same_last (last.Proxy v) (last.Proxy w) = v == w
is_same_last (last.Recoverer p) (last.Recoverer q) = bytes_eq p q
is_same_last (last.Storage e v f r) (last.Storage d w g s) = (e == d) && ((v == w) && ((f == g) && is_same_rows r s))
is_same_last a b = false

is_same_bool-itself : (a : Bool) → is_same_bool a a ≡ true
is_same_bool-itself true = refl
is_same_bool-itself false = refl

is_same_bool-same : (a b : Bool) → is_same_bool a b ≡ true → a ≡ b
is_same_bool-same true true e = refl
is_same_bool-same false false e = refl
is_same_bool-same true false e = absurd (cc)
is_same_bool-same false true e = absurd (cc)

pub is_same_last-IsSameness : IsSameness is_same_last
is_same_last-IsSameness = record { itself = itself; same = same }
  where
    equal : (n : ℕ) → (n == n) ≡ true
    equal n = eq-eqb n n refl

    itself : (a : Last) → is_same_last a a ≡ true
    itself (last.Cell p w v) = rw (equal p, equal w) (bytes_eq-IsSameness.itself v)
    itself (last.Log s d k t p) = rw (is_same_bool-itself s, equal d, equal k, is_same_bool-itself t) (are_same_popped-IsSameness.itself p)
    itself (last.Sequencer v) = equal v
    itself (last.Proxy v) = equal v
    itself (last.Recoverer p) = bytes_eq-IsSameness.itself p
    itself (last.Storage e v f r) = rw (equal e, equal v, equal f) (is_same_rows-IsSameness.itself r)

    same : (a b : Last) → is_same_last a b ≡ true → a ≡ b
    same (last.Cell p w v) (last.Cell q x u) e =
        let h = and_parts (p == q) ((w == x) && bytes_eq v u) e in
        let i = and_parts (w == x) (bytes_eq v u) h.1 in
        three (λ a b c. last.Cell a b c) (eqb-true p q h.0) (eqb-true w x i.0) (bytes_eq-IsSameness.same v u i.1)
    same (last.Log s d k t p) (last.Log r f l u q) e =
        let h = and_parts (is_same_bool s r) ((d == f) && ((k == l) && (is_same_bool t u && pointwise is_same_popped p q))) e in
        let i = and_parts (d == f) ((k == l) && (is_same_bool t u && pointwise is_same_popped p q)) h.1 in
        let j = and_parts (k == l) (is_same_bool t u && pointwise is_same_popped p q) i.1 in
        let o = and_parts (is_same_bool t u) (pointwise is_same_popped p q) j.1 in
        five (λ a b c z y. last.Log a b c z y) (is_same_bool-same s r h.0) (eqb-true d f i.0) (eqb-true k l j.0) (is_same_bool-same t u o.0) (are_same_popped-IsSameness.same p q o.1)
    same (last.Sequencer v) (last.Sequencer w) e = ap last.Sequencer (eqb-true v w e)
    same (last.Proxy v) (last.Proxy w) e = ap last.Proxy (eqb-true v w e)
    same (last.Recoverer p) (last.Recoverer q) e = ap last.Recoverer (bytes_eq-IsSameness.same p q e)
    same (last.Storage d v f r) (last.Storage c w g s) e =
        let h = and_parts (d == c) ((v == w) && ((f == g) && is_same_rows r s)) e in
        let i = and_parts (v == w) ((f == g) && is_same_rows r s) h.1 in
        let j = and_parts (f == g) (is_same_rows r s) i.1 in
        four (λ a b k z. last.Storage a b k z) (eqb-true d c h.0) (eqb-true v w i.0) (eqb-true f g j.0) (is_same_rows-IsSameness.same r s j.1)
    same a b e = absurd (cc)

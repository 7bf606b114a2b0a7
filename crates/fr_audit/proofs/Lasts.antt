-- Journals that were closed with their nodes' last states, and the first node whose journal was not.
use Rattle.std.proofs.Common.{◌≡◌, Bool, true, false, List, [], ◌∷◌, Option, None, Some, inl, inr, refl, sym, ap, ◌∙◌, subst}
use Rattle.std.specs.Prelude.{if◌then◌else◌}
use Rattle.std.specs.Cmp.{IsStrictWeakOrder}
use Rattle.std.specs.Ordering.{is_lt}
use Rattle.std.proofs.lemmas.List.Sorted.{ranks_by}
use Rattle.fr_base.specs.Bytes.{bytes_total}
use Rattle.fr_base.specs.Node.{node_cmp, node_numbers}
use Rattle.fr_base.specs.declared.place.NodeId.{NodeId}
use Rattle.fr_ask.specs.Last.{is_same_last-IsSameness}
use Rattle.fr_ask.specs.declared.last.Last.{Last}
use Rattle.fr_run.specs.Config.{Config}
use Rattle.fr_run.specs.Turn.{Turn}
use Rattle.fr_run.specs.At.{last_at}
use Rattle.fr_audit_journal.specs.Journal.{JournalState}
use Rattle.fr_audit.specs.Audited.{first_unlike, is_closed, is_this_last, lesser}
use Rattle.fr_audit.specs.Law.{IsUnlikeIn, NoneBefore}
use Rattle.fr_audit.specs.Run.{AreClosed, IsClosed}

ranks : IsStrictWeakOrder (λ a b. is_lt (node_cmp a b))
ranks = ranks_by bytes_total node_numbers

-- ---- one journal

closed_at : (c : Config) (h : List Turn) (j : JournalState) (a b : Option Last) → last_at c h j.node ≡ a → j.last ≡ b → is_this_last a b ≡ true → IsClosed c h j
closed_at c h j None b i k e = absurd (cc)
closed_at c h j (Some a) None i k e = absurd (cc)
closed_at c h j (Some a) (Some b) i k e = record { last = a; of_node = i; closed = k ∙ ap Some (sym (is_same_last-IsSameness.same a b e)) }

was_closed : (c : Config) (h : List Turn) (j : JournalState) → is_closed c h j ≡ true → IsClosed c h j
was_closed c h j e = closed_at c h j (last_at c h j.node) j.last refl refl e

close : (c : Config) (h : List Turn) (j : JournalState) → IsClosed c h j → is_closed c h j ≡ true
close c h j k = ap (λ a. is_this_last a j.last) k.of_node ∙ ap (λ b. is_this_last (Some k.last) b) k.closed ∙ is_same_last-IsSameness.itself k.last

-- ---- all journals

pub none_unlike : (c : Config) (h : List Turn) (js : List JournalState) → first_unlike c h js ≡ None → AreClosed c h js
none_unlike c h [] e = tt
none_unlike c h (j ∷ js) e = go (none_unlike c h js) (is_closed c h j) refl e
  where
    go : (first_unlike c h js ≡ None → AreClosed c h js) → (b : Bool) → is_closed c h j ≡ b → (if b then first_unlike c h js else Some (lesser j.node (first_unlike c h js))) ≡ None → AreClosed c h (j ∷ js)
    go rest true is k = (was_closed c h j is, rest k)
    go rest false is k = absurd (cc)

pub all_closed : (c : Config) (h : List Turn) (js : List JournalState) → AreClosed c h js → first_unlike c h js ≡ None
all_closed c h [] k = refl
all_closed c h (j ∷ js) k = ap (λ b. if b then first_unlike c h js else Some (lesser j.node (first_unlike c h js))) (close c h j k.0) ∙ all_closed c h js k.1

-- ---- the first node

-- it is one of them, and none is before it
pub record IsFirstIn (c : Config) (h : List Turn) (who : NodeId) (js : List JournalState) : Type 0 where
  pub unlike : IsUnlikeIn c h who js
  pub first : NoneBefore c h who js

none_before_any : (c : Config) (h : List Turn) (who : NodeId) (js : List JournalState) → AreClosed c h js → NoneBefore c h who js
none_before_any c h who [] k = tt
none_before_any c h who (j ∷ js) k = ((λ e. let l = close c h j k.0 in absurd (cc)), none_before_any c h who js k.1)

none_before_less : (c : Config) (h : List Turn) (who other : NodeId) (js : List JournalState) → is_lt (node_cmp other who) ≡ false → NoneBefore c h other js → NoneBefore c h who js
none_before_less c h who other [] e k = tt
none_before_less c h who other (j ∷ js) e k = ((λ l. ranks.chain j.node other who (k.0 l) e), none_before_less c h who other js e k.1)

not_itself : (who : NodeId) → is_lt (node_cmp who who) ≡ false
not_itself who = go (is_lt (node_cmp who who)) refl
  where
    go : (b : Bool) → is_lt (node_cmp who who) ≡ b → is_lt (node_cmp who who) ≡ false
    go true e = ranks.one_way who who e
    go false e = e

-- of one more journal that was not closed so
with_one : (c : Config) (h : List Turn) (j : JournalState) (js : List JournalState) (o : Option NodeId) → is_closed c h j ≡ false → (o ≡ None → AreClosed c h js) →
    ((w : NodeId) → o ≡ Some w → IsFirstIn c h w js) → IsFirstIn c h (lesser j.node o) (j ∷ js)
with_one c h j js None is none some = record {
  unlike = inl (refl, is);
  first = ((λ e. not_itself j.node), none_before_any c h j.node js (none refl));
}
with_one c h j js (Some w) is none some = go (is_lt (node_cmp w j.node)) refl
  where
    go : (b : Bool) → is_lt (node_cmp w j.node) ≡ b → IsFirstIn c h (if b then w else j.node) (j ∷ js)
    go true e = let k = some w refl in record { unlike = inr k.unlike; first = ((λ l. ranks.one_way w j.node e), k.first) }
    go false e = record { unlike = inl (refl, is); first = ((λ l. not_itself j.node), none_before_less c h j.node w js e (some w refl).first) }

pub is_first : (c : Config) (h : List Turn) (js : List JournalState) (who : NodeId) → first_unlike c h js ≡ Some who → IsFirstIn c h who js
is_first c h [] who e = absurd (cc)
is_first c h (j ∷ js) who e = go (λ w k. is_first c h js w k) (is_closed c h j) refl e
  where
    go : ((w : NodeId) → first_unlike c h js ≡ Some w → IsFirstIn c h w js) → (b : Bool) → is_closed c h j ≡ b →
        (if b then first_unlike c h js else Some (lesser j.node (first_unlike c h js))) ≡ Some who → IsFirstIn c h who (j ∷ js)
    go rest true is k =
        let all = rest who k in
        let l : is_closed c h j ≡ false → is_lt (node_cmp j.node who) ≡ false = λ m. absurd (cc) in
        record { unlike = inr all.unlike; first = (l, all.first) }
    go rest false is k =
        let same : lesser j.node (first_unlike c h js) ≡ who = cc in
        subst (λ w. IsFirstIn c h w (j ∷ js)) same (with_one c h j js (first_unlike c h js) is (none_unlike c h js) rest)

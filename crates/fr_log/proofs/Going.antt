-- Nothing is lost of a log, so it can go back.
use Rattle.std.proofs.Common.{◌≡◌, ℕ, Bool, List, [], ◌∷◌, ◌++◌, length, take, Option, None, Some, cond, refl, sym, ◌∙◌, ap, subst, append_assoc}
use Rattle.std.specs.Prelude.{is_some, IsSome}
use Rattle.std.proofs.lemmas.List.{append-nil, take_at}
use Rattle.fr_log.specs.Seed.{SeedContent}
use Rattle.fr_log.specs.declared.popped.PoppedTag.{PoppedTag}
use Rattle.fr_log.specs.Push.{PushContent}
use Rattle.fr_log.specs.LogState.{LogState}
use Rattle.fr_log.specs.Step.{next_of}
use Rattle.fr_log.specs.Checkpoint.{Extends}
use Rattle.fr_log.specs.Law.{after_all, AskExtends, AsksExtend, BackIsBefore}
use Rattle.fr_log.proofs.Pushing.{some_is_not_none}
use Rattle.fr_log.proofs.Changes.{by_change}

extends_itself : (l : LogState) → Extends l l
extends_itself l = record { epoch = refl; index = refl; m = refl; k = refl; seed = λ some. refl; pushes = ([], sym (append-nil l.pushes)); stopped = λ is. is }

pub ask_extends : AskExtends
ask_extends l a =
    by_change (Extends l) l a (extends_itself l)
    (λ s at first. record { epoch = refl; index = refl; m = refl; k = refl; seed = λ some. absurd (some_is_not_none l.seed first.unseeded some); pushes = ([], sym (append-nil l.pushes)); stopped = λ is. is })
    (λ p at next. record { epoch = refl; index = refl; m = refl; k = refl; seed = λ some. refl; pushes = (p ∷ [], refl); stopped = λ is. is })
    (λ at some. record { epoch = refl; index = refl; m = refl; k = refl; seed = λ s. refl; pushes = ([], sym (append-nil l.pushes)); stopped = λ is. refl })
    (λ tag through at is. record { epoch = refl; index = refl; m = refl; k = refl; seed = λ s. refl; pushes = ([], sym (append-nil l.pushes)); stopped = λ s. s })

extends_on : (l n o : LogState) → Extends l n → Extends n o → Extends l o
extends_on l n o g h = record {
  epoch = h.epoch ∙ g.epoch;
  index = h.index ∙ g.index;
  m = h.m ∙ g.m;
  k = h.k ∙ g.k;
  seed = λ some. h.seed (subst (λ x. IsSome x) (sym (g.seed some)) some) ∙ g.seed some;
  pushes = (g.pushes.0 ++ h.pushes.0, h.pushes.1 ∙ ap (λ ps. ps ++ h.pushes.0) g.pushes.1 ∙ append_assoc l.pushes g.pushes.0 h.pushes.0);
  stopped = λ is. h.stopped (g.stopped is);
}

pub asks_extend : AsksExtend
asks_extend l [] = extends_itself l
asks_extend l (a ∷ asks) = extends_on l (next_of l a) (after_all (next_of l a) asks) (ask_extends l a) (asks_extend (next_of l a) asks)

same_parts : (n : LogState) {epoch index m k : ℕ} {seed : Option SeedContent} {pushes : List PushContent} {stopped : Bool} {popped : List PoppedTag} (seed' : Option SeedContent) (pushes' : List PushContent)
    → n.epoch ≡ epoch → n.index ≡ index → n.m ≡ m → n.k ≡ k → seed' ≡ seed → pushes' ≡ pushes
    → record n { seed = seed'; pushes = pushes'; stopped = stopped; popped = popped } ≡ record { epoch = epoch; index = index; m = m; k = k; seed = seed; pushes = pushes; stopped = stopped; popped = popped }
same_parts n seed' pushes' e i a b s p = cc

pub back_is_before : BackIsBefore
back_is_before l n h =
    same_parts n (cond (is_some l.seed) n.seed None) (take (length l.pushes) n.pushes) h.epoch h.index h.m h.k (seed l.seed refl) (ap (take (length l.pushes)) h.pushes.1 ∙ take_at l.pushes h.pushes.0 (length l.pushes) refl)
  where
    seed : (o : Option SeedContent) → l.seed ≡ o → cond (is_some l.seed) n.seed None ≡ l.seed
    seed None is = rw is refl
    seed (Some s) is = let some : IsSome l.seed = ap is_some is in rw some (h.seed some)

-- One entry of those that are left.
use Rattle.std.proofs.Common.{◌≡◌, ℕ, zero, suc, ◌+◌, ◌-◌, ◌<◌, ◌≤◌, Bool, List, ◌∷◌, length, drop, get_or, Some, Ok, Err, sym, ap, ◌∙◌, arith}
use Rattle.std.specs.Prelude.{map, if◌then◌else◌}
use Rattle.std.specs.Option.{option_map}
use Rattle.std.specs.List.{slice_get}
use Rattle.std.proofs.lemmas.List.{drop_more}
use Rattle.std.proofs.lemmas.Option.{slice_get-get_or, slice_get-map}
use Rattle.fr_run.specs.Config.{Config}
use Rattle.fr_run.specs.Turn.{Turn}
use Rattle.fr_audit_journal.specs.Journal.{JournalState}
use Rattle.fr_audit_journal.specs.Merge.{Placed}
use Rattle.fr_audit.specs.Audited.{after_entries, first_unlike, is_closed, is_repeated, lesser, then_on}
use Rattle.fr_audit.specs.declared.finding.Finding.{Finding}
use Rattle.fr_audit.specs.Checking.{after_this, before_at}

-- the entry before one that is not the first
pub before_is : {X : Type 0} (f : X → Placed) (es : List X) (n : ℕ) (e : X) → 1 ≤ n → n < length es → e ≡ get_or es (n - 1) e → before_at (map f es) n ≡ Some (f e)
before_is f es zero e some within is = absurd (omega (arith, some))
before_is f es (suc k) e some within is =
    let one : suc k - 1 ≡ k = omega arith in
    slice_get-map f es k ∙ ap (option_map f) (slice_get-get_or es k e (omega (arith, within))) ∙ ap (λ x. Some (f x)) (sym (is ∙ ap (λ m. get_or es m e) one))

module _ {X : Type 0} (f : X → Placed) (c : Config) (h : List Turn) (es : List X) (n : ℕ) (e : X) (b : Bool)
    (within : n < length es) (is : e ≡ get_or es n e) (repeated : b ≡ is_repeated (before_at (map f es) n) (f e)) where
  left : drop n es ≡ e ∷ drop (n + 1) es
  left = drop_more es n e within ∙ ap (λ x. x ∷ drop (n + 1) es) (sym is)

  here : slice_get (map f es) n ≡ Some (f e)
  here = slice_get-map f es n ∙ ap (option_map f) (slice_get-get_or es n e within) ∙ ap (λ x. Some (f x)) (sym is)

  before_next : before_at (map f es) (n + 1) ≡ Some (f e)
  before_next = let k : n + 1 ≡ suc n = omega arith in ap (before_at (map f es)) k ∙ here

  opened : after_entries c h (before_at (map f es) n) n (map f (drop n es))
      ≡ then_on (after_this c h b n (f e)) (λ later. after_entries c later (before_at (map f es) (n + 1)) (n + 1) (map f (drop (n + 1) es)))
  opened =
      ap (λ l. after_entries c h (before_at (map f es) n) n (map f l)) left
      ∙ ap (λ (r : Bool). then_on (after_this c h r n (f e)) (λ later. after_entries c later (Some (f e)) (n + 1) (map f (drop (n + 1) es)))) (sym repeated)
      ∙ ap (λ o. then_on (after_this c h b n (f e)) (λ later. after_entries c later o (n + 1) (map f (drop (n + 1) es)))) (sym before_next)

  -- an entry without fault leaves the later ones
  pub one_entered : (later : List Turn) → after_this c h b n (f e) ≡ Ok later → after_entries c h (before_at (map f es) n) n (map f (drop n es))
      ≡ after_entries c later (before_at (map f es) (n + 1)) (n + 1) (map f (drop (n + 1) es))
  one_entered later k = opened ∙ ap (λ r. then_on r (λ g. after_entries c g (before_at (map f es) (n + 1)) (n + 1) (map f (drop (n + 1) es)))) k

  -- what is found at an entry is what is found of all
  pub one_refused : (finding : Finding) → after_this c h b n (f e) ≡ Err finding → after_entries c h (before_at (map f es) n) n (map f (drop n es)) ≡ Err finding
  one_refused finding k = opened ∙ ap (λ r. then_on r (λ g. after_entries c g (before_at (map f es) (n + 1)) (n + 1) (map f (drop (n + 1) es)))) k

-- one journal more, from the last on
pub one_journal : (c : Config) (h : List Turn) (js : List JournalState) (k m : ℕ) (j : JournalState) → k < length js → m ≡ k + 1 → j ≡ get_or js k j →
    first_unlike c h (drop k js) ≡ (if is_closed c h j then first_unlike c h (drop m js) else Some (lesser j.node (first_unlike c h (drop m js))))
one_journal c h js k m j within next is =
    ap (first_unlike c h) (drop_more js k j within)
    ∙ ap (λ x. first_unlike c h (x ∷ drop (k + 1) js)) (sym is)
    ∙ ap (λ n. first_unlike c h (j ∷ drop n js)) (sym next)

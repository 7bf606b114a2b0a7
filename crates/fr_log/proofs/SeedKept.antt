-- A log that takes one record more into its seed.
use Rattle.std.proofs.Common.{◌≡◌, ℕ, ◌-◌, Bool, true, false, ◌&&◌, nat_le, List, [], ◌∷◌, ◌++◌, Some, cond, refl, sym, ◌∙◌, ap, subst, max, Result, Ok, Err}
use Rattle.std.specs.Prelude.{fold, IfSome, OnErr, IfOk}
use Rattle.std.specs.List.{list_all}
use Rattle.std.proofs.lemmas.Bool.{and_parts}
use Rattle.fr_base.specs.declared.memory.Memory.{Memory}
use Rattle.fr_log.specs.declared.records.SeedRecord.{SeedRecord}
use Rattle.fr_log.specs.Seed.{SeedContent, IsSeed}
use Rattle.fr_log.specs.Seeding.{takes_record, with_record}
use Rattle.fr_log.specs.LogState.{LogState, holds, headers_of, seeded_to_of, first_of}
use Rattle.fr_log.specs.Chain.{IsKept, IsChain, IsOwnSeed}

all_more : (f : SeedRecord → Bool) (rs : List SeedRecord) (r : SeedRecord) → list_all f rs ≡ true → f r ≡ true → list_all f (rs ++ r ∷ []) ≡ true
all_more f [] r all more = rw more refl
all_more f (x ∷ rs) r all more =
    let parts = and_parts (f x) (list_all f rs) all in
    rw parts.0 (all_more f rs r parts.1 more)

module _ (l : LogState) (durable known : ℕ) (s : SeedContent) (kept : IsKept l durable known) (seed_is : l.seed ≡ Some s) where
  own : IsOwnSeed l.epoch (holds l) s
  own = subst (λ o. IfSome o (IsOwnSeed l.epoch (holds l))) seed_is kept.log.own_seed

  -- a seed between the same versions, within its limits and of the log's tags, stands in its place
  pub in_its_place : (n : SeedContent) → IsSeed n → n.epoch ≡ s.epoch → n.first ≡ s.first → n.seeded_to ≡ s.seeded_to → list_all (λ r. holds l r.tag) n.records ≡ true → IsKept (record l { seed = Some n }) durable known
  in_its_place n is epoch first seeded_to tags = record {
    log = record {
      k_low = kept.log.k_low;
      k_high = kept.log.k_high;
      m_high = kept.log.m_high;
      index_high = kept.log.index_high;
      unseeded = λ none. absurd (cc none);
      unlocked = λ none. absurd (cc none);
      own_seed = record { within = is; epoch = epoch ∙ own.epoch; tags = tags };
      own_pushes = kept.log.own_pushes;
      chain = subst (λ v. IsChain v (headers_of l)) (ap seeded_to_of seed_is ∙ sym seeded_to) kept.log.chain;
      marked = kept.log.marked;
      unpopped = λ none. absurd (cc none);
      popped_rise = kept.log.popped_rise;
      popped_held = kept.log.popped_held;
      popped_known = ap (λ v. list_all (λ p. nat_le p.version (fold (λ w q. max w q.known) (v - 1) l.pushes)) l.popped) (first ∙ sym (ap first_of seed_is)) ∙ kept.log.popped_known;
    };
    durable_is = kept.durable_is ∙ ap (λ v. fold (λ w p. max w p.version) v l.pushes) (ap seeded_to_of seed_is ∙ sym seeded_to);
    known_is = kept.known_is ∙ ap (λ v. fold (λ w p. max w p.known) (v - 1) l.pushes) (ap first_of seed_is ∙ sym first);
  }

  again : (n : SeedContent) → IsSeed n → n ≡ s → IsKept (record l { seed = Some n }) durable known
  again n is e = in_its_place n is (ap (λ x. x.epoch) e) (ap (λ x. x.first) e) (ap (λ x. x.seeded_to) e) (ap (λ x. list_all (λ y. holds l y.tag) x.records) e ∙ own.tags)

  pub more_is_kept : (r : SeedRecord) (n : SeedContent) → IsSeed n → holds l r.tag ≡ true → n ≡ cond (takes_record s r) (with_record s r) s → IsKept (record l { seed = Some n }) durable known
  more_is_kept r n is held n_is = go (takes_record s r) n_is
    where
      go : (b : Bool) → n ≡ cond b (with_record s r) s → IsKept (record l { seed = Some n }) durable known
      go true e = in_its_place n is (ap (λ x. x.epoch) e) (ap (λ x. x.first) e) (ap (λ x. x.seeded_to) e) (ap (λ x. list_all (λ y. holds l y.tag) x.records) e ∙ all_more (λ y. holds l y.tag) s.records r own.tags held)
      go false e = again n is e

  -- the seed, whether or not the call found memory
  pub taken_is_kept : (r : SeedRecord) (n : SeedContent) (answer : Result Bool Memory) → IsSeed n → holds l r.tag ≡ true → IfOk answer (λ _. n ≡ cond (takes_record s r) (with_record s r) s) → OnErr answer (n ≡ s)
      → IsKept (record l { seed = Some n }) durable known
  taken_is_kept r n (Ok b) is held after err = more_is_kept r n is held after
  taken_is_kept r n (Err fault) is held after err = again n is err

-- the last of three tests that all hold
pub last_holds : (a b c e d : Bool) → d ≡ true → d ≡ (a && (b && (c && e))) → e ≡ true
last_holds a b c e d holds is = (and_parts c e (and_parts b (c && e) (and_parts a (b && (c && e)) (sym is ∙ holds)).1).1).1

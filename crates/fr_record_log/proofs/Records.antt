-- What was written as a record of a log is read as it.
use Rattle.std.proofs.Common.{◌≡◌, ℕ, ◌+◌, ◌<◌, ◌≤◌, Bool, true, nat_lt, nat_le, List, [], ◌∷◌, ◌++◌, length, Option, Some, None, Ok, Err, refl, sym, ap, ◌∙◌, arith, append_assoc, subst, Result, Vec, Global}
use Rattle.std.specs.Prelude.{◌^◌, ◌==◌, ◌&&◌, is_some, IfSome, IfOk}
use Rattle.std.specs.Int.{w64, to_be_bytes}
use Rattle.std.proofs.lemmas.Bool.{lt-ltb, le-leb, eq-eqb, ne_eqb}
use Rattle.fr_base.specs.declared.memory.Memory.{Memory}
use Rattle.fr_mutation.specs.declared.mutation.Mutation.{Mutation}
use Rattle.fr_mutation.specs.CodecSpelling.{spelled}
use Rattle.fr_mutation.specs.Law.{SpellingIsRead}
use Rattle.fr_tags.specs.Bodies.{is_rising_from}
use Rattle.fr_state.specs.Generations.{CoordinatedState, IsCoordinatedState}
use Rattle.fr_state.specs.Spelling.{spelling}
use Rattle.fr_state.specs.Laws.{SpelledIsRead}
use Rattle.fr_log.specs.declared.records.SeedRecord.{SeedRecord}
use Rattle.fr_log.specs.declared.ask.LogAsk.TheVariants.{Seed, Push, Lock}
use Rattle.fr_log.specs.Seed.{SeedContent}
use Rattle.fr_log.specs.Push.{PushContent}
use Rattle.fr_log.specs.LogState.{LogState}
use Rattle.fr_record_log.specs.declared.reading.Numbers.{Numbers}
use Rattle.fr_record_log.specs.declared.change.Change.TheVariants.{Asked, Seeded, LetGo}
use Rattle.fr_record_log.specs.Limits.{IsSoundRecord, IsSoundSeed, IsSoundPush}
use Rattle.fr_record_log.specs.Spelling.{spelled_head, spelled_seeded, spelled_popped, spelled_numbers, spelled_bodies, spelled_as, spelled_push}
use Rattle.fr_record_log.specs.Reading.{◌>>=◌, found, numbers_at, is_push, push_of, is_mark, mark_of, is_own, own_at, is_range, head_of, seeded_of, popped_of, change_at, state_of, is_end}
use Rattle.fr_record_log.proofs.Fields.{number_again, version_again, tag_again, batch_again, bodies_again}

abbrev pub numbers_of : PushContent → Numbers
numbers_of p = record { prev = p.prev; version = p.version; known = p.known }

joined : (a b : Bool) → a ≡ true → b ≡ true → (a && b) ≡ true
joined a b e h = rw (e, h) refl

numbers_again : (p : PushContent) (rest : List ℕ) → IsSoundPush p → numbers_at (spelled_numbers p ++ rest) ≡ Some (numbers_of p, rest)
unfolding numbers_at spelled_numbers
numbers_again p rest sound =
    rw (version_again p.prev (to_be_bytes w64 p.version ++ (to_be_bytes w64 p.known ++ rest)) sound.prev, version_again p.version (to_be_bytes w64 p.known ++ rest) sound.version, version_again p.known rest sound.known) refl

module _ (is_read : SpellingIsRead) where
  push_again : (p : PushContent) → p.mark ≡ None → IsSoundPush p → push_of p.epoch (spelled_numbers p ++ spelled_bodies p.bodies) ≡ Some p
  unfolding push_of
  push_again p mark_is sound =
      let is = sound.push in
      let ok : is_push (numbers_of p) p.bodies ≡ true =
      joined (nat_lt p.prev p.version) _ (lt-ltb _ _ is.rises)
      (joined (nat_le p.version (p.prev + 1000000)) _ (le-leb _ _ is.step) (joined (nat_le p.known p.prev) (is_rising_from 0 p.bodies) (le-leb _ _ is.known) is.rising)) in
      rw (numbers_again p (spelled_bodies p.bodies) sound, bodies_again is_read p.bodies sound.bodies, ok) (ap (λ (m : Option CoordinatedState). Some (record p { mark = m })) (sym mark_is))

  module _ (state_is_read : SpelledIsRead) where
    mark_again : (p : PushContent) (s : CoordinatedState) → p.mark ≡ Some s → IsSoundPush p → mark_of p.epoch (spelled_numbers p ++ spelling s) ≡ Some p
    unfolding mark_of
    mark_again p s mark_is sound =
        let is = sound.push in
        let there = ap is_some mark_is in
        let ok : is_mark (numbers_of p) ≡ true = joined (p.version == p.prev + 1) (nat_le p.known p.prev) (eq-eqb _ _ (is.mark_step there)) (le-leb _ _ is.known) in
        let state : state_of (spelling s) ≡ Some s = ap found (state_is_read s (subst_mark p.mark s mark_is sound.mark)) in
        rw (numbers_again p (spelling s) sound, state, ok) (same p s mark_is (is.mark_bodies there))
      where
        subst_mark : (o : Option CoordinatedState) (s : CoordinatedState) → o ≡ Some s → IfSome o IsCoordinatedState → IsCoordinatedState s
        subst_mark o s e h = subst (λ x. IfSome x IsCoordinatedState) e h

        same : (p : PushContent) (s : CoordinatedState) → p.mark ≡ Some s → p.bodies ≡ [] → Some (record p { bodies = []; mark = Some s }) ≡ Some p
        same p s e h = ap (λ bs. Some (record p { bodies = bs; mark = Some s })) (sym h) ∙ ap (λ (m : Option CoordinatedState). Some (record p { mark = m })) (sym e)

    pub push_is_read : (l : LogState) (p : PushContent) → p.epoch ≡ l.epoch → IsSoundPush p → change_at l (spelled_push p) ≡ Some (Asked (Push p))
    unfolding change_at
    push_is_read l p own sound = go p.mark refl
      where
        go : (o : Option CoordinatedState) → p.mark ≡ o → change_at l (spelled_as o p) ≡ Some (Asked (Push p))
        go None e = ap (λ o. o >>= λ x. Some (Asked (Push x))) (ap (λ epoch. push_of epoch (spelled_numbers p ++ spelled_bodies p.bodies)) (sym own) ∙ push_again p e sound)
        go (Some s) e = ap (λ o. o >>= λ x. Some (Asked (Push x))) (ap (λ epoch. mark_of epoch (spelled_numbers p ++ spelling s)) (sym own) ∙ mark_again p s e sound)

  pub record_is_read : (l : LogState) (r : SeedRecord) → IsSoundRecord r → change_at l (spelled_seeded r) ≡ Some (Seeded r)
  unfolding change_at spelled_seeded seeded_of
  record_is_read l r sound =
      rw (version_again r.version (r.tag ∷ spelled r.batch) sound.version, tag_again r.tag (spelled r.batch) sound.tag, batch_again is_read r.batch sound.batch) refl

own_again : (l : LogState) (epoch : ℕ) (rest : List ℕ) → epoch ≡ l.epoch → epoch < 2 ^ 48 → own_at l (to_be_bytes w64 epoch ++ (l.index ∷ l.m ∷ l.k ∷ rest)) ≡ Some rest
unfolding own_at
own_again l epoch rest own low =
    let ok : is_own l epoch l.index l.m l.k ≡ true =
    joined (epoch == l.epoch) _ (eq-eqb _ _ own) (joined (l.index == l.index) _ (eq-eqb _ _ refl) (joined (l.m == l.m) (l.k == l.k) (eq-eqb _ _ refl) (eq-eqb _ _ refl))) in
    rw (number_again epoch (l.index ∷ l.m ∷ l.k ∷ rest) (omega (arith, low)), ok) refl

-- a seed but for its records
abbrev pub without_records : SeedContent → SeedContent
without_records s = record s { records = [] }

pub head_is_read : (l : LogState) (s : SeedContent) → s.epoch ≡ l.epoch → IsSoundSeed s → change_at l (spelled_head l s) ≡ Some (Asked (Seed (without_records s)))
unfolding change_at spelled_head head_of
head_is_read l s own sound =
    let is = sound.seed in
    let ok : is_range s.first s.seeded_to ≡ true = joined (nat_le 1 s.first) (nat_le s.first (s.seeded_to + 1)) (le-leb _ _ is.first_low) (le-leb _ _ is.first_high) in
    rw (own_again l s.epoch (to_be_bytes w64 s.first ++ to_be_bytes w64 s.seeded_to) own sound.epoch, version_again s.first (to_be_bytes w64 s.seeded_to) sound.first, version_again s.seeded_to [] sound.seeded_to, ok)
    (ap (λ epoch. Some (Asked (Seed (record { epoch = epoch; first = s.first; seeded_to = s.seeded_to; records = [] })))) (sym own))

pub lock_is_read : (l : LogState) → change_at l (5 ∷ []) ≡ Some (Asked (Lock l.epoch))
unfolding change_at
lock_is_read l = refl

pub popped_is_read : (l : LogState) (tag version : ℕ) → tag < 32 → version < 2 ^ 62 → change_at l (spelled_popped tag version) ≡ Some (LetGo (record { tag = tag; version = version }))
unfolding change_at spelled_popped popped_of
popped_is_read l tag version mine low = rw (tag_again tag (to_be_bytes w64 version) mine, version_again version [] low) refl

-- ---- for single functions

pub end_is : (xs : List ℕ) → is_end xs ≡ (length xs == 0)
end_is [] = refl
end_is (x ∷ xs) = sym (ne_eqb (length (x ∷ xs)) 0 (λ z. absurd (omega (arith, z))))

pub ok_short : (r : Result (Vec ℕ Global) Memory) (ms : List Mutation) (n : ℕ) → IfOk r (λ b. b.items ≡ spelled ms) → length (spelled ms) ≤ n → IfOk r (λ b. length b.items ≤ n)
ok_short (Ok b) ms n is short = omega (arith, ap length is, short)
ok_short (Err f) ms n is short = is

pub numbers_more : (out o1 o2 o3 : List ℕ) (p : PushContent) (a b d : ℕ) → a ≡ p.prev → b ≡ p.version → d ≡ p.known → o1 ≡ out ++ to_be_bytes w64 a → o2 ≡ o1 ++ to_be_bytes w64 b → o3 ≡ o2 ++ to_be_bytes w64 d → o3 ≡ out ++ spelled_numbers p
unfolding spelled_numbers
numbers_more out o1 o2 o3 p a b d ea eb ed e1 e2 e3 = rw (e3, e2, e1, ea, eb, ed) (regroup out (to_be_bytes w64 p.prev) (to_be_bytes w64 p.version) (to_be_bytes w64 p.known))
  where
    regroup : (o x y z : List ℕ) → ((o ++ x) ++ y) ++ z ≡ o ++ (x ++ (y ++ z))
    regroup o x y z = simp append_assoc

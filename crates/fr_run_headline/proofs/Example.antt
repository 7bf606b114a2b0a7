-- A run in which a storage server ran ahead of what survived, and rolled back.
use Rattle.std.proofs.Common.{◌≡◌, ℕ, Bool, true, false, cond, nat_lt, ◌||◌, List, [], ◌∷◌, length, get_or, Option, None, Some, inl, inr, refl, sym, ◌∙◌, ap, subst, arith}
use Rattle.std.specs.Prelude.{unwrap_or}
use Rattle.std.specs.List.{Contains}
use Rattle.std.proofs.lemmas.Bool.{ltb-true}
use Rattle.fr_base.specs.declared.place.NodeId.{NodeId}
use Rattle.fr_base.specs.declared.place.NodeId.TheVariants as node
use Rattle.fr_base.specs.Node.{is_same_node, is_same_node-IsSameness}
use Rattle.fr_mutation.specs.declared.mutation.Mutation.{Mutation}
use Rattle.fr_mutation.specs.declared.mutation.Mutation.TheVariants.{Set}
use Rattle.fr_register.specs.declared.ask.CellAsk.TheVariants.{Read, Write}
use Rattle.fr_register.specs.declared.ask.CellTell.TheVariants.{Promise, Written}
use Rattle.fr_state.specs.Generations.{CoordinatedState}
use Rattle.fr_state.specs.Spelling.{spelling, row}
use Rattle.fr_state.specs.Reading.{generation_at, is_within}
use Rattle.fr_log.specs.declared.ask.LogAsk.TheVariants.{Seed, Push, Lock, Peek, MarkAsked}
use Rattle.fr_log.specs.declared.ask.LogTell.TheVariants.{Seeded, Held, Locked, Peeked, Marked}
use Rattle.fr_ask.specs.declared.ask.Ask.TheVariants as ask
use Rattle.fr_ask.specs.declared.tell.Tell.TheVariants as tell
use Rattle.fr_ask.specs.declared.sequencer.SeqAsk.TheVariants.{Next}
use Rattle.fr_ask.specs.declared.sequencer.SeqTell.TheVariants.{Numbered}
use Rattle.std.specs.FinMap.{get, insert, get-empty, get-insert}
use Rattle.std.specs.Ordering.{nat_cmp}
use Rattle.std.specs.Cmp.{nat_cmp_total}
use Rattle.fr_proxy.specs.Sequencer.{SeqState, new_sequencer, answer_of, next_unless, is_of, told_before, told_unless, new_refusal, new_number}
use Rattle.fr_proxy.specs.declared.number.Number.{Number}
use Rattle.fr_proxy.specs.declared.outcome.Outcome.TheVariants.{Waiting, Committed}
use Rattle.fr_epoch.specs.Recoverer.{RecState, new_recoverer}
use Rattle.fr_storage.specs.Storage.{is_stranger}
use Rattle.fr_run.specs.Config.{Config, first_state}
use Rattle.fr_run.specs.Turn.{Turn, Begun, CellTurn, LogTurn, SeqTurn, Submitted, ProxyHeard, RecHeard, StorageHeard, Gone, Crashed, asks_of}
use Rattle.fr_run.specs.Nodes.{rec_at}
use Rattle.fr_run.specs.Run.{IsTurn, IsRun}
use Rattle.fr_run.proofs.Cells.{Contains-none, Contains-cases}
use Rattle.fr_run_headline.specs.Example.{RollbackHappens}

-- ---- tests

-- whether a turn says that a node is gone
abbrev says_gone : Turn → NodeId → Bool
says_gone (Begun b shape asks) who = false
says_gone (CellTurn from i a t) who = false
says_gone (LogTurn from e i a t) who = false
says_gone (SeqTurn from e a t) who = false
says_gone (Submitted e p step batch asks) who = false
says_gone (ProxyHeard e p from t outcome asks) who = false
says_gone (RecHeard b from t asks) who = false
says_gone (StorageHeard tag from t taken fault) who = false
says_gone (Gone other) who = is_same_node other who
says_gone (Crashed other) who = false

abbrev has_gone : List Turn → NodeId → Bool
has_gone [] who = false
has_gone (t ∷ h) who = says_gone t who || has_gone h who

-- a node is up of which no turn says that it is gone
pub none_gone : (h : List Turn) (who : NodeId) → has_gone h who ≡ false → Contains h (Gone who) → ⊥
none_gone [] who e k = Contains-none k
none_gone (t ∷ h) who e k = elim (Contains-cases t h (Gone who) k) [
  | inl now ↦ says (subst (λ u. (says_gone u who || has_gone h who) ≡ false) now e)
  | inr before ↦ none_gone h who (rest (says_gone t who) e) before
]
  where
    rest : (b : Bool) → (b || has_gone h who) ≡ false → has_gone h who ≡ false
    rest true k = absurd (cc)
    rest false k = k

    says : (is_same_node who who || has_gone h who) ≡ false → ⊥
    says e = let d : true ≡ false = sym (ap (λ b. b || has_gone h who) (is_same_node-IsSameness.itself who)) ∙ e in absurd (cc)

-- an element by its place
pub at : {X : Type 0} (xs : List X) (x : X) (i : ℕ) → nat_lt i (length xs) ≡ true → get_or xs i x ≡ x → Contains xs x
at xs x i lt is = (i, ltb-true i (length xs) lt, is)

-- the first two numbers of a sequencer
abbrev fresh : SeqState
fresh = new_sequencer 257 1

numbered : (o : Option Number) → o ≡ None → Numbered 1 1 2 ≡ cond (is_of 1 o) (told_before o) (told_unless (new_refusal fresh o 1 1) (new_number fresh 1 1))
numbered None e = refl
numbered (Some n) e = absurd (cc)

abbrev first_number : Number
first_number = record { request = 1; prev = 1; version = 2 }

abbrev went_on : SeqState
went_on = record { epoch = 257; last = 2; given = insert fresh.given 0 first_number }

goes_on : (o : Option Number) → o ≡ None → cond (is_of 1 o) fresh (next_unless (new_refusal fresh o 1 1) fresh 0 (new_number fresh 1 1)) ≡ went_on
goes_on None e = refl
goes_on (Some n) e = absurd (cc)

second : (o : Option Number) → o ≡ Some first_number → Numbered 2 2 3 ≡ cond (is_of 2 o) (told_before o) (told_unless (new_refusal went_on o 2 1) (new_number went_on 2 1))
second None e = absurd (cc)
second (Some n) e = let same : n ≡ first_number = cc in subst (λ m. Numbered 2 2 3 ≡ cond (is_of 2 (Some m)) (told_before (Some m)) (told_unless (new_refusal went_on (Some m) 2 1) (new_number went_on 2 1))) (sym same) refl

numbered_on : Numbered 2 2 3 ≡ answer_of (cond (is_of 1 (get fresh.given 0)) fresh (next_unless (new_refusal fresh (get fresh.given 0) 1 1) fresh 0 (new_number fresh 1 1))) (Next 0 2 1)
numbered_on = subst (λ s. Numbered 2 2 3 ≡ answer_of s (Next 0 2 1)) (sym (goes_on (get fresh.given 0) (get-empty nat_cmp 0))) (second (get went_on.given 0) (get-insert nat_cmp_total fresh.given 0 first_number 0))

-- ---- the run

abbrev pub c : Config
c = record { cells = 1; m = 2; k = 2; begins = [] ∷ []; proxies = 1 }

-- the batch that is acknowledged, and the one that only a lost log has
abbrev pub kept : List Mutation
kept = Set (97 ∷ []) (1 ∷ []) ∷ []

abbrev ahead : List Mutation
ahead = Set (97 ∷ []) (2 ∷ []) ∷ []

abbrev first : CoordinatedState
first = first_state c

abbrev pub later : CoordinatedState
later = record { dropped = 0; gens = record { epoch = 257; m = 2; k = 2; first = 1; seeded_to = 0 } ∷ record { epoch = 513; m = 2; k = 2; first = 1; seeded_to = 2 } ∷ [] }

abbrev pub got : Option RecState → RecState
got o = unwrap_or o (new_recoverer 513 1 ([] ∷ []) None)

abbrev h0 : List Turn
h0 = []

abbrev t1 : Turn
t1 = Submitted 257 0 1 kept ((node.Sequencer 257, ask.Seq (Next 0 1 1)) ∷ [])

abbrev h1 : List Turn
h1 = t1 ∷ h0

turn1 : IsTurn c h0 t1
unfolding row generation_at is_within
turn1 = ((record { there = refl; up = λ k. none_gone h0 (node.Proxy 257 0) refl k }), (refl, omega arith), refl)

abbrev t2 : Turn
t2 = SeqTurn (node.Proxy 257 0) 257 (Next 0 1 1) (Numbered 1 1 2)

abbrev h2 : List Turn
h2 = t2 ∷ h1

turn2 : IsTurn c h1 t2
unfolding row generation_at is_within
turn2 = ((record { there = refl; up = λ k. none_gone h1 (node.Sequencer 257) refl k }), (inl (refl, at (asks_of t1) _ 0 refl refl)), numbered (get (new_sequencer 257 1).given 0) (get-empty nat_cmp 0))

abbrev t3 : Turn
t3 = ProxyHeard 257 0 (node.Sequencer 257) (tell.Seq (Numbered 1 1 2)) Waiting ((node.Log 257 0, ask.Log (Push (record { epoch = 257; prev = 1; version = 2; known = 0; bodies = record { tag = 0; batch = kept } ∷ []; mark = None }))) ∷ (node.Log 257 1, ask.Log (Push (record { epoch = 257; prev = 1; version = 2; known = 0; bodies = record { tag = 0; batch = kept } ∷ []; mark = None }))) ∷ [])

abbrev h3 : List Turn
h3 = t3 ∷ h2

turn3 : IsTurn c h2 t3
unfolding row generation_at is_within
turn3 = ((record { actor = (record { there = refl; up = λ k. none_gone h2 (node.Proxy 257 0) refl k }); told = (inl (refl, refl, refl)) }), refl, refl)

abbrev t4 : Turn
t4 = LogTurn (node.Proxy 257 0) 257 0 (Push (record { epoch = 257; prev = 1; version = 2; known = 0; bodies = record { tag = 0; batch = kept } ∷ []; mark = None })) (Held 2)

abbrev h4 : List Turn
h4 = t4 ∷ h3

turn4 : IsTurn c h3 t4
unfolding row generation_at is_within
turn4 = ((record { there = refl; up = λ k. none_gone h3 (node.Log 257 0) refl k }), inl (inl (refl, at (asks_of t3) _ 0 refl refl)), refl, tt)

abbrev t5 : Turn
t5 = LogTurn (node.Proxy 257 0) 257 1 (Push (record { epoch = 257; prev = 1; version = 2; known = 0; bodies = record { tag = 0; batch = kept } ∷ []; mark = None })) (Held 2)

abbrev h5 : List Turn
h5 = t5 ∷ h4

turn5 : IsTurn c h4 t5
unfolding row generation_at is_within
turn5 = ((record { there = refl; up = λ k. none_gone h4 (node.Log 257 1) refl k }), inl (inr (inl (refl, at (asks_of t3) _ 1 refl refl))), refl, tt)

abbrev t6 : Turn
t6 = ProxyHeard 257 0 (node.Log 257 0) (tell.Log (Held 2)) Waiting ([])

abbrev h6 : List Turn
h6 = t6 ∷ h5

turn6 : IsTurn c h5 t6
unfolding row generation_at is_within
turn6 = ((record { actor = (record { there = refl; up = λ k. none_gone h5 (node.Proxy 257 0) refl k }); told = (inr (inl (refl, refl, refl))) }), refl, refl)

abbrev t7 : Turn
t7 = ProxyHeard 257 0 (node.Log 257 1) (tell.Log (Held 2)) (Committed 2) ([])

abbrev h7 : List Turn
h7 = t7 ∷ h6

turn7 : IsTurn c h6 t7
unfolding row generation_at is_within
turn7 = ((record { actor = (record { there = refl; up = λ k. none_gone h6 (node.Proxy 257 0) refl k }); told = (inr (inl (refl, refl, refl))) }), refl, refl)

abbrev t8 : Turn
t8 = Submitted 257 0 1 ahead ((node.Sequencer 257, ask.Seq (Next 0 2 1)) ∷ [])

abbrev h8 : List Turn
h8 = t8 ∷ h7

turn8 : IsTurn c h7 t8
unfolding row generation_at is_within
turn8 = ((record { there = refl; up = λ k. none_gone h7 (node.Proxy 257 0) refl k }), (refl, omega arith), refl)

abbrev t9 : Turn
t9 = SeqTurn (node.Proxy 257 0) 257 (Next 0 2 1) (Numbered 2 2 3)

abbrev h9 : List Turn
h9 = t9 ∷ h8

turn9 : IsTurn c h8 t9
unfolding row generation_at is_within
turn9 = ((record { there = refl; up = λ k. none_gone h8 (node.Sequencer 257) refl k }), (inl (refl, at (asks_of t8) _ 0 refl refl)), numbered_on)

abbrev t10 : Turn
t10 = ProxyHeard 257 0 (node.Sequencer 257) (tell.Seq (Numbered 2 2 3)) Waiting ((node.Log 257 0, ask.Log (Push (record { epoch = 257; prev = 2; version = 3; known = 2; bodies = record { tag = 0; batch = ahead } ∷ []; mark = None }))) ∷ (node.Log 257 1, ask.Log (Push (record { epoch = 257; prev = 2; version = 3; known = 2; bodies = record { tag = 0; batch = ahead } ∷ []; mark = None }))) ∷ [])

abbrev h10 : List Turn
h10 = t10 ∷ h9

turn10 : IsTurn c h9 t10
unfolding row generation_at is_within
turn10 = ((record { actor = (record { there = refl; up = λ k. none_gone h9 (node.Proxy 257 0) refl k }); told = (inl (refl, refl, refl)) }), refl, refl)

abbrev t11 : Turn
t11 = LogTurn (node.Proxy 257 0) 257 0 (Push (record { epoch = 257; prev = 2; version = 3; known = 2; bodies = record { tag = 0; batch = ahead } ∷ []; mark = None })) (Held 3)

abbrev h11 : List Turn
h11 = t11 ∷ h10

turn11 : IsTurn c h10 t11
unfolding row generation_at is_within
turn11 = ((record { there = refl; up = λ k. none_gone h10 (node.Log 257 0) refl k }), inl (inl (refl, at (asks_of t10) _ 0 refl refl)), refl, tt)

abbrev t12 : Turn
t12 = LogTurn (node.Storage 0) 257 0 (Peek 257 0 0 100) (Peeked (record { tag = 0; after = 0; records = record { version = 2; batch = kept } ∷ record { version = 3; batch = ahead } ∷ []; upto = 3; known = 2 }))

abbrev h12 : List Turn
h12 = t12 ∷ h11

turn12 : IsTurn c h11 t12
unfolding row generation_at is_within
turn12 = ((record { there = refl; up = λ k. none_gone h11 (node.Log 257 0) refl k }), inr (refl, ltb-true 0 1 refl), refl, omega arith)

abbrev t13 : Turn
t13 = StorageHeard 0 (node.Log 257 0) (tell.Log (Peeked (record { tag = 0; after = 0; records = record { version = 2; batch = kept } ∷ record { version = 3; batch = ahead } ∷ []; upto = 3; known = 2 }))) None None

abbrev h13 : List Turn
h13 = t13 ∷ h12

turn13 : IsTurn c h12 t13
unfolding row generation_at is_within
turn13 = ((record { actor = (record { there = refl; up = λ k. none_gone h12 (node.Storage 0) refl k }); told = (inl (refl, refl, refl)) }), refl, tt)

abbrev t14 : Turn
t14 = Gone (node.Log 257 0)

abbrev h14 : List Turn
h14 = t14 ∷ h13

turn14 : IsTurn c h13 t14
unfolding row generation_at is_within
turn14 = ((record { there = refl; up = λ k. none_gone h13 (node.Log 257 0) refl k }), tt)

abbrev t15 : Turn
t15 = Begun 513 None ((node.Cell 0, ask.Cell (Read 513)) ∷ [])

abbrev h15 : List Turn
h15 = t15 ∷ h14

turn15 : IsTurn c h14 t15
unfolding row generation_at is_within
turn15 = (refl, ((λ e. absurd (omega (arith, e))), (omega arith, omega arith)), tt, refl)

abbrev t16 : Turn
t16 = CellTurn (node.Recoverer 513) 0 (Read 513) (Promise 257 (spelling first))

abbrev h16 : List Turn
h16 = t16 ∷ h15

turn16 : IsTurn c h15 t16
unfolding row generation_at is_within
turn16 = (ltb-true 0 1 refl, (inl (refl, at (asks_of t15) _ 0 refl refl)), refl)

abbrev t17 : Turn
t17 = RecHeard 513 (node.Cell 0) (tell.Cell (Promise 257 (spelling first))) ((node.Log 257 0, ask.Log (Lock 257)) ∷ (node.Log 257 1, ask.Log (Lock 257)) ∷ [])

abbrev h17 : List Turn
h17 = t17 ∷ h16

turn17 : IsTurn c h16 t17
unfolding row generation_at is_within
turn17 = ((record { actor = (record { there = refl; up = λ k. none_gone h16 (node.Recoverer 513) refl k }); told = (inl (refl, refl, refl)) }), (got (rec_at c h16 513), refl, refl))

abbrev t18 : Turn
t18 = LogTurn (node.Recoverer 513) 257 1 (Lock 257) (Locked 2 0 [])

abbrev h18 : List Turn
h18 = t18 ∷ h17

turn18 : IsTurn c h17 t18
unfolding row generation_at is_within
turn18 = ((record { there = refl; up = λ k. none_gone h17 (node.Log 257 1) refl k }), inl (inl (refl, at (asks_of t17) _ 1 refl refl)), refl, tt)

abbrev t19 : Turn
t19 = RecHeard 513 (node.Log 257 1) (tell.Log (Locked 2 0 [])) ((node.Log 257 1, ask.Log (Peek 257 0 0 100)) ∷ [])

abbrev h19 : List Turn
h19 = t19 ∷ h18

turn19 : IsTurn c h18 t19
unfolding row generation_at is_within
turn19 = ((record { actor = (record { there = refl; up = λ k. none_gone h18 (node.Recoverer 513) refl k }); told = (inl (refl, refl, refl)) }), (got (rec_at c h18 513), refl, refl))

abbrev t20 : Turn
t20 = LogTurn (node.Recoverer 513) 257 1 (Peek 257 0 0 100) (Peeked (record { tag = 0; after = 0; records = record { version = 2; batch = kept } ∷ []; upto = 2; known = 0 }))

abbrev h20 : List Turn
h20 = t20 ∷ h19

turn20 : IsTurn c h19 t20
unfolding row generation_at is_within
turn20 = ((record { there = refl; up = λ k. none_gone h19 (node.Log 257 1) refl k }), inl (inl (refl, at (asks_of t19) _ 0 refl refl)), refl, omega arith)

abbrev t21 : Turn
t21 = RecHeard 513 (node.Log 257 1) (tell.Log (Peeked (record { tag = 0; after = 0; records = record { version = 2; batch = kept } ∷ []; upto = 2; known = 0 }))) ((node.Log 513 0, ask.Log (Seed (record { epoch = 513; first = 1; seeded_to = 2; records = record { version = 2; tag = 0; batch = kept } ∷ [] }))) ∷ (node.Log 513 1, ask.Log (Seed (record { epoch = 513; first = 1; seeded_to = 2; records = record { version = 2; tag = 0; batch = kept } ∷ [] }))) ∷ [])

abbrev h21 : List Turn
h21 = t21 ∷ h20

turn21 : IsTurn c h20 t21
unfolding row generation_at is_within
turn21 = ((record { actor = (record { there = refl; up = λ k. none_gone h20 (node.Recoverer 513) refl k }); told = (inl (refl, refl, refl)) }), (got (rec_at c h20 513), refl, refl))

abbrev t22 : Turn
t22 = LogTurn (node.Recoverer 513) 513 0 (Seed (record { epoch = 513; first = 1; seeded_to = 2; records = record { version = 2; tag = 0; batch = kept } ∷ [] })) (Seeded)

abbrev h22 : List Turn
h22 = t22 ∷ h21

turn22 : IsTurn c h21 t22
unfolding row generation_at is_within
turn22 = ((record { there = refl; up = λ k. none_gone h21 (node.Log 513 0) refl k }), inl (inl (refl, at (asks_of t21) _ 0 refl refl)), refl, tt)

abbrev t23 : Turn
t23 = LogTurn (node.Recoverer 513) 513 1 (Seed (record { epoch = 513; first = 1; seeded_to = 2; records = record { version = 2; tag = 0; batch = kept } ∷ [] })) (Seeded)

abbrev h23 : List Turn
h23 = t23 ∷ h22

turn23 : IsTurn c h22 t23
unfolding row generation_at is_within
turn23 = ((record { there = refl; up = λ k. none_gone h22 (node.Log 513 1) refl k }), inl (inr (inl (refl, at (asks_of t21) _ 1 refl refl))), refl, tt)

abbrev t24 : Turn
t24 = RecHeard 513 (node.Log 513 0) (tell.Log (Seeded)) ([])

abbrev h24 : List Turn
h24 = t24 ∷ h23

turn24 : IsTurn c h23 t24
unfolding row generation_at is_within
turn24 = ((record { actor = (record { there = refl; up = λ k. none_gone h23 (node.Recoverer 513) refl k }); told = (inr (inl (refl, refl, refl))) }), (got (rec_at c h23 513), refl, refl))

abbrev t25 : Turn
t25 = RecHeard 513 (node.Log 513 1) (tell.Log (Seeded)) ((node.Cell 0, ask.Cell (Write 513 (spelling later))) ∷ [])

abbrev h25 : List Turn
h25 = t25 ∷ h24

turn25 : IsTurn c h24 t25
unfolding row generation_at is_within
turn25 = ((record { actor = (record { there = refl; up = λ k. none_gone h24 (node.Recoverer 513) refl k }); told = (inr (inl (refl, refl, refl))) }), (got (rec_at c h24 513), refl, refl))

abbrev t26 : Turn
t26 = CellTurn (node.Recoverer 513) 0 (Write 513 (spelling later)) (Written 513)

abbrev h26 : List Turn
h26 = t26 ∷ h25

turn26 : IsTurn c h25 t26
unfolding row generation_at is_within
turn26 = (ltb-true 0 1 refl, (inl (refl, at (asks_of t25) _ 0 refl refl)), refl)

abbrev t27 : Turn
t27 = RecHeard 513 (node.Cell 0) (tell.Cell (Written 513)) ((node.Log 513 0, ask.Log (Push (record { epoch = 513; prev = 2; version = 3; known = 0; bodies = []; mark = Some later }))) ∷ (node.Log 513 1, ask.Log (Push (record { epoch = 513; prev = 2; version = 3; known = 0; bodies = []; mark = Some later }))) ∷ [])

abbrev h27 : List Turn
h27 = t27 ∷ h26

turn27 : IsTurn c h26 t27
unfolding row generation_at is_within
turn27 = ((record { actor = (record { there = refl; up = λ k. none_gone h26 (node.Recoverer 513) refl k }); told = (inl (refl, refl, refl)) }), (got (rec_at c h26 513), refl, refl))

abbrev t28 : Turn
t28 = LogTurn (node.Recoverer 513) 513 0 (Push (record { epoch = 513; prev = 2; version = 3; known = 0; bodies = []; mark = Some later })) (Held 3)

abbrev pub h28 : List Turn
h28 = t28 ∷ h27

turn28 : IsTurn c h27 t28
unfolding row generation_at is_within
turn28 = ((record { there = refl; up = λ k. none_gone h27 (node.Log 513 0) refl k }), inl (inl (refl, at (asks_of t27) _ 0 refl refl)), refl, tt)

abbrev t29 : Turn
t29 = LogTurn (node.Storage 0) 513 0 (MarkAsked 513) (Marked later)

abbrev h29 : List Turn
h29 = t29 ∷ h28

turn29 : IsTurn c h28 t29
unfolding row generation_at is_within
turn29 = ((record { there = refl; up = λ k. none_gone h28 (node.Log 513 0) refl k }), inr (ltb-true 0 1 refl), refl, tt)

abbrev t30 : Turn
t30 = StorageHeard 0 (node.Log 513 0) (tell.Log (Marked later)) None None

abbrev h30 : List Turn
h30 = t30 ∷ h29

turn30 : IsTurn c h29 t30
unfolding row generation_at is_within is_stranger
turn30 = ((record { actor = (record { there = refl; up = λ k. none_gone h29 (node.Storage 0) refl k }); told = (inl (refl, refl, refl)) }), refl, tt)

pub is_run28 : IsRun c h28
is_run28 = (turn28, (turn27, (turn26, (turn25, (turn24, (turn23, (turn22, (turn21, (turn20, (turn19, (turn18, (turn17, (turn16, (turn15, (turn14, (turn13, (turn12, (turn11, (turn10, (turn9, (turn8, (turn7, (turn6, (turn5, (turn4, (turn3, (turn2, (turn1, tt))))))))))))))))))))))))))))

is_run : IsRun c h30
is_run = (turn30, (turn29, is_run28))

pub rollback_happens : RollbackHappens
unfolding row generation_at is_within is_stranger
rollback_happens = record {
  config = c;
  run = h30;
  is_config = record { k_low = omega arith; k_high = omega arith; m_high = omega arith };
  is_run = is_run;
  rolled_back = record { before = h29; epoch = 513; log = 0; state = later; now = refl; later = ltb-true 257 513 refl };
  ahead = refl;
  now = refl;
  lost = at h30 _ 16 refl refl;
  batch = kept;
  acknowledged = inr (inr (inr (inr (inr (inr (inr (inr (inr (inr (inr (inr (inr (inr (inr (inr (inr (inr (inr (inr (inr (inr (inr (inl (record { proxy = 0; from = node.Log 257 1; heard = tell.Log (Held 2); asks = []; is = refl; under_way = refl }))))))))))))))))))))))));
}

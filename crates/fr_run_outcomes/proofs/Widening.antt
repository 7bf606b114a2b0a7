-- A run that begins with one log, goes on with two, and acknowledges a batch there.
use Rattle.std.proofs.Common.{◌≡◌, cond, List, [], ◌∷◌, Option, None, Some, inl, inr, refl, sym, subst, arith}
use Rattle.std.specs.Prelude.{unwrap_or}
use Rattle.std.proofs.lemmas.Bool.{ltb-true}
use Rattle.fr_base.specs.Shape.{ShapeContent}
use Rattle.fr_base.specs.declared.place.NodeId.TheVariants as node
use Rattle.fr_mutation.specs.declared.mutation.Mutation.{Mutation}
use Rattle.fr_mutation.specs.declared.mutation.Mutation.TheVariants.{Set}
use Rattle.fr_register.specs.declared.ask.CellAsk.TheVariants.{Read, Write}
use Rattle.fr_register.specs.declared.ask.CellTell.TheVariants.{Promise, Written}
use Rattle.fr_state.specs.Generations.{CoordinatedState}
use Rattle.fr_state.specs.Spelling.{spelling, row}
use Rattle.fr_state.specs.Reading.{generation_at, is_within}
use Rattle.fr_log.specs.declared.ask.LogAsk.TheVariants.{Seed, Push, Lock, Peek}
use Rattle.fr_log.specs.declared.ask.LogTell.TheVariants.{Seeded, Held, Locked, Peeked}
use Rattle.fr_ask.specs.declared.ask.Ask.TheVariants as ask
use Rattle.fr_ask.specs.declared.tell.Tell.TheVariants as tell
use Rattle.fr_ask.specs.declared.sequencer.SeqAsk.TheVariants.{Next}
use Rattle.fr_ask.specs.declared.sequencer.SeqTell.TheVariants.{Numbered}
use Rattle.std.specs.FinMap.{get, insert, get-empty, get-insert}
use Rattle.std.specs.Ordering.{nat_cmp}
use Rattle.std.specs.Cmp.{nat_cmp_total}
use Rattle.fr_proxy.specs.Sequencer.{SeqState, new_sequencer, answer_of, next_unless, is_of, told_before, told_unless, new_refusal, new_number}
use Rattle.fr_proxy.specs.declared.number.Number.{Number}
use Rattle.fr_proxy.specs.declared.outcome.Outcome.TheVariants.{Waiting, Committed}
use Rattle.fr_epoch.specs.Recoverer.{RecState, new_recoverer}
use Rattle.fr_run.specs.Config.{Config, first_state}
use Rattle.fr_run.specs.Turn.{Turn, Begun, CellTurn, LogTurn, SeqTurn, Submitted, ProxyHeard, RecHeard, asks_of}
use Rattle.fr_run.specs.Nodes.{rec_at}
use Rattle.fr_run.specs.Run.{IsTurn, IsRun}
use Rattle.fr_run_headline.proofs.Example.{none_gone, at}

-- ---- numbers

-- the first two numbers of a sequencer that goes on from version 2
abbrev fresh : SeqState
fresh = new_sequencer 513 2

numbered : (o : Option Number) → o ≡ None → Numbered 1 2 3 ≡ cond (is_of 1 o) (told_before o) (told_unless (new_refusal fresh o 1 1) (new_number fresh 1 1))
numbered None e = refl
numbered (Some n) e = absurd (cc)

abbrev first_number : Number
first_number = record { request = 1; prev = 2; version = 3 }

abbrev went_on : SeqState
went_on = record { epoch = 513; last = 3; given = insert fresh.given 0 first_number }

goes_on : (o : Option Number) → o ≡ None → cond (is_of 1 o) fresh (next_unless (new_refusal fresh o 1 1) fresh 0 (new_number fresh 1 1)) ≡ went_on
goes_on None e = refl
goes_on (Some n) e = absurd (cc)

second : (o : Option Number) → o ≡ Some first_number → Numbered 2 3 4 ≡ cond (is_of 2 o) (told_before o) (told_unless (new_refusal went_on o 2 1) (new_number went_on 2 1))
second None e = absurd (cc)
second (Some n) e = let same : n ≡ first_number = cc in subst (λ m. Numbered 2 3 4 ≡ cond (is_of 2 (Some m)) (told_before (Some m)) (told_unless (new_refusal went_on (Some m) 2 1) (new_number went_on 2 1))) (sym same) refl

numbered_on : Numbered 2 3 4 ≡ answer_of (cond (is_of 1 (get fresh.given 0)) fresh (next_unless (new_refusal fresh (get fresh.given 0) 1 1) fresh 0 (new_number fresh 1 1))) (Next 0 2 1)
numbered_on = subst (λ s. Numbered 2 3 4 ≡ answer_of s (Next 0 2 1)) (sym (goes_on (get fresh.given 0) (get-empty nat_cmp 0))) (second (get went_on.given 0) (get-insert nat_cmp_total fresh.given 0 first_number 0))

-- ---- the run

-- one cell, a first generation of one log, one shard, one proxy
abbrev pub c : Config
c = record { cells = 1; m = 1; k = 1; begins = [] ∷ []; proxies = 1 }

-- two logs, and each tag on one of them
abbrev pub wider : ShapeContent
wider = record { m = 2; k = 1 }

-- the batch that is acknowledged, and one that comes after it
abbrev pub one : List Mutation
one = Set (97 ∷ []) (1 ∷ []) ∷ []

abbrev pub two : List Mutation
two = Set (97 ∷ []) (2 ∷ []) ∷ []

abbrev first : CoordinatedState
first = first_state c

abbrev pub later : CoordinatedState
later = record { dropped = 0; gens = record { epoch = 257; m = 1; k = 1; first = 1; seeded_to = 0 } ∷ record { epoch = 513; m = 2; k = 1; first = 1; seeded_to = 1 } ∷ [] }

abbrev got513 : Option RecState → RecState
got513 o = unwrap_or o (new_recoverer 513 1 ([] ∷ []) (Some wider))

abbrev h0 : List Turn
h0 = []

abbrev pub t1 : Turn
t1 = Begun 513 (Some wider) ((node.Cell 0, ask.Cell (Read 513)) ∷ [])

abbrev pub h1 : List Turn
h1 = t1 ∷ h0

turn1 : IsTurn c h0 t1
unfolding row generation_at is_within
turn1 = (refl, ((λ e. absurd (omega (arith, e))), (omega arith, omega arith)), record { k_low = omega arith; k_high = omega arith; m_high = omega arith }, refl)

abbrev pub t2 : Turn
t2 = CellTurn (node.Recoverer 513) 0 (Read 513) (Promise 257 (spelling first))

abbrev pub h2 : List Turn
h2 = t2 ∷ h1

turn2 : IsTurn c h1 t2
unfolding row generation_at is_within
turn2 = (ltb-true 0 1 refl, (inl (refl, at (asks_of t1) _ 0 refl refl)), refl)

abbrev pub t3 : Turn
t3 = RecHeard 513 (node.Cell 0) (tell.Cell (Promise 257 (spelling first))) ((node.Log 257 0, ask.Log (Lock 257)) ∷ [])

abbrev pub h3 : List Turn
h3 = t3 ∷ h2

turn3 : IsTurn c h2 t3
unfolding row generation_at is_within
turn3 = (record { actor = record { there = refl; up = λ k. none_gone h2 (node.Recoverer 513) refl k }; told = inl (refl, refl, refl) }, (got513 (rec_at c h2 513), refl, refl))

abbrev pub t4 : Turn
t4 = LogTurn (node.Recoverer 513) 257 0 (Lock 257) (Locked 1 0 [])

abbrev pub h4 : List Turn
h4 = t4 ∷ h3

turn4 : IsTurn c h3 t4
unfolding row generation_at is_within
turn4 = (record { there = refl; up = λ k. none_gone h3 (node.Log 257 0) refl k }, inl (inl (refl, at (asks_of t3) _ 0 refl refl)), refl, tt)

abbrev pub t5 : Turn
t5 = RecHeard 513 (node.Log 257 0) (tell.Log (Locked 1 0 [])) ((node.Log 257 0, ask.Log (Peek 257 0 0 100)) ∷ [])

abbrev pub h5 : List Turn
h5 = t5 ∷ h4

turn5 : IsTurn c h4 t5
unfolding row generation_at is_within
turn5 = (record { actor = record { there = refl; up = λ k. none_gone h4 (node.Recoverer 513) refl k }; told = inl (refl, refl, refl) }, (got513 (rec_at c h4 513), refl, refl))

abbrev pub t6 : Turn
t6 = LogTurn (node.Recoverer 513) 257 0 (Peek 257 0 0 100) (Peeked (record { tag = 0; after = 0; records = []; upto = 1; known = 0 }))

abbrev pub h6 : List Turn
h6 = t6 ∷ h5

turn6 : IsTurn c h5 t6
unfolding row generation_at is_within
turn6 = (record { there = refl; up = λ k. none_gone h5 (node.Log 257 0) refl k }, inl (inl (refl, at (asks_of t5) _ 0 refl refl)), refl, omega arith)

abbrev pub t7 : Turn
t7 = RecHeard 513 (node.Log 257 0) (tell.Log (Peeked (record { tag = 0; after = 0; records = []; upto = 1; known = 0 }))) ((node.Log 513 0, ask.Log (Seed (record { epoch = 513; first = 1; seeded_to = 1; records = [] }))) ∷ (node.Log 513 1, ask.Log (Seed (record { epoch = 513; first = 1; seeded_to = 1; records = [] }))) ∷ [])

abbrev pub h7 : List Turn
h7 = t7 ∷ h6

turn7 : IsTurn c h6 t7
unfolding row generation_at is_within
turn7 = (record { actor = record { there = refl; up = λ k. none_gone h6 (node.Recoverer 513) refl k }; told = inl (refl, refl, refl) }, (got513 (rec_at c h6 513), refl, refl))

abbrev pub t8 : Turn
t8 = LogTurn (node.Recoverer 513) 513 0 (Seed (record { epoch = 513; first = 1; seeded_to = 1; records = [] })) (Seeded)

abbrev pub h8 : List Turn
h8 = t8 ∷ h7

turn8 : IsTurn c h7 t8
unfolding row generation_at is_within
turn8 = (record { there = refl; up = λ k. none_gone h7 (node.Log 513 0) refl k }, inl (inl (refl, at (asks_of t7) _ 0 refl refl)), refl, tt)

abbrev pub t9 : Turn
t9 = LogTurn (node.Recoverer 513) 513 1 (Seed (record { epoch = 513; first = 1; seeded_to = 1; records = [] })) (Seeded)

abbrev pub h9 : List Turn
h9 = t9 ∷ h8

turn9 : IsTurn c h8 t9
unfolding row generation_at is_within
turn9 = (record { there = refl; up = λ k. none_gone h8 (node.Log 513 1) refl k }, inl (inr (inl (refl, at (asks_of t7) _ 1 refl refl))), refl, tt)

abbrev pub t10 : Turn
t10 = RecHeard 513 (node.Log 513 0) (tell.Log (Seeded)) []

abbrev pub h10 : List Turn
h10 = t10 ∷ h9

turn10 : IsTurn c h9 t10
unfolding row generation_at is_within
turn10 = (record { actor = record { there = refl; up = λ k. none_gone h9 (node.Recoverer 513) refl k }; told = inr (inl (refl, refl, refl)) }, (got513 (rec_at c h9 513), refl, refl))

abbrev pub t11 : Turn
t11 = RecHeard 513 (node.Log 513 1) (tell.Log (Seeded)) ((node.Cell 0, ask.Cell (Write 513 (spelling later))) ∷ [])

abbrev pub h11 : List Turn
h11 = t11 ∷ h10

turn11 : IsTurn c h10 t11
unfolding row generation_at is_within
turn11 = (record { actor = record { there = refl; up = λ k. none_gone h10 (node.Recoverer 513) refl k }; told = inr (inl (refl, refl, refl)) }, (got513 (rec_at c h10 513), refl, refl))

abbrev pub t12 : Turn
t12 = CellTurn (node.Recoverer 513) 0 (Write 513 (spelling later)) (Written 513)

abbrev pub h12 : List Turn
h12 = t12 ∷ h11

turn12 : IsTurn c h11 t12
unfolding row generation_at is_within
turn12 = (ltb-true 0 1 refl, (inl (refl, at (asks_of t11) _ 0 refl refl)), refl)

abbrev pub t13 : Turn
t13 = RecHeard 513 (node.Cell 0) (tell.Cell (Written 513)) ((node.Log 513 0, ask.Log (Push (record { epoch = 513; prev = 1; version = 2; known = 0; bodies = []; mark = Some later }))) ∷ (node.Log 513 1, ask.Log (Push (record { epoch = 513; prev = 1; version = 2; known = 0; bodies = []; mark = Some later }))) ∷ [])

abbrev pub h13 : List Turn
h13 = t13 ∷ h12

turn13 : IsTurn c h12 t13
unfolding row generation_at is_within
turn13 = (record { actor = record { there = refl; up = λ k. none_gone h12 (node.Recoverer 513) refl k }; told = inl (refl, refl, refl) }, (got513 (rec_at c h12 513), refl, refl))

abbrev pub t14 : Turn
t14 = LogTurn (node.Recoverer 513) 513 0 (Push (record { epoch = 513; prev = 1; version = 2; known = 0; bodies = []; mark = Some later })) (Held 2)

abbrev pub h14 : List Turn
h14 = t14 ∷ h13

turn14 : IsTurn c h13 t14
unfolding row generation_at is_within
turn14 = (record { there = refl; up = λ k. none_gone h13 (node.Log 513 0) refl k }, inl (inl (refl, at (asks_of t13) _ 0 refl refl)), refl, tt)

abbrev pub t15 : Turn
t15 = LogTurn (node.Recoverer 513) 513 1 (Push (record { epoch = 513; prev = 1; version = 2; known = 0; bodies = []; mark = Some later })) (Held 2)

abbrev pub h15 : List Turn
h15 = t15 ∷ h14

turn15 : IsTurn c h14 t15
unfolding row generation_at is_within
turn15 = (record { there = refl; up = λ k. none_gone h14 (node.Log 513 1) refl k }, inl (inr (inl (refl, at (asks_of t13) _ 1 refl refl))), refl, tt)

abbrev pub t16 : Turn
t16 = Submitted 513 0 1 one ((node.Sequencer 513, ask.Seq (Next 0 1 1)) ∷ [])

abbrev pub h16 : List Turn
h16 = t16 ∷ h15

turn16 : IsTurn c h15 t16
unfolding row generation_at is_within
turn16 = (record { there = refl; up = λ k. none_gone h15 (node.Proxy 513 0) refl k }, (refl, omega arith), refl)

abbrev pub t17 : Turn
t17 = SeqTurn (node.Proxy 513 0) 513 (Next 0 1 1) (Numbered 1 2 3)

abbrev pub h17 : List Turn
h17 = t17 ∷ h16

turn17 : IsTurn c h16 t17
unfolding row generation_at is_within
turn17 = (record { there = refl; up = λ k. none_gone h16 (node.Sequencer 513) refl k }, (inl (refl, at (asks_of t16) _ 0 refl refl)), numbered (get fresh.given 0) (get-empty nat_cmp 0))

abbrev pub t18 : Turn
t18 = ProxyHeard 513 0 (node.Sequencer 513) (tell.Seq (Numbered 1 2 3)) Waiting ((node.Log 513 0, ask.Log (Push (record { epoch = 513; prev = 2; version = 3; known = 0; bodies = record { tag = 0; batch = one } ∷ []; mark = None }))) ∷ (node.Log 513 1, ask.Log (Push (record { epoch = 513; prev = 2; version = 3; known = 0; bodies = []; mark = None }))) ∷ [])

abbrev pub h18 : List Turn
h18 = t18 ∷ h17

turn18 : IsTurn c h17 t18
unfolding row generation_at is_within
turn18 = (record { actor = record { there = refl; up = λ k. none_gone h17 (node.Proxy 513 0) refl k }; told = inl (refl, refl, refl) }, refl, refl)

abbrev pub t19 : Turn
t19 = LogTurn (node.Proxy 513 0) 513 0 (Push (record { epoch = 513; prev = 2; version = 3; known = 0; bodies = record { tag = 0; batch = one } ∷ []; mark = None })) (Held 3)

abbrev pub h19 : List Turn
h19 = t19 ∷ h18

turn19 : IsTurn c h18 t19
unfolding row generation_at is_within
turn19 = (record { there = refl; up = λ k. none_gone h18 (node.Log 513 0) refl k }, inl (inl (refl, at (asks_of t18) _ 0 refl refl)), refl, tt)

abbrev pub t20 : Turn
t20 = LogTurn (node.Proxy 513 0) 513 1 (Push (record { epoch = 513; prev = 2; version = 3; known = 0; bodies = []; mark = None })) (Held 3)

abbrev pub h20 : List Turn
h20 = t20 ∷ h19

turn20 : IsTurn c h19 t20
unfolding row generation_at is_within
turn20 = (record { there = refl; up = λ k. none_gone h19 (node.Log 513 1) refl k }, inl (inr (inl (refl, at (asks_of t18) _ 1 refl refl))), refl, tt)

abbrev pub t21 : Turn
t21 = ProxyHeard 513 0 (node.Log 513 0) (tell.Log (Held 3)) Waiting []

abbrev pub h21 : List Turn
h21 = t21 ∷ h20

turn21 : IsTurn c h20 t21
unfolding row generation_at is_within
turn21 = (record { actor = record { there = refl; up = λ k. none_gone h20 (node.Proxy 513 0) refl k }; told = inr (inl (refl, refl, refl)) }, refl, refl)

abbrev pub t22 : Turn
t22 = ProxyHeard 513 0 (node.Log 513 1) (tell.Log (Held 3)) (Committed 3) []

abbrev pub h22 : List Turn
h22 = t22 ∷ h21

turn22 : IsTurn c h21 t22
unfolding row generation_at is_within
turn22 = (record { actor = record { there = refl; up = λ k. none_gone h21 (node.Proxy 513 0) refl k }; told = inr (inl (refl, refl, refl)) }, refl, refl)

abbrev pub t23 : Turn
t23 = Submitted 513 0 1 two ((node.Sequencer 513, ask.Seq (Next 0 2 1)) ∷ [])

abbrev pub h23 : List Turn
h23 = t23 ∷ h22

turn23 : IsTurn c h22 t23
unfolding row generation_at is_within
turn23 = (record { there = refl; up = λ k. none_gone h22 (node.Proxy 513 0) refl k }, (refl, omega arith), refl)

abbrev pub t24 : Turn
t24 = SeqTurn (node.Proxy 513 0) 513 (Next 0 2 1) (Numbered 2 3 4)

abbrev pub h24 : List Turn
h24 = t24 ∷ h23

turn24 : IsTurn c h23 t24
unfolding row generation_at is_within
turn24 = (record { there = refl; up = λ k. none_gone h23 (node.Sequencer 513) refl k }, (inl (refl, at (asks_of t23) _ 0 refl refl)), numbered_on)

abbrev pub t25 : Turn
t25 = ProxyHeard 513 0 (node.Sequencer 513) (tell.Seq (Numbered 2 3 4)) Waiting ((node.Log 513 0, ask.Log (Push (record { epoch = 513; prev = 3; version = 4; known = 3; bodies = record { tag = 0; batch = two } ∷ []; mark = None }))) ∷ (node.Log 513 1, ask.Log (Push (record { epoch = 513; prev = 3; version = 4; known = 3; bodies = []; mark = None }))) ∷ [])

abbrev pub h25 : List Turn
h25 = t25 ∷ h24

turn25 : IsTurn c h24 t25
unfolding row generation_at is_within
turn25 = (record { actor = record { there = refl; up = λ k. none_gone h24 (node.Proxy 513 0) refl k }; told = inl (refl, refl, refl) }, refl, refl)

abbrev pub t26 : Turn
t26 = LogTurn (node.Proxy 513 0) 513 0 (Push (record { epoch = 513; prev = 3; version = 4; known = 3; bodies = record { tag = 0; batch = two } ∷ []; mark = None })) (Held 4)

abbrev pub h26 : List Turn
h26 = t26 ∷ h25

turn26 : IsTurn c h25 t26
unfolding row generation_at is_within
turn26 = (record { there = refl; up = λ k. none_gone h25 (node.Log 513 0) refl k }, inl (inl (refl, at (asks_of t25) _ 0 refl refl)), refl, tt)

abbrev pub t27 : Turn
t27 = LogTurn (node.Proxy 513 0) 513 1 (Push (record { epoch = 513; prev = 3; version = 4; known = 3; bodies = []; mark = None })) (Held 4)

abbrev pub h27 : List Turn
h27 = t27 ∷ h26

turn27 : IsTurn c h26 t27
unfolding row generation_at is_within
turn27 = (record { there = refl; up = λ k. none_gone h26 (node.Log 513 1) refl k }, inl (inr (inl (refl, at (asks_of t25) _ 1 refl refl))), refl, tt)

pub is_run27 : IsRun c h27
is_run27 = (turn27, (turn26, (turn25, (turn24, (turn23, (turn22, (turn21, (turn20, (turn19, (turn18, (turn17, (turn16, (turn15, (turn14, (turn13, (turn12, (turn11, (turn10, (turn9, (turn8, (turn7, (turn6, (turn5, (turn4, (turn3, (turn2, (turn1, tt)))))))))))))))))))))))))))

-- A run in which an acknowledged commit survives two recoveries, the second one to another number of logs.
use Rattle.std.proofs.Common.{List, [], ◌∷◌, Option, Some, inl, inr, refl, arith}
use Rattle.std.specs.Prelude.{unwrap_or}
use Rattle.std.proofs.lemmas.Bool.{ltb-true}
use Rattle.fr_base.specs.Shape.{ShapeContent}
use Rattle.fr_base.specs.declared.place.NodeId.TheVariants as node
use Rattle.fr_register.specs.declared.ask.CellAsk.TheVariants.{Read, Write}
use Rattle.fr_register.specs.declared.ask.CellTell.TheVariants.{Promise, Written}
use Rattle.fr_state.specs.Generations.{CoordinatedState}
use Rattle.fr_state.specs.Spelling.{spelling, row}
use Rattle.fr_state.specs.Reading.{generation_at, is_within}
use Rattle.fr_log.specs.declared.ask.LogAsk.TheVariants.{Seed, Push, Lock, Peek}
use Rattle.fr_log.specs.declared.ask.LogTell.TheVariants.{Seeded, Held, Locked, Peeked}
use Rattle.fr_ask.specs.declared.ask.Ask.TheVariants as ask
use Rattle.fr_ask.specs.declared.tell.Tell.TheVariants as tell
use Rattle.fr_epoch.specs.Recoverer.{RecState, new_recoverer}
use Rattle.fr_run.specs.Turn.{Turn, Begun, CellTurn, LogTurn, RecHeard, asks_of}
use Rattle.fr_run.specs.Nodes.{rec_at}
use Rattle.fr_run.specs.Run.{IsTurn, IsRun}
use Rattle.fr_run_headline.specs.Issued.{committed}
use Rattle.fr_run_headline.specs.Committed.{commit_at}
use Rattle.fr_run_headline.specs.Example.{SurvivesTwoRecoveries}
use Rattle.fr_run_headline.proofs.Example.{c, kept, later, none_gone, at, h28, is_run28}

abbrev last : CoordinatedState
last = record { dropped = 0; gens = record { epoch = 257; m = 2; k = 2; first = 1; seeded_to = 0 } ∷ record { epoch = 513; m = 2; k = 2; first = 1; seeded_to = 2 } ∷ record { epoch = 769; m = 3; k = 1; first = 1; seeded_to = 3 } ∷ [] }

-- three logs, and each tag on one of them
abbrev three : ShapeContent
three = record { m = 3; k = 1 }

abbrev got769 : Option RecState → RecState
got769 o = unwrap_or o (new_recoverer 769 1 ([] ∷ []) (Some three))

abbrev t29 : Turn
t29 = Begun 769 (Some three) ((node.Cell 0, ask.Cell (Read 769)) ∷ [])

abbrev h29 : List Turn
h29 = t29 ∷ h28

turn29 : IsTurn c h28 t29
unfolding row generation_at is_within
turn29 = (refl, ((λ e. absurd (omega (arith, e))), (omega arith, omega arith)), (record { k_low = omega arith; k_high = omega arith; m_high = omega arith }), refl)

abbrev t30 : Turn
t30 = CellTurn (node.Recoverer 769) 0 (Read 769) (Promise 513 (spelling later))

abbrev h30 : List Turn
h30 = t30 ∷ h29

turn30 : IsTurn c h29 t30
unfolding row generation_at is_within
turn30 = (ltb-true 0 1 refl, (inl (refl, at (asks_of t29) _ 0 refl refl)), refl)

abbrev t31 : Turn
t31 = RecHeard 769 (node.Cell 0) (tell.Cell (Promise 513 (spelling later))) ((node.Log 513 0, ask.Log (Lock 513)) ∷ (node.Log 513 1, ask.Log (Lock 513)) ∷ [])

abbrev h31 : List Turn
h31 = t31 ∷ h30

turn31 : IsTurn c h30 t31
unfolding row generation_at is_within
turn31 = ((record { actor = (record { there = refl; up = λ k. none_gone h30 (node.Recoverer 769) refl k }); told = (inl (refl, refl, refl)) }), (got769 (rec_at c h30 769), refl, refl))

abbrev t32 : Turn
t32 = LogTurn (node.Recoverer 769) 513 0 (Lock 513) (Locked 3 0 [])

abbrev h32 : List Turn
h32 = t32 ∷ h31

turn32 : IsTurn c h31 t32
unfolding row generation_at is_within
turn32 = ((record { there = refl; up = λ k. none_gone h31 (node.Log 513 0) refl k }), inl (inl (refl, at (asks_of t31) _ 0 refl refl)), refl, tt)

abbrev t33 : Turn
t33 = RecHeard 769 (node.Log 513 0) (tell.Log (Locked 3 0 [])) ((node.Log 513 0, ask.Log (Peek 513 0 0 100)) ∷ [])

abbrev h33 : List Turn
h33 = t33 ∷ h32

turn33 : IsTurn c h32 t33
unfolding row generation_at is_within
turn33 = ((record { actor = (record { there = refl; up = λ k. none_gone h32 (node.Recoverer 769) refl k }); told = (inl (refl, refl, refl)) }), (got769 (rec_at c h32 769), refl, refl))

abbrev t34 : Turn
t34 = LogTurn (node.Recoverer 769) 513 0 (Peek 513 0 0 100) (Peeked (record { tag = 0; after = 0; records = record { version = 2; batch = kept } ∷ []; upto = 3; known = 0 }))

abbrev h34 : List Turn
h34 = t34 ∷ h33

turn34 : IsTurn c h33 t34
unfolding row generation_at is_within
turn34 = ((record { there = refl; up = λ k. none_gone h33 (node.Log 513 0) refl k }), inl (inl (refl, at (asks_of t33) _ 0 refl refl)), refl, omega arith)

abbrev t35 : Turn
t35 = RecHeard 769 (node.Log 513 0) (tell.Log (Peeked (record { tag = 0; after = 0; records = record { version = 2; batch = kept } ∷ []; upto = 3; known = 0 }))) ((node.Log 769 0, ask.Log (Seed (record { epoch = 769; first = 1; seeded_to = 3; records = record { version = 2; tag = 0; batch = kept } ∷ [] }))) ∷ (node.Log 769 1, ask.Log (Seed (record { epoch = 769; first = 1; seeded_to = 3; records = [] }))) ∷ (node.Log 769 2, ask.Log (Seed (record { epoch = 769; first = 1; seeded_to = 3; records = [] }))) ∷ [])

abbrev h35 : List Turn
h35 = t35 ∷ h34

turn35 : IsTurn c h34 t35
unfolding row generation_at is_within
turn35 = ((record { actor = (record { there = refl; up = λ k. none_gone h34 (node.Recoverer 769) refl k }); told = (inl (refl, refl, refl)) }), (got769 (rec_at c h34 769), refl, refl))

abbrev t36 : Turn
t36 = LogTurn (node.Recoverer 769) 769 0 (Seed (record { epoch = 769; first = 1; seeded_to = 3; records = record { version = 2; tag = 0; batch = kept } ∷ [] })) (Seeded)

abbrev h36 : List Turn
h36 = t36 ∷ h35

turn36 : IsTurn c h35 t36
unfolding row generation_at is_within
turn36 = ((record { there = refl; up = λ k. none_gone h35 (node.Log 769 0) refl k }), inl (inl (refl, at (asks_of t35) _ 0 refl refl)), refl, tt)

abbrev t37 : Turn
t37 = LogTurn (node.Recoverer 769) 769 1 (Seed (record { epoch = 769; first = 1; seeded_to = 3; records = [] })) (Seeded)

abbrev h37 : List Turn
h37 = t37 ∷ h36

turn37 : IsTurn c h36 t37
unfolding row generation_at is_within
turn37 = ((record { there = refl; up = λ k. none_gone h36 (node.Log 769 1) refl k }), inl (inr (inl (refl, at (asks_of t35) _ 1 refl refl))), refl, tt)

abbrev t38 : Turn
t38 = LogTurn (node.Recoverer 769) 769 2 (Seed (record { epoch = 769; first = 1; seeded_to = 3; records = [] })) (Seeded)

abbrev h38 : List Turn
h38 = t38 ∷ h37

turn38 : IsTurn c h37 t38
unfolding row generation_at is_within
turn38 = ((record { there = refl; up = λ k. none_gone h37 (node.Log 769 2) refl k }), inl (inr (inr (inl (refl, at (asks_of t35) _ 2 refl refl)))), refl, tt)

abbrev t39 : Turn
t39 = RecHeard 769 (node.Log 769 0) (tell.Log (Seeded)) ([])

abbrev h39 : List Turn
h39 = t39 ∷ h38

turn39 : IsTurn c h38 t39
unfolding row generation_at is_within
turn39 = ((record { actor = (record { there = refl; up = λ k. none_gone h38 (node.Recoverer 769) refl k }); told = (inr (inr (inl (refl, refl, refl)))) }), (got769 (rec_at c h38 769), refl, refl))

abbrev t40 : Turn
t40 = RecHeard 769 (node.Log 769 1) (tell.Log (Seeded)) ([])

abbrev h40 : List Turn
h40 = t40 ∷ h39

turn40 : IsTurn c h39 t40
unfolding row generation_at is_within
turn40 = ((record { actor = (record { there = refl; up = λ k. none_gone h39 (node.Recoverer 769) refl k }); told = (inr (inr (inl (refl, refl, refl)))) }), (got769 (rec_at c h39 769), refl, refl))

abbrev t41 : Turn
t41 = RecHeard 769 (node.Log 769 2) (tell.Log (Seeded)) ((node.Cell 0, ask.Cell (Write 769 (spelling last))) ∷ [])

abbrev h41 : List Turn
h41 = t41 ∷ h40

turn41 : IsTurn c h40 t41
unfolding row generation_at is_within
turn41 = ((record { actor = (record { there = refl; up = λ k. none_gone h40 (node.Recoverer 769) refl k }); told = (inr (inr (inl (refl, refl, refl)))) }), (got769 (rec_at c h40 769), refl, refl))

abbrev t42 : Turn
t42 = CellTurn (node.Recoverer 769) 0 (Write 769 (spelling last)) (Written 769)

abbrev h42 : List Turn
h42 = t42 ∷ h41

turn42 : IsTurn c h41 t42
unfolding row generation_at is_within
turn42 = (ltb-true 0 1 refl, (inl (refl, at (asks_of t41) _ 0 refl refl)), refl)

abbrev t43 : Turn
t43 = RecHeard 769 (node.Cell 0) (tell.Cell (Written 769)) ((node.Log 769 0, ask.Log (Push (record { epoch = 769; prev = 3; version = 4; known = 0; bodies = []; mark = Some last }))) ∷ (node.Log 769 1, ask.Log (Push (record { epoch = 769; prev = 3; version = 4; known = 0; bodies = []; mark = Some last }))) ∷ (node.Log 769 2, ask.Log (Push (record { epoch = 769; prev = 3; version = 4; known = 0; bodies = []; mark = Some last }))) ∷ [])

abbrev h43 : List Turn
h43 = t43 ∷ h42

turn43 : IsTurn c h42 t43
unfolding row generation_at is_within
turn43 = ((record { actor = (record { there = refl; up = λ k. none_gone h42 (node.Recoverer 769) refl k }); told = (inl (refl, refl, refl)) }), (got769 (rec_at c h42 769), refl, refl))

is_run : IsRun c h43
is_run = (turn43, (turn42, (turn41, (turn40, (turn39, (turn38, (turn37, (turn36, (turn35, (turn34, (turn33, (turn32, (turn31, (turn30, (turn29, is_run28)))))))))))))))

pub survives_two_recoveries : SurvivesTwoRecoveries
unfolding row generation_at is_within
survives_two_recoveries = record {
  config = c;
  run = h43;
  is_config = record { k_low = omega arith; k_high = omega arith; m_high = omega arith };
  is_run = is_run;
  batch = kept;
  acknowledged = inr (inr (inr (inr (inr (inr (inr (inr (inr (inr (inr (inr (inr (inr (inr (inr (inr (inr (inr (inr (inr (inr (inr (inr (inr (inr (inr (inr (inr (inr (inr (inr (inr (inr (inr (inr (inl (record { proxy = 0; from = node.Log 257 1; heard = tell.Log (Held 2); asks = []; is = refl; under_way = refl })))))))))))))))))))))))))))))))))))));
  first = refl;
  second = refl;
  two = refl;
  three = refl;
  stands = at (committed c h43 769) (commit_at 257 2 kept) 1 refl refl;
}

-- The run goes on: a tag is popped, and the next recovery drops the first generation.
use Rattle.std.proofs.Common.{List, [], ◌∷◌, Option, None, Some, inl, inr, refl, arith}
use Rattle.std.specs.Prelude.{unwrap_or}
use Rattle.std.proofs.lemmas.Bool.{ltb-true, leb-true}
use Rattle.fr_base.specs.declared.place.NodeId.TheVariants as node
use Rattle.fr_register.specs.declared.ask.CellAsk.TheVariants.{Read, Write}
use Rattle.fr_register.specs.declared.ask.CellTell.TheVariants.{Promise, Written}
use Rattle.fr_state.specs.Generations.{CoordinatedState}
use Rattle.fr_state.specs.Spelling.{spelling, row}
use Rattle.fr_state.specs.Reading.{generation_at, is_within}
use Rattle.fr_log.specs.declared.ask.LogAsk.TheVariants.{Seed, Push, Lock, Peek, MarkAsked, Pop}
use Rattle.fr_log.specs.declared.ask.LogTell.TheVariants.{Seeded, Held, Locked, Peeked, Marked, Popped}
use Rattle.fr_ask.specs.declared.ask.Ask.TheVariants as ask
use Rattle.fr_ask.specs.declared.tell.Tell.TheVariants as tell
use Rattle.fr_epoch.specs.Recoverer.{RecState, new_recoverer}
use Rattle.fr_log.specs.LogState.{swept}
use Rattle.fr_storage.specs.Storage.{is_stranger}
use Rattle.fr_run.specs.Turn.{Turn, Begun, CellTurn, LogTurn, RecHeard, StorageHeard, asks_of}
use Rattle.fr_run.specs.Nodes.{rec_at}
use Rattle.fr_run.specs.Run.{IsTurn, IsRun}
use Rattle.fr_run_headline.specs.Issued.{committed}
use Rattle.fr_run_headline.specs.Committed.{commit_at}
use Rattle.fr_run_headline.proofs.Example.{none_gone, at}
use Rattle.fr_run_outcomes.specs.Example.{PopsAndDrops}
use Rattle.fr_run_outcomes.proofs.Widening.{c, one, two, later, h27, is_run27}

abbrev last : CoordinatedState
last = record { dropped = 1; gens = record { epoch = 513; m = 2; k = 1; first = 1; seeded_to = 1 } ∷ record { epoch = 769; m = 2; k = 1; first = 4; seeded_to = 4 } ∷ [] }

abbrev got769 : Option RecState → RecState
got769 o = unwrap_or o (new_recoverer 769 1 ([] ∷ []) None)

abbrev pub t28 : Turn
t28 = LogTurn (node.Storage 0) 513 0 (MarkAsked 513) (Marked later)

abbrev pub h28 : List Turn
h28 = t28 ∷ h27

turn28 : IsTurn c h27 t28
unfolding row generation_at is_within
turn28 = (record { there = refl; up = λ k. none_gone h27 (node.Log 513 0) refl k }, inr (ltb-true 0 1 refl), refl, tt)

abbrev pub t29 : Turn
t29 = StorageHeard 0 (node.Log 513 0) (tell.Log (Marked later)) None None

abbrev pub h29 : List Turn
h29 = t29 ∷ h28

turn29 : IsTurn c h28 t29
unfolding row generation_at is_within is_stranger
turn29 = (record { actor = record { there = refl; up = λ k. none_gone h28 (node.Storage 0) refl k }; told = inl (refl, refl, refl) }, refl, tt)

abbrev pub t30 : Turn
t30 = LogTurn (node.Storage 0) 513 0 (Peek 513 0 0 100) (Peeked (record { tag = 0; after = 0; records = record { version = 3; batch = one } ∷ record { version = 4; batch = two } ∷ []; upto = 4; known = 3 }))

abbrev pub h30 : List Turn
h30 = t30 ∷ h29

turn30 : IsTurn c h29 t30
unfolding row generation_at is_within
turn30 = (record { there = refl; up = λ k. none_gone h29 (node.Log 513 0) refl k }, inr (refl, ltb-true 0 1 refl), refl, omega arith)

abbrev pub t31 : Turn
t31 = StorageHeard 0 (node.Log 513 0) (tell.Log (Peeked (record { tag = 0; after = 0; records = record { version = 3; batch = one } ∷ record { version = 4; batch = two } ∷ []; upto = 4; known = 3 }))) None None

abbrev pub h31 : List Turn
h31 = t31 ∷ h30

turn31 : IsTurn c h30 t31
unfolding row generation_at is_within is_stranger
turn31 = (record { actor = record { there = refl; up = λ k. none_gone h30 (node.Storage 0) refl k }; told = inl (refl, refl, refl) }, refl, tt)

abbrev pub t32 : Turn
t32 = LogTurn (node.Storage 0) 513 0 (Pop 513 0 3) (Popped 3)

abbrev pub h32 : List Turn
h32 = t32 ∷ h31

turn32 : IsTurn c h31 t32
unfolding row generation_at is_within is_stranger
turn32 = (record { there = refl; up = λ k. none_gone h31 (node.Log 513 0) refl k }, inr (refl, ltb-true 0 1 refl, refl, leb-true 3 3 refl), refl, tt)

abbrev pub t33 : Turn
t33 = Begun 769 None ((node.Cell 0, ask.Cell (Read 769)) ∷ [])

abbrev pub h33 : List Turn
h33 = t33 ∷ h32

turn33 : IsTurn c h32 t33
unfolding row generation_at is_within
turn33 = (refl, ((λ e. absurd (omega (arith, e))), (omega arith, omega arith)), tt, refl)

abbrev pub t34 : Turn
t34 = CellTurn (node.Recoverer 769) 0 (Read 769) (Promise 513 (spelling later))

abbrev pub h34 : List Turn
h34 = t34 ∷ h33

turn34 : IsTurn c h33 t34
unfolding row generation_at is_within
turn34 = (ltb-true 0 1 refl, (inl (refl, at (asks_of t33) _ 0 refl refl)), refl)

abbrev pub t35 : Turn
t35 = RecHeard 769 (node.Cell 0) (tell.Cell (Promise 513 (spelling later))) ((node.Log 513 0, ask.Log (Lock 513)) ∷ (node.Log 513 1, ask.Log (Lock 513)) ∷ [])

abbrev pub h35 : List Turn
h35 = t35 ∷ h34

turn35 : IsTurn c h34 t35
unfolding row generation_at is_within
turn35 = (record { actor = record { there = refl; up = λ k. none_gone h34 (node.Recoverer 769) refl k }; told = inl (refl, refl, refl) }, (got769 (rec_at c h34 769), refl, refl))

abbrev pub t36 : Turn
t36 = LogTurn (node.Recoverer 769) 513 0 (Lock 513) (Locked 4 3 (record { tag = 0; version = 3 } ∷ []))

abbrev pub h36 : List Turn
h36 = t36 ∷ h35

turn36 : IsTurn c h35 t36
unfolding row generation_at is_within
turn36 = (record { there = refl; up = λ k. none_gone h35 (node.Log 513 0) refl k }, inl (inl (refl, at (asks_of t35) _ 0 refl refl)), refl, tt)

abbrev pub t37 : Turn
t37 = LogTurn (node.Recoverer 769) 513 1 (Lock 513) (Locked 4 3 [])

abbrev pub h37 : List Turn
h37 = t37 ∷ h36

turn37 : IsTurn c h36 t37
unfolding row generation_at is_within
turn37 = (record { there = refl; up = λ k. none_gone h36 (node.Log 513 1) refl k }, inl (inr (inl (refl, at (asks_of t35) _ 1 refl refl))), refl, tt)

abbrev pub t38 : Turn
t38 = RecHeard 769 (node.Log 513 0) (tell.Log (Locked 4 3 (record { tag = 0; version = 3 } ∷ []))) []

abbrev pub h38 : List Turn
h38 = t38 ∷ h37

turn38 : IsTurn c h37 t38
unfolding row generation_at is_within
turn38 = (record { actor = record { there = refl; up = λ k. none_gone h37 (node.Recoverer 769) refl k }; told = inr (inl (refl, refl, refl)) }, (got769 (rec_at c h37 769), refl, refl))

abbrev pub t39 : Turn
t39 = RecHeard 769 (node.Log 513 1) (tell.Log (Locked 4 3 [])) ((node.Log 513 0, ask.Log (Peek 513 0 3 100)) ∷ [])

abbrev pub h39 : List Turn
h39 = t39 ∷ h38

turn39 : IsTurn c h38 t39
unfolding row generation_at is_within
turn39 = (record { actor = record { there = refl; up = λ k. none_gone h38 (node.Recoverer 769) refl k }; told = inr (inl (refl, refl, refl)) }, (got769 (rec_at c h38 769), refl, refl))

abbrev pub t40 : Turn
t40 = LogTurn (node.Recoverer 769) 513 0 (Peek 513 0 3 100) (Peeked (record { tag = 0; after = 3; records = record { version = 4; batch = two } ∷ []; upto = 4; known = 3 }))

abbrev pub h40 : List Turn
h40 = t40 ∷ h39

turn40 : IsTurn c h39 t40
unfolding row generation_at is_within
turn40 = (record { there = refl; up = λ k. none_gone h39 (node.Log 513 0) refl k }, inl (inl (refl, at (asks_of t39) _ 0 refl refl)), refl, omega arith)

abbrev pub t41 : Turn
t41 = RecHeard 769 (node.Log 513 0) (tell.Log (Peeked (record { tag = 0; after = 3; records = record { version = 4; batch = two } ∷ []; upto = 4; known = 3 }))) ((node.Log 769 0, ask.Log (Seed (record { epoch = 769; first = 4; seeded_to = 4; records = record { version = 4; tag = 0; batch = two } ∷ [] }))) ∷ (node.Log 769 1, ask.Log (Seed (record { epoch = 769; first = 4; seeded_to = 4; records = [] }))) ∷ [])

abbrev pub h41 : List Turn
h41 = t41 ∷ h40

turn41 : IsTurn c h40 t41
unfolding row generation_at is_within
turn41 = (record { actor = record { there = refl; up = λ k. none_gone h40 (node.Recoverer 769) refl k }; told = inl (refl, refl, refl) }, (got769 (rec_at c h40 769), refl, refl))

abbrev pub t42 : Turn
t42 = LogTurn (node.Recoverer 769) 769 0 (Seed (record { epoch = 769; first = 4; seeded_to = 4; records = record { version = 4; tag = 0; batch = two } ∷ [] })) (Seeded)

abbrev pub h42 : List Turn
h42 = t42 ∷ h41

turn42 : IsTurn c h41 t42
unfolding row generation_at is_within
turn42 = (record { there = refl; up = λ k. none_gone h41 (node.Log 769 0) refl k }, inl (inl (refl, at (asks_of t41) _ 0 refl refl)), refl, tt)

abbrev pub t43 : Turn
t43 = LogTurn (node.Recoverer 769) 769 1 (Seed (record { epoch = 769; first = 4; seeded_to = 4; records = [] })) (Seeded)

abbrev pub h43 : List Turn
h43 = t43 ∷ h42

turn43 : IsTurn c h42 t43
unfolding row generation_at is_within
turn43 = (record { there = refl; up = λ k. none_gone h42 (node.Log 769 1) refl k }, inl (inr (inl (refl, at (asks_of t41) _ 1 refl refl))), refl, tt)

abbrev pub t44 : Turn
t44 = RecHeard 769 (node.Log 769 0) (tell.Log (Seeded)) []

abbrev pub h44 : List Turn
h44 = t44 ∷ h43

turn44 : IsTurn c h43 t44
unfolding row generation_at is_within
turn44 = (record { actor = record { there = refl; up = λ k. none_gone h43 (node.Recoverer 769) refl k }; told = inr (inl (refl, refl, refl)) }, (got769 (rec_at c h43 769), refl, refl))

abbrev pub t45 : Turn
t45 = RecHeard 769 (node.Log 769 1) (tell.Log (Seeded)) ((node.Cell 0, ask.Cell (Write 769 (spelling last))) ∷ [])

abbrev pub h45 : List Turn
h45 = t45 ∷ h44

turn45 : IsTurn c h44 t45
unfolding row generation_at is_within
turn45 = (record { actor = record { there = refl; up = λ k. none_gone h44 (node.Recoverer 769) refl k }; told = inr (inl (refl, refl, refl)) }, (got769 (rec_at c h44 769), refl, refl))

abbrev pub t46 : Turn
t46 = CellTurn (node.Recoverer 769) 0 (Write 769 (spelling last)) (Written 769)

abbrev pub h46 : List Turn
h46 = t46 ∷ h45

turn46 : IsTurn c h45 t46
unfolding row generation_at is_within
turn46 = (ltb-true 0 1 refl, (inl (refl, at (asks_of t45) _ 0 refl refl)), refl)

abbrev pub t47 : Turn
t47 = RecHeard 769 (node.Cell 0) (tell.Cell (Written 769)) ((node.Log 769 0, ask.Log (Push (record { epoch = 769; prev = 4; version = 5; known = 3; bodies = []; mark = Some last }))) ∷ (node.Log 769 1, ask.Log (Push (record { epoch = 769; prev = 4; version = 5; known = 3; bodies = []; mark = Some last }))) ∷ [])

abbrev pub h47 : List Turn
h47 = t47 ∷ h46

turn47 : IsTurn c h46 t47
unfolding row generation_at is_within
turn47 = (record { actor = record { there = refl; up = λ k. none_gone h46 (node.Recoverer 769) refl k }; told = inl (refl, refl, refl) }, (got769 (rec_at c h46 769), refl, refl))

abbrev pub t48 : Turn
t48 = LogTurn (node.Recoverer 769) 769 0 (Push (record { epoch = 769; prev = 4; version = 5; known = 3; bodies = []; mark = Some last })) (Held 5)

abbrev pub h48 : List Turn
h48 = t48 ∷ h47

turn48 : IsTurn c h47 t48
unfolding row generation_at is_within
turn48 = (record { there = refl; up = λ k. none_gone h47 (node.Log 769 0) refl k }, inl (inl (refl, at (asks_of t47) _ 0 refl refl)), refl, tt)

abbrev pub t49 : Turn
t49 = LogTurn (node.Storage 0) 769 0 (MarkAsked 769) (Marked last)

abbrev pub h49 : List Turn
h49 = t49 ∷ h48

turn49 : IsTurn c h48 t49
unfolding row generation_at is_within
turn49 = (record { there = refl; up = λ k. none_gone h48 (node.Log 769 0) refl k }, inr (ltb-true 0 1 refl), refl, tt)

abbrev pub t50 : Turn
t50 = StorageHeard 0 (node.Log 769 0) (tell.Log (Marked last)) None None

abbrev pub h50 : List Turn
h50 = t50 ∷ h49

turn50 : IsTurn c h49 t50
unfolding row generation_at is_within is_stranger
turn50 = (record { actor = record { there = refl; up = λ k. none_gone h49 (node.Storage 0) refl k }; told = inl (refl, refl, refl) }, refl, tt)

is_run : IsRun c h50
is_run = (turn50, (turn49, (turn48, (turn47, (turn46, (turn45, (turn44, (turn43, (turn42, (turn41, (turn40, (turn39, (turn38, (turn37, (turn36, (turn35, (turn34, (turn33, (turn32, (turn31, (turn30, (turn29, (turn28, is_run27)))))))))))))))))))))))

pub pops_and_drops : PopsAndDrops
unfolding row generation_at is_within is_stranger swept
pops_and_drops = record {
  config = c;
  run = h50;
  is_config = record { k_low = omega arith; k_high = omega arith; m_high = omega arith };
  is_run = is_run;
  batch = one;
  acknowledged = inr (inr (inr (inr (inr (inr (inr (inr (inr (inr (inr (inr (inr (inr (inr (inr (inr (inr (inr (inr (inr (inr (inr (inr (inr (inr (inr (inr (inl (record { proxy = 0; from = node.Log 513 1; heard = tell.Log (Held 3); asks = []; is = refl; under_way = refl })))))))))))))))))))))))))))));
  before = refl;
  after = refl;
  popped = refl;
  all = refl;
  rest = refl;
  floor = refl;
  copy = record { tag = 0; after = 3; records = record { version = 4; batch = two } ∷ []; upto = 4; known = 3 };
  copied = at h50 _ 10 refl refl;
  open_last = refl;
  dropped = refl;
  left = refl;
  kept = refl;
  stands = at (committed c h50 769) (commit_at 513 3 one) 2 refl refl;
}

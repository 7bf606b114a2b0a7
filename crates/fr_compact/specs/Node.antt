-- A machine over a file that lets go of what the machine no longer needs.
use Rattle.std.specs.Prelude.{◌≡◌, ◌⊎◌, ℕ, Bool, true, false, List, ◌++◌, Option, None, Some, All, Result, Ok, Err}
use Rattle.fr_base.specs.Faults.{is_device}
use Rattle.fr_record_node.specs.Several.{after_all, written_all}
use Rattle.fr_record_node.specs.Replay.{replayed}
use Rattle.fr_compact.specs.declared.compact_node.held.Held.{Held}
use Rattle.fr_compact.specs.declared.compact_node.held.Unserved.{Unserved}

-- a node: its file, its machine, and the state to which the asks lead that met a fault of the device
pub record CompactState (F M : Type 0) : Type 0 where
  pub file : F
  pub machine : M
  pub owed : Option M

-- where the asks lead that are held, their records, and whether each is an ask
abbrev pub after_held : {M A : Type 0} → (M → A → M) → M → Held A → M
after_held after m held = after_all after m held.asks.items

abbrev pub written_held : {M A : Type 0} → (M → A → M) → (M → A → List (List ℕ)) → M → Held A → List (List ℕ)
written_held after written m held = written_all after written m held.asks.items

abbrev pub AreAsks : {A : Type 0} → (A → Type 0) → Held A → Type 0
AreAsks IsAsk held = All IsAsk held.asks.items

-- whether their records were on the way to the file
abbrev pub is_in_flight : {A : Type 0} → Held A → Bool
is_in_flight held = held.is_in_flight

-- whether asks met a fault of the device
abbrev pub met_fault : {T : Type 0} → Result T Unserved → Bool
met_fault (Ok x) = false
met_fault (Err unserved) = is_device unserved.fault

-- a crash now leaves the records of a file, or those that it owes
abbrev pub LeavesOwn : {F : Type 0} → (F → List (List ℕ)) → (F → Option (List (List ℕ))) → ((List (List ℕ) → Type 0) → F → F → Type 0) → F → Type 0
LeavesOwn records owed Throughout file = Throughout (λ rs. (rs ≡ records file) ⊎ (owed file ≡ Some rs)) file file

-- what is true of every node: of its file, its machine, and the asks that met a fault of the device
pub record IsNode {F M A : Type 0} (records : F → List (List ℕ)) (is_failed : F → Bool) (owed : F → Option (List (List ℕ))) (Throughout : (List (List ℕ) → Type 0) → F → F → Type 0) (fresh : M → M) (replay : M → List ℕ → Option M) (written : M → A → List (List ℕ)) (IsAsk : A → Type 0) (IsSound : M → Type 0) (flies : A → Bool) (held : Option A) (file : F) (m : M) : Type 0 where
  -- the records lead to the state
  pub replays : replayed replay (Some (fresh m)) (records file) ≡ Some m
  pub sound : IsSound m
  pub leaves : LeavesOwn records owed Throughout file
  pub idle : is_failed file ≡ false → held ≡ None
  pub asked : (ask : A) → held ≡ Some ask → IsAsk ask
  -- the records that the file owes lead to the state too, if no asks are held, or they were not in flight
  pub alone : held ≡ None → (rs : List (List ℕ)) → owed file ≡ Some rs → replayed replay (Some (fresh m)) rs ≡ Some m
  pub resting : (ask : A) → held ≡ Some ask → flies ask ≡ false → (rs : List (List ℕ)) → owed file ≡ Some rs → replayed replay (Some (fresh m)) rs ≡ Some m
  -- if they were in flight, those are the records of the file, and then those of the asks
  pub flying : (ask : A) → held ≡ Some ask → flies ask ≡ true → (rs : List (List ℕ)) → owed file ≡ Some rs → rs ≡ records file ++ written m ask

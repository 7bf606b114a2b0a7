use Rattle.std.proofs.Common.{◌≡◌, Bool, false, map, None}
use Rattle.std.specs.Prelude.{◌≢◌, Contains, IfSome}
use Rattle.fr_undo.specs.declared.fault.StoreFault.TheVariants.{Failed}
use Rattle.fr_state.specs.Generations.{CoordinatedState}
use Rattle.fr_storage.specs.declared.answer.LogAnswer.{LogAnswer}
use Rattle.fr_storage.specs.Storage.{StorageState}
use Rattle.fr_storage.specs.Server.{storage_of, IsMarkTrouble}
use Rattle.fr_storage.specs.Follows.{Pieces, ArePieces}
use Rattle.fr_storage.specs.Course.{AreOneChain, IsChosenBy}
use Rattle.fr_storage.specs.Standing.{heard_of, after_hears, LeadTo, IsStanding, AreTrueTo}
use Rattle.fr_storage.proofs.storage.Storage.follow_all.Given as goal

-- what is left of the answers, heard by the server so far, is all of them heard by the first one
abbrev pub invariant-loop-answer : goal.invariant-loop-answer
invariant-loop-answer g l = record {
  can_next : (goal.iterator-loop-answer g).can_next l.answer-iterator;
  is_finite : (goal.iterator-loop-answer g).is_finite l.answer-iterator;
  whole : l.met ≡ None → after_hears (storage_of g.S.ShardStore.state l.fn.self) l.fn.answers.items ≡ after_hears (storage_of g.S.ShardStore.state l.self) l.answer-iterator.rest.items;
  met : IfSome l.met (λ fault. fault ≢ Failed → IsMarkTrouble g.S.ShardStore.CanMeet g.S.ShardStore.CanMeetInPlace fault);
  works : l.fn.self.failed ≡ false → l.self.failed ≡ false;
  course : l.fn.self.failed ≡ false → (n : StorageState) → LeadTo (storage_of g.S.ShardStore.state l.self) l.answer-iterator.rest.items n → LeadTo (storage_of g.S.ShardStore.state l.fn.self) l.fn.answers.items n;
  among : (a : LogAnswer) → Contains l.answer-iterator.rest.items a → Contains l.fn.answers.items a;
  standing : (pieces : Pieces) (is_chosen : CoordinatedState → Bool) → ArePieces pieces → AreOneChain pieces (IsChosenBy is_chosen) → AreTrueTo g.S.ShardStore.state g.S.ShardStore.MayLeave pieces (IsChosenBy is_chosen) (map heard_of l.fn.answers.items) l.fn.self → IsStanding g.S.ShardStore.state g.S.ShardStore.MayLeave pieces (IsChosenBy is_chosen) l.fn.self → IsStanding g.S.ShardStore.state g.S.ShardStore.MayLeave pieces (IsChosenBy is_chosen) l.self × AreTrueTo g.S.ShardStore.state g.S.ShardStore.MayLeave pieces (IsChosenBy is_chosen) (map heard_of l.answer-iterator.rest.items) l.self;
}

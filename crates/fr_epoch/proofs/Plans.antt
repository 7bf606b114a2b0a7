-- The plan of a recoverer is of its ballot, and starts and was seeded as the copy says.
use Rattle.std.proofs.Common.{◌≡◌, ◌+◌, refl, sym, ◌∙◌, ap, subst}
use Rattle.fr_tail.specs.Tail.{TailState, after_hear as after_peeked}
use Rattle.fr_tail.specs.Law.{HearKeepsEnds}
use Rattle.fr_epoch.specs.Recoverer.{RecState, Plan}
use Rattle.fr_epoch.specs.Words.{Word, word_of}
use Rattle.fr_epoch.specs.Hear.{plan_of, after_hear}
use Rattle.fr_epoch.specs.Change.{replied, Change, Stands, LosesReads, Reads, Finds, Locks, LosesLocks, Plans, Copies, Seeds, SeedsAll, Writes, LosesWrites, Chooses, Marks}
use Rattle.fr_epoch.specs.Law.{IsPlanOf, HasSoundPlan, HearLeavesPlan}
use Rattle.fr_epoch.proofs.Changes.{hear_is_change}

sound : HearKeepsEnds → (w : Word) (r n : RecState) → Change r w n → HasSoundPlan r → HasSoundPlan n
sound ends w r n Stands h = h
sound ends w r n (LosesReads i t why at) h = h
sound ends w r n (Reads i t at) h = h
sound ends w r n (Finds i t s g at is) h = h
sound ends w r n (Locks p end i durable known popped at) h = h
sound ends w r n (LosesLocks p end i durable known popped why at) h = h
sound ends w r n (Plans p end i durable known popped s at is) h = λ q e. (
    let d : plan_of r p (replied end i durable known) s ≡ q = cc in
    subst (IsPlanOf r.ballot) d (record { epoch = refl; first = refl; seeded_to = refl }))
sound ends w r n (Copies parent p i peeked at) h = λ q e. (
    let t : TailState = after_peeked p.tail i peeked.tag peeked in
    let m : Plan = record { state = p.state; generation = p.generation; tail = t } in
    let d : m ≡ q = cc in
    let k = h p at.plan in
    let same = ends p.tail i peeked.tag peeked in
    subst (IsPlanOf r.ballot) d (record { epoch = k.epoch; first = k.first ∙ ap (λ v. v + 1) (sym same.pev); seeded_to = k.seeded_to ∙ sym same.rv }))
sound ends w r n (Seeds p i at l) h = h
sound ends w r n (SeedsAll p i at l) h = h
sound ends w r n (Writes i t at) h = h
sound ends w r n (LosesWrites i t why at) h = h
sound ends w r n (Chooses i t at m) h = h
sound ends w r n (Marks p i at) h = h

pub hear_leaves_plan : HearKeepsEnds → HearLeavesPlan
hear_leaves_plan ends r from t h = sound ends (word_of from t) r (after_hear r from t) (hear_is_change r from t) h

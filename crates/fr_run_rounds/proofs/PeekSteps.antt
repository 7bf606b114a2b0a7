-- What one hear brings of a tag that is copied: nothing, 100 records, or the rest.
use Rattle.std.proofs.Common.{◌≡◌, ℕ, ◌+◌, ◌<◌, ◌≤◌, Bool, true, false, nat_lt, nat_le, ◌==◌, ◌&&◌, filter, min, length, length-append, List, None, Some, inl, inr, ◌⊎◌, refl, sym, ◌∙◌, ap, subst, arith}
use Rattle.std.specs.List.{list_any}
use Rattle.std.proofs.lemmas.Bool.{and_parts, eqb-true, eqb-false, ltb-true, true≢false}
use Rattle.std.proofs.lemmas.List.{get_or-set_same, get_or-set_other}
use Rattle.std.proofs.lemmas.List.Folds.{list_all_at}
use Rattle.fr_base.specs.declared.place.NodeId.{NodeId}
use Rattle.fr_base.specs.declared.place.NodeId.TheVariants as node
use Rattle.fr_tags.specs.CoverLaw.{CoveringMeetsEachTag}
use Rattle.fr_tags.specs.Placement.{is_held}
use Rattle.fr_log.specs.declared.ask.LogTell.TheVariants.{Peeked}
use Rattle.fr_log.specs.Peeked.{PeekedContent}
use Rattle.fr_ask.specs.declared.tell.Tell.{Tell}
use Rattle.fr_ask.specs.declared.tell.Tell.TheVariants as tell
use Rattle.fr_tail.specs.Tail.{TailState, TagPart, new_part, part_at, is_complete, is_responder, longer, with_part, after_hear as after_peeked}
use Rattle.fr_epoch.specs.Recoverer.{RecState, Parent, Plan, Reading, Locking, Copying, Writing, Chosen, is_copied_in, is_copied}
use Rattle.fr_epoch.specs.Words.{Word, word_of}
use Rattle.fr_epoch.specs.Hear.{after_hear}
use Rattle.fr_epoch.specs.Change.{Change, Stands, LosesReads, Reads, Finds, Locks, LosesLocks, Plans, Copies, Seeds, SeedsAll, Writes, LosesWrites, Chooses, Marks}
use Rattle.fr_epoch.specs.Going.{goes_on}
use Rattle.fr_epoch.proofs.Goings.{stays, moves}
use Rattle.fr_run.specs.Config.{Config}
use Rattle.fr_run.specs.Turn.{Turn, Told}
use Rattle.fr_run.specs.Nodes.{rec_at}
use Rattle.fr_run.specs.Run.{IsRun}
use Rattle.fr_run.specs.StateLaws.{IsConfig}
use Rattle.fr_run.specs.Laws.{Laws}
use Rattle.fr_run.proofs.Growth.{rec_is}
use Rattle.fr_run_headline.specs.Contents.{PeeksAreTrue, CopiesAreTrue}
use Rattle.fr_run_headline.specs.LetGo.{CopyIsNeverRemoved}
use Rattle.fr_run_headline.proofs.Locks.{of_log}
use Rattle.fr_run_rounds.proofs.Along.{Keeps}
use Rattle.fr_run_rounds.proofs.Behind.{HasPlanOf, plan_keeps, parent_keeps}
use Rattle.fr_run_rounds.proofs.PeekAnswers.{brings_whole}

-- ---- the part of a tag

-- so many records of a tag are copied, or all
abbrev pub Brought : ℕ → ℕ → Plan → Type 0
Brought tag n q = ((part_at q.tail tag).reached ≡ q.tail.rv) ⊎ (n ≤ length (part_at q.tail tag).records)

-- a tag is copied through a version, with at least so many records
pub record Still (tag v n : ℕ) (q : Plan) : Type 0 where
  pub reached : (part_at q.tail tag).reached ≡ v
  pub records : n ≤ length (part_at q.tail tag).records

-- one answer brings all of a tag, or 100 records more
abbrev pub Further : ℕ → Plan → Plan → Type 0
Further tag q x = ((part_at q.tail tag).reached < q.tail.rv) × (((part_at x.tail tag).reached ≡ x.tail.rv) ⊎ (length (part_at q.tail tag).records + 100 ≤ length (part_at x.tail tag).records))

-- what it makes of a tag: nothing, or that
pub record Steps (tag : ℕ) (q x : Plan) : Type 0 where
  pub rv : x.tail.rv ≡ q.tail.rv
  pub grows : length (part_at q.tail tag).records ≤ length (part_at x.tail tag).records
  pub step : (part_at x.tail tag ≡ part_at q.tail tag) ⊎ Further tag q x

-- an answer that goes on
pub record Goes (s : TailState) (i : ℕ) (peeked : PeekedContent) : Type 0 where
  pub at : peeked.after ≡ (part_at s peeked.tag).reached
  pub short : peeked.after < s.rv
  pub there : peeked.tag < length s.parts

pub goes : (s : TailState) (i : ℕ) (peeked : PeekedContent) → goes_on s i peeked ≡ true → Goes s i peeked
goes s i peeked moved =
    let all = and_parts (is_responder s i peeked.tag) ((peeked.after == (part_at s peeked.tag).reached) && (nat_lt peeked.after s.rv && nat_lt peeked.after peeked.upto)) moved in
    let next = and_parts (peeked.after == (part_at s peeked.tag).reached) (nat_lt peeked.after s.rv && nat_lt peeked.after peeked.upto) all.1 in
    let ends = and_parts (nat_lt peeked.after s.rv) (nat_lt peeked.after peeked.upto) next.1 in
    let own = and_parts (list_any (λ r. r == i) s.responders) (is_held peeked.tag s.m s.k i && nat_lt peeked.tag (length s.parts)) all.0 in
    let held = and_parts (is_held peeked.tag s.m s.k i) (nat_lt peeked.tag (length s.parts)) own.1 in
    record {
      at = eqb-true peeked.after (part_at s peeked.tag).reached next.0;
      short = ltb-true peeked.after s.rv ends.0;
      there = ltb-true peeked.tag (length s.parts) held.1;
    }

-- an answer to a peek, if it brings all through the end of the copy or 100 records
pub peek_steps : (q : Plan) (i : ℕ) (peeked : PeekedContent) → (goes_on q.tail i peeked ≡ true → (q.tail.rv ≤ peeked.upto) ⊎ (100 ≤ length (filter (λ x. nat_le x.version q.tail.rv) peeked.records)))
    → (tag : ℕ) → Steps tag q (record q { tail = after_peeked q.tail i peeked.tag peeked })
peek_steps q i peeked whole tag = go (goes_on q.tail i peeked) refl
  where
    other : (x : Plan) → x.tail ≡ q.tail → Steps tag q x
    other x same = record {
      rv = ap (λ (s : TailState). s.rv) same;
      grows = (let size = ap (λ (s : TailState). length (part_at s tag).records) same in omega (arith, size));
      step = inl (ap (λ (s : TailState). part_at s tag) same);
    }

    further : goes_on q.tail i peeked ≡ true → (b : Bool) → (tag == peeked.tag) ≡ b → Steps tag q (record q { tail = with_part q.tail peeked.tag (longer q.tail.rv (part_at q.tail peeked.tag) peeked) })
    further e false f = record { rv = refl; grows = (let size = ap (λ (x : TagPart). length x.records) left in omega (arith, size)); step = inl left }
      where
        left : part_at (with_part q.tail peeked.tag (longer q.tail.rv (part_at q.tail peeked.tag) peeked)) tag ≡ part_at q.tail tag
        left = get_or-set_other q.tail.parts peeked.tag tag (longer q.tail.rv (part_at q.tail peeked.tag) peeked) (new_part q.tail.pev) (eqb-false tag peeked.tag f)
    further e true f = record { rv = refl; grows = rises; step = inr (short, elim (whole e) [ inl far ↦ inl (all far) | inr many ↦ inr (more many) ]) }
      where
        g : Goes q.tail i peeked
        g = goes q.tail i peeked e

        same : tag ≡ peeked.tag
        same = eqb-true tag peeked.tag f

        is : part_at (with_part q.tail peeked.tag (longer q.tail.rv (part_at q.tail peeked.tag) peeked)) tag ≡ longer q.tail.rv (part_at q.tail peeked.tag) peeked
        is =
            ap (part_at (with_part q.tail peeked.tag (longer q.tail.rv (part_at q.tail peeked.tag) peeked))) same
            ∙ get_or-set_same q.tail.parts peeked.tag (longer q.tail.rv (part_at q.tail peeked.tag) peeked) (new_part q.tail.pev) g.there

        before : part_at q.tail tag ≡ part_at q.tail peeked.tag
        before = ap (part_at q.tail) same

        short : (part_at q.tail tag).reached < q.tail.rv
        short = (let at = g.at in let less = g.short in let own = ap (λ (x : TagPart). x.reached) before in omega (arith, at, less, own))

        all : q.tail.rv ≤ peeked.upto → (part_at (with_part q.tail peeked.tag (longer q.tail.rv (part_at q.tail peeked.tag) peeked)) tag).reached ≡ q.tail.rv
        all far = ap (λ (x : TagPart). x.reached) is ∙ (let m : min peeked.upto q.tail.rv ≡ q.tail.rv = omega (arith, far) in m)

        rises : length (part_at q.tail tag).records ≤ length (part_at (with_part q.tail peeked.tag (longer q.tail.rv (part_at q.tail peeked.tag) peeked)) tag).records
        rises =
            let size = ap (λ (x : TagPart). length x.records) is in
            let both = length-append (part_at q.tail peeked.tag).records (filter (λ x. nat_le x.version q.tail.rv) peeked.records) in
            let own = ap (λ (x : TagPart). length x.records) before in
            omega (arith, size, both, own)

        more : 100 ≤ length (filter (λ x. nat_le x.version q.tail.rv) peeked.records)
            → length (part_at q.tail tag).records + 100 ≤ length (part_at (with_part q.tail peeked.tag (longer q.tail.rv (part_at q.tail peeked.tag) peeked)) tag).records
        more many =
            let size = ap (λ (x : TagPart). length x.records) is in
            let both = length-append (part_at q.tail peeked.tag).records (filter (λ x. nat_le x.version q.tail.rv) peeked.records) in
            let own = ap (λ (x : TagPart). length x.records) before in
            omega (arith, size, both, own, many)

    go : (b : Bool) → goes_on q.tail i peeked ≡ b → Steps tag q (record q { tail = after_peeked q.tail i peeked.tag peeked })
    go false e = other (record q { tail = after_peeked q.tail i peeked.tag peeked }) (stays q.tail i peeked e)
    go true e = subst (λ (s : TailState). Steps tag q (record q { tail = s })) (sym (moves q.tail i peeked e)) (further e (tag == peeked.tag) refl)

-- what was brought stays so
brought_on : (tag n : ℕ) (q x : Plan) → Steps tag q x → Brought tag n q → Brought tag n x
brought_on tag n q x k before = go k.step before
  where
    go : (part_at x.tail tag ≡ part_at q.tail tag) ⊎ Further tag q x → Brought tag n q → Brought tag n x
    go (inl same) (inl full) = inl (ap (λ (p : TagPart). p.reached) same ∙ full ∙ sym k.rv)
    go (inl same) (inr many) = inr (let size = ap (λ (p : TagPart). length p.records) same in omega (arith, size, many))
    go (inr (short, all)) (inl full) = absurd (omega (arith, short, full))
    go (inr (short, inl all)) (inr many) = inl all
    go (inr (short, inr more)) (inr many) = inr (omega (arith, more, many))

-- a tag stands still, or 100 records more are brought
still_on : (tag v n : ℕ) (q x : Plan) → Steps tag q x → Still tag v n q → Still tag v n x ⊎ Brought tag (n + 100) x
still_on tag v n q x k before = go k.step
  where
    records : n ≤ length (part_at q.tail tag).records
    records = before.records

    go : (part_at x.tail tag ≡ part_at q.tail tag) ⊎ Further tag q x → Still tag v n x ⊎ Brought tag (n + 100) x
    go (inl same) = inl (record { reached = ap (λ (p : TagPart). p.reached) same ∙ before.reached; records = (let size = ap (λ (p : TagPart). length p.records) same in omega (arith, size, records)) })
    go (inr (short, inl all)) = inr (inl all)
    go (inr (short, inr more)) = inr (inr (omega (arith, more, records)))

-- ---- one hear

-- what holds of the nodes
pub record PeekRules (c : Config) : Type 0 where
  pub laws : Laws
  pub config : IsConfig c
  pub truths : PeeksAreTrue
  pub copies : CopiesAreTrue
  pub never : CopyIsNeverRemoved
  pub meets : CoveringMeetsEachTag

-- what a hear makes of a plan
record StepsTo (tag : ℕ) (q : Plan) (n : RecState) : Type 0 where
  plan : Plan
  is : n.plan ≡ Some plan
  steps : Steps tag q plan

stands : (tag : ℕ) (q : Plan) (n : RecState) → n.plan ≡ Some q → StepsTo tag q n
stands tag q n at = record { plan = q; is = at; steps = record { rv = refl; grows = omega arith; step = inl refl } }

steps_change : (c : Config) → PeekRules c → (h : List Turn) → IsRun c h → (b : ℕ) (r : RecState) → rec_at c h b ≡ Some r → (from : NodeId) (u : Tell) → Told h from (node.Recoverer b) u → (q : Plan) → r.plan ≡ Some q → (tag : ℕ) → tag < length c.begins
    → (n : RecState) → Change r (word_of from u) n → StepsTo tag q n
steps_change c rules h run b r at from u told q plan tag inside n Stands = stands tag q n plan
steps_change c rules h run b r at from u told q plan tag inside n (LosesReads i t y heard) = stands tag q n plan
steps_change c rules h run b r at from u told q plan tag inside n (Reads i t heard) = stands tag q n plan
steps_change c rules h run b r at from u told q plan tag inside n (Finds i t s g heard found) = stands tag q n plan
steps_change c rules h run b r at from u told q plan tag inside n (Locks p end i d f ps heard) = stands tag q n plan
steps_change c rules h run b r at from u told q plan tag inside n (LosesLocks p end i d f ps y heard) = stands tag q n plan
steps_change c rules h run b r at from u told q plan tag inside n (Plans p end i d f ps s heard fixed) =
    (let d : None ≡ Some q = sym ((rec_is rules.laws c h run b r at).kept.come_by.locking heard.phase) ∙ plan in absurd (cc))
steps_change c rules h run b r at from u told q plan tag inside n (Copies parent p i peeked given) = record { plan = record p { tail = after_peeked p.tail i peeked.tag peeked }; is = refl; steps = subst (λ x. Steps tag x (record p { tail = after_peeked p.tail i peeked.tag peeked })) same (peek_steps p i peeked whole tag) }
  where
    same : p ≡ q
    same = (let two : Some p ≡ Some q = sym given.plan ∙ plan in cc)

    heard : Told h (node.Log parent.last.epoch i) (node.Recoverer b) (tell.Log (Peeked peeked))
    heard = (let w = of_log from u parent.last.epoch i (Peeked peeked) given.word in subst (λ x. Told h (node.Log parent.last.epoch i) (node.Recoverer b) x) w.said (subst (λ x. Told h x (node.Recoverer b) u) w.sender told))

    whole : goes_on p.tail i peeked ≡ true → (p.tail.rv ≤ peeked.upto) ⊎ (100 ≤ length (filter (λ x. nat_le x.version p.tail.rv) peeked.records))
    whole e =
        brings_whole rules.laws rules.truths c h rules.config run b parent.last.epoch i peeked heard
        (let there = (goes p.tail i peeked e).there in let tags = (rules.copies c h rules.config run b r parent p at given.parent_is given.plan).tags in omega (arith, there, tags)) r p at given.plan
steps_change c rules h run b r at from u told q plan tag inside n (Seeds p i new not_yet) = stands tag q n plan
steps_change c rules h run b r at from u told q plan tag inside n (SeedsAll p i new all) = stands tag q n plan
steps_change c rules h run b r at from u told q plan tag inside n (Writes i t heard) = stands tag q n plan
steps_change c rules h run b r at from u told q plan tag inside n (LosesWrites i t y heard) = stands tag q n plan
steps_change c rules h run b r at from u told q plan tag inside n (Chooses i t heard m) = stands tag q n plan
steps_change c rules h run b r at from u told q plan tag inside n (Marks p i new) = stands tag q n plan

-- a recoverer that copies still copies after a hear, or its copy was complete
copying_on : (r : RecState) (w : Word) (n : RecState) → Change r w n → r.phase ≡ Copying → (n.phase ≡ Copying) ⊎ (is_copied r ≡ true)
copying_on r w n Stands phase = inl phase
copying_on r w n (LosesReads i t y heard) phase = (let d : Reading ≡ Copying = sym heard.phase ∙ phase in absurd (cc))
copying_on r w n (Reads i t heard) phase = (let d : Reading ≡ Copying = sym heard.phase ∙ phase in absurd (cc))
copying_on r w n (Finds i t s g heard found) phase = (let d : Reading ≡ Copying = sym heard.phase ∙ phase in absurd (cc))
copying_on r w n (Locks p end i d f ps heard) phase = (let x : Locking ≡ Copying = sym heard.phase ∙ phase in absurd (cc))
copying_on r w n (LosesLocks p end i d f ps y heard) phase = (let x : Locking ≡ Copying = sym heard.phase ∙ phase in absurd (cc))
copying_on r w n (Plans p end i d f ps s heard fixed) phase = (let x : Locking ≡ Copying = sym heard.phase ∙ phase in absurd (cc))
copying_on r w n (Copies parent p i peeked given) phase = inl given.phase
copying_on r w n (Seeds p i new not_yet) phase = inl new.phase
copying_on r w n (SeedsAll p i new all) phase = inr new.copied
copying_on r w n (Writes i t heard) phase = (let d : Writing ≡ Copying = sym heard.phase ∙ phase in absurd (cc))
copying_on r w n (LosesWrites i t y heard) phase = (let d : Writing ≡ Copying = sym heard.phase ∙ phase in absurd (cc))
copying_on r w n (Chooses i t heard m) phase = (let d : Writing ≡ Copying = sym heard.phase ∙ phase in absurd (cc))
copying_on r w n (Marks p i new) phase = (let d : Chosen ≡ Copying = sym new.phase ∙ phase in absurd (cc))

-- of a complete copy each tag is copied through its end
full_tag : (s : TailState) (tag : ℕ) → is_complete s ≡ true → tag < length s.parts → (part_at s tag).reached ≡ s.rv
full_tag s tag whole inside = go ((part_at s tag).reached == s.rv) refl
  where
    go : (b : Bool) → ((part_at s tag).reached == s.rv) ≡ b → (part_at s tag).reached ≡ s.rv
    go true e = eqb-true (part_at s tag).reached s.rv e
    go false e = absurd (true≢false (sym whole ∙ list_all_at (λ (x : TagPart). x.reached == s.rv) s.parts tag (new_part s.pev) inside e))

-- a recoverer has a plan of which so many records of a tag are copied, or all
pub record HasBrought (tag n : ℕ) (r : RecState) : Type 0 where
  pub plan : Plan
  pub is : r.plan ≡ Some plan
  pub brought : Brought tag n plan

pub brought_keeps : (c : Config) → PeekRules c → (b tag n : ℕ) → tag < length c.begins → Keeps c b (HasBrought tag n)
brought_keeps c rules b tag n inside h run r from u at told k =
    let to = steps_change c rules h run b r at from u told k.plan k.is tag inside (after_hear r from u) (rules.laws.rec_change r from u) in
    record { plan = to.plan; is = to.is; brought = brought_on tag n k.plan to.plan to.steps k.brought }

-- a recoverer has a plan of which so many records of a tag are copied
pub record HasMany (tag n : ℕ) (r : RecState) : Type 0 where
  pub plan : Plan
  pub is : r.plan ≡ Some plan
  pub many : n ≤ length (part_at plan.tail tag).records

pub many_keeps : (c : Config) → PeekRules c → (b tag n : ℕ) → tag < length c.begins → Keeps c b (HasMany tag n)
many_keeps c rules b tag n inside h run r from u at told k =
    let to = steps_change c rules h run b r at from u told k.plan k.is tag inside (after_hear r from u) (rules.laws.rec_change r from u) in
    record { plan = to.plan; is = to.is; many = (let grows = to.steps.grows in let many = k.many in omega (arith, grows, many)) }

-- it copies, and a tag of its plan stands still
pub record IsStill (p : Parent) (q : Plan) (tag v n : ℕ) (r : RecState) : Type 0 where
  pub phase : r.phase ≡ Copying
  pub parent : r.parent ≡ Some p
  pub plan : HasPlanOf q r
  pub still : Still tag v n plan.plan

pub still_keeps : (c : Config) → PeekRules c → (b : ℕ) (p : Parent) (q : Plan) (tag v n : ℕ) → tag < length c.begins → Keeps c b (λ r. IsStill p q tag v n r ⊎ HasBrought tag (n + 100) r)
still_keeps c rules b p q tag v n inside h run r from u at told (inr k) = inr (brought_keeps c rules b tag (n + 100) inside h run r from u at told k)
still_keeps c rules b p q tag v n inside h run r from u at told (inl k) = go (copying_on r (word_of from u) (after_hear r from u) (rules.laws.rec_change r from u) k.phase)
  where
    to : StepsTo tag k.plan.plan (after_hear r from u)
    to = steps_change c rules h run b r at from u told k.plan.plan k.plan.is tag inside (after_hear r from u) (rules.laws.rec_change r from u)

    later : HasPlanOf q (after_hear r from u)
    later = plan_keeps rules.laws c b q h run r from u at told k.plan

    one : to.plan ≡ later.plan
    one = (let two : Some to.plan ≡ Some later.plan = sym to.is ∙ later.is in cc)

    go : ((after_hear r from u).phase ≡ Copying) ⊎ (is_copied r ≡ true) → IsStill p q tag v n (after_hear r from u) ⊎ HasBrought tag (n + 100) (after_hear r from u)
    go (inl phase) = elim (still_on tag v n k.plan.plan to.plan to.steps k.still) [
      | inl still ↦ inl (record { phase = phase; parent = parent_keeps rules.laws c b p h run r from u at told k.parent; plan = later; still = subst (Still tag v n) one still })
      | inr brought ↦ inr (record { plan = to.plan; is = to.is; brought = brought })
    ]
    go (inr copied) =
        let whole : is_complete k.plan.plan.tail ≡ true = sym (ap is_copied_in k.plan.is) ∙ copied in
        let tags = (rules.copies c h rules.config run b r p k.plan.plan at k.parent k.plan.is).tags in
        let full = full_tag k.plan.plan.tail tag whole (omega (arith, tags, inside)) in
        inr (record { plan = to.plan; is = to.is; brought = brought_on tag (n + 100) k.plan.plan to.plan to.steps (inl full) })

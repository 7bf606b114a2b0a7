use Rattle.std.proofs.Common.{◌≡◌, false, sym, ap, ◌∙◌}
use Rattle.std.specs.Prelude.{is_some}
use Rattle.std.proofs.lemmas.Bool.{eqb-true}
use Rattle.fr_storage.specs.Storage.{broken_at, peeked_fault, peeked_calls}
use Rattle.fr_storage.specs.Server.{Server, storage_of}
use Rattle.fr_storage.proofs.BreakOff.{off_here, off_at, unhindered}
use Rattle.fr_storage.proofs.storage.Storage.can_break_off_peeked.Goals as goal

pub returns-then-eq : goal.returns-then-eq
returns-then-eq g c =
    let s : Server g.row.S.Denot = record { tag = c.self.inside.tag; state = c.self.inside.state; applied = c.self.inside.applied; floor = c.self.inside.floor; store = c.self.inside.store; failed = c.self.inside.failed } in
    let n = c.args.self.now in
    let old = storage_of g.S.ShardStore.state n in
    let at : c.args.version ≡ c.self.inside.applied = eqb-true c.args.version c.self.inside.applied (sym c.eq.ensures ∙ c.if-eq.true) in
    let found = off_here g.S.ShardStore.state s n c.self.view_is (c.self.invariant.applied c.if-self.false) c.args.epoch c.args.peeked.now c.records-sound.ensures.sound c.args.version at in
    let works : n.failed ≡ false = sym (ap (λ (v : Server g.row.S.Denot). v.failed) c.self.view_is) ∙ c.if-self.false in
    let takes : is_some (peeked_fault old c.args.epoch c.args.peeked.now) ≡ false = sym (ap is_some c.peeked_refusal.ensures) ∙ (sym c.is_some.ensures ∙ c.if-is_some.false) in
    sym (ap is_some found) ∙ unhindered n.failed (is_some (peeked_fault old c.args.epoch c.args.peeked.now)) (is_some (broken_at old.store (peeked_calls old c.args.epoch c.args.peeked.now) c.args.version)) works takes

pub returns : goal.returns
returns g c =
    let s : Server g.row.S.Denot = record { tag = c.self.inside.tag; state = c.self.inside.state; applied = c.self.inside.applied; floor = c.self.inside.floor; store = c.self.inside.store; failed = c.self.inside.failed } in
    let n = c.args.self.now in
    let old = storage_of g.S.ShardStore.state n in
    let found = off_at g.S.ShardStore.state s n c.self.view_is (c.self.invariant.applied c.if-self.false) c.args.epoch c.args.peeked.now c.records-sound.ensures.sound c.args.version c.end_of.result c.end_of.ensures (sym c.eq.ensures ∙ c.if-eq.false) in
    let works : n.failed ≡ false = sym (ap (λ (v : Server g.row.S.Denot). v.failed) c.self.view_is) ∙ c.if-self.false in
    let takes : is_some (peeked_fault old c.args.epoch c.args.peeked.now) ≡ false = sym (ap is_some c.peeked_refusal.ensures) ∙ (sym c.is_some.ensures ∙ c.if-is_some.false) in
    c.stops_at.ensures ∙ (found ∙ unhindered n.failed (is_some (peeked_fault old c.args.epoch c.args.peeked.now)) (is_some (broken_at old.store (peeked_calls old c.args.epoch c.args.peeked.now) c.args.version)) works takes)

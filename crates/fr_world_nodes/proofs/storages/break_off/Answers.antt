use Rattle.std.proofs.Common.{◌≡◌, ℕ, sym, ap, ◌∙◌}
use Rattle.std.specs.Prelude.{◌==◌}
use Rattle.fr_undo.specs.State.{StoreState}
use Rattle.fr_world_nodes.specs.Parts.{server_of}
use Rattle.fr_world_nodes.proofs.Idle.{mute_breaks, mute_stays}
use Rattle.fr_world_nodes.proofs.storages.break_off.Goals as goal

pub returns-in_default : goal.returns-in_default
returns-in_default c =
    let n = c.args.server.now in
    let s = server_of n in
    let at : c.eq.result ≡ (c.args.version == n.store.applied) = c.eq.ensures ∙ ap (λ (v : ℕ). c.args.version == v) (c.position.ensures.version ∙ sym (c.position.ensures.sound.applied c.requires)) in
    record {
      found = at ∙ mute_breaks s c.args.epoch c.args.tell.now c.args.version (λ p e. c.in_default.not-Peeked p e) (λ x e. c.in_default.not-Marked x e);
      state = λ found. ap (λ (t : StoreState). record { tag = n.tag; state = n.state; store = t }) (mute_stays s c.args.epoch c.args.tell.now c.args.version (λ p e. c.in_default.not-Peeked p e) (λ x e. c.in_default.not-Marked x e));
      works = c.requires;
    }

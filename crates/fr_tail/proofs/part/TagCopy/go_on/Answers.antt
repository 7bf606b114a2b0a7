use Rattle.std.proofs.Common.{nat_le, length, ap, ◌∙◌, arith, rules, min}
use Rattle.std.specs.Prelude.{filter}
use Rattle.std.proofs.lemmas.Fn.{filter_same}
use Rattle.fr_tail.specs.Tail.{longer}
use Rattle.fr_tail.proofs.Shapes.{longer_is}
use Rattle.fr_tail.proofs.part.TagCopy.go_on.Goals as goal

pub returns-in_err-append-clause-free : goal.returns-in_err-append-clause-free
returns-in_err-append-clause-free c none =
    let kept = filter_same _ (λ r. nat_le r.version c.args.rv) _ (λ x b f q. search rules) _ _ c.retain.ensures.filtered in
    let h = c.in_err-append.ensures.full in
    let old = c.self.inside.records.ok.1 in
    let new = c.retain.new.self.ok.0 in
    let nothing = ap length (kept ∙ ap (filter (λ r. nat_le r.version c.args.rv)) c.into_records-records.ensures ∙ none) in
    absurd (omega (arith, h, old, new, nothing))

pub returns-clause-ok : goal.returns-clause-ok
returns-clause-ok c =
    let kept = filter_same _ (λ r. nat_le r.version c.args.rv) _ (λ x b f q. search rules) _ _ c.retain.ensures.filtered in
    longer_is c.args.rv c.self.inside.reached c.self.inside.records.items c.args.peeked _ c.append.new.self.items c.retain.new.self.items
    (c.earlier-reached.ensures ∙ ap (λ v. min v c.args.rv) c.upto.ensures.value) (kept ∙ ap (filter (λ r. nat_le r.version c.args.rv)) c.into_records-records.ensures) c.in_ok-append.ensures.items
    ∙ ap (λ p. longer c.args.rv p c.args.peeked) c.self.view_is

use Rattle.std.proofs.Common.{◌≡◌, ◌++◌, ◌∙◌, true, ap, sym, subst, arith}
use Rattle.std.specs.Vec.Iter.{into_iter_items}
use Rattle.fr_tags.specs.Bodies.{batch_of, is_rising_from}
use Rattle.fr_log.specs.Pushes.{shelf_of, at_version, cut}
use Rattle.fr_log.proofs.Shelves.{fresh_next, rising_lower, rising_rest, put_more, cut_back, on_err}
use Rattle.fr_log.proofs.pushes.put_all.Goals as goal

pub put-requires : goal.put-requires
put-requires c =
    let b = c.in-Some.body in
    fresh_next c.args.version (shelf_of c.loop-body.shelves.items b.tag) (shelf_of c.args.shelves.now.items b.tag) b (into_iter_items c.next.new.self) (batch_of b.tag c.args.bodies.items)
    (ap (λ bs. shelf_of c.loop-body.shelves.items b.tag ++ at_version c.args.version (batch_of b.tag bs)) (sym c.in-Some.ensures.steps.0) ∙ c.loop-body.invariant.so_far b.tag) (c.requires.fresh b.tag)

pub loop-body-preserved : goal.loop-body-preserved
loop-body-preserved c =
    let b = c.in-Some.body in
    let rises = subst (λ bs. is_rising_from 0 bs ≡ true) c.in-Some.ensures.steps.0 c.loop-body.invariant.rising in
    record {
      can = tt;
      ends = tt;
      rising = rising_lower 0 (Rattle.std.proofs.Common.◌+◌ b.tag 1) (into_iter_items c.next.new.self) (omega arith) (rising_rest 0 b (into_iter_items c.next.new.self) rises);
      so_far = put_more c.args.version (shelf_of c.loop-body.shelves.items) (shelf_of c.put.new.shelves.items) (λ t. shelf_of c.args.shelves.now.items t ++ at_version c.args.version (batch_of t c.args.bodies.items)) b
          (into_iter_items c.next.new.self) rises (λ t. ap (λ bs. shelf_of c.loop-body.shelves.items t ++ at_version c.args.version (batch_of t bs)) (sym c.in-Some.ensures.steps.0) ∙ c.loop-body.invariant.so_far t)
          c.in_ok-put.ensures.here c.in_ok-put.ensures.others;
    }

pub returns-in_err-put-clause-err : goal.returns-in_err-put-clause-err
returns-in_err-put-clause-err c =
    on_err c.from_residual.result (λ t.
    ap (cut c.args.version) (c.in_err-put.ensures.err t)
    ∙ cut_back c.args.version (shelf_of c.loop-body.shelves.items t) (shelf_of c.args.shelves.now.items t) (batch_of t (into_iter_items c.loop-body.body-iterator)) (batch_of t c.args.bodies.items)
    (c.loop-body.invariant.so_far t) (c.requires.fresh t))

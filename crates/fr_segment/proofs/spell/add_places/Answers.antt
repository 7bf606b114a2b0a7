use Rattle.std.proofs.Common.{rules, ◌≡◌, ◌+◌, ◌++◌, ◌∷◌, [], length, take, sym, ap, ◌∙◌, ℕ, arith, append_assoc, length-append}
use Rattle.fr_segment.specs.Group.{places_of}
use Rattle.fr_segment.proofs.GroupLemmas.{long_more, front_le, places_more}
use Rattle.fr_segment.proofs.spell.add_places.Goals as goal

pub overflow_add-place : goal.overflow_add-place
overflow_add-place c =
    let more = long_more c.args.group.now c.loop-payload.payload-index c.payload-item.result c.loop-payload-test.true in
    record { fits = omega (arith, more, front_le c.args.group.now (c.loop-payload.payload-index + 1), c.loop-payload.invariant.at, c.requires.fits) }

pub overflow_add-at-in-loop-payload : goal.overflow_add-at-in-loop-payload
overflow_add-at-in-loop-payload c =
    let more = long_more c.args.group.now c.loop-payload.payload-index c.payload-item.result c.loop-payload-test.true in
    let item = ap (λ v. length v.items) c.payload-item.is in
    let n : c.len-in-loop-payload.result ≡ length c.payload-item.result.items = search rules in
    record { fits = omega (arith, more, item, n, front_le c.args.group.now (c.loop-payload.payload-index + 1), c.loop-payload.invariant.at, c.requires.fits) }

pub loop-payload-preserved : goal.loop-payload-preserved
loop-payload-preserved c =
    let i = c.loop-payload.payload-index in
    let item = ap (λ v. length v.items) c.payload-item.is in
    let n : c.len.result ≡ length c.payload-item.result.items = search rules in
    let m : c.len-in-loop-payload.result ≡ length c.payload-item.result.items = search rules in
    let more = long_more c.args.group.now i c.payload-item.result c.loop-payload-test.true in
    let places = places_more c.args.group.now i c.payload-item.result c.args.from c.loop-payload.at c.loop-payload-test.true c.loop-payload.invariant.at in
    record {
      table = c.in-Ok.ensures.items ∙ ap (λ t. t ++ record { at = c.loop-payload.at + 4; len = c.len.result } ∷ []) c.loop-payload.invariant.table
          ∙ append_assoc c.args.table.now.items (places_of c.args.from (take i c.args.group.now)) (record { at = c.loop-payload.at + 4; len = c.len.result } ∷ [])
          ∙ ap (λ (k : ℕ). c.args.table.now.items ++ (places_of c.args.from (take i c.args.group.now) ++ record { at = c.loop-payload.at + 4; len = k } ∷ [])) (n ∙ item)
          ∙ ap (λ t. c.args.table.now.items ++ t) (sym places);
      at = omega (arith, m, item, more, c.loop-payload.invariant.at);
      room = let e = ap length c.in-Ok.ensures.items in omega (arith, e, length-append c.loop-payload.table.items (record { at = c.loop-payload.at + 4; len = c.len.result } ∷ []), c.loop-payload.invariant.room, c.loop-payload-test.true, c.push.ensures.capacity);
    }

use Rattle.std.proofs.Common.{rules, ◌≡◌, ◌+◌, ◌-◌, ◌++◌, [], length, take, sym, ◌∙◌, ap, arith}
use Rattle.std.proofs.lemmas.List.{append-nil}
use Rattle.std.proofs.Math.Seq.{take-append-add}
use Rattle.fr_log.specs.Headers.{headers_in, version_at}
use Rattle.fr_log.proofs.Chaining.{in_some, has_last, headers_set, version_behind}
use Rattle.fr_log.proofs.pushes.chain.cut_last.Goals as goal
use Rattle.fr_log.proofs.pushes.chain.cut_last.Goals.{then-kept-eq0, else-kept-eq0}

pub overflow_sub-last : goal.overflow_sub-last
overflow_sub-last c =
    let count : c.len-last.result ≡ length c.args.runs.now.items = search rules in
    let some = in_some c.args.runs.now.items (omega (arith, c.requires.len, c.requires.less)) in
    omega (arith, count, some)

pub index-requires : goal.index-requires
index-requires c =
    let count : c.len-last.result ≡ length c.args.runs.now.items = search rules in
    let some = in_some c.args.runs.now.items (omega (arith, c.requires.len, c.requires.less)) in
    omega (arith, c.len-last.ensures, count, some)

pub overflow_sub-before : goal.overflow_sub-before
overflow_sub-before c =
    let rs = c.args.runs.now.items in
    let count : c.len-last.result ≡ length rs = search rules in
    let some = in_some rs (omega (arith, c.requires.len, c.requires.less)) in
    let last = has_last rs (c.len-last.result - 1) c.index.result.now c.requires.runs (omega (arith, count, some)) c.index.ensures in
    omega (arith, last.count, c.len.ensures, c.requires.len)

pub index-requires-2 : goal.index-requires-2
index-requires-2 c =
    let count : c.len-last.result ≡ length c.args.runs.now.items = search rules in
    let some = in_some c.args.runs.now.items (omega (arith, c.requires.len, c.requires.less)) in
    omega (arith, c.len-last.ensures, count, some)

pub version_at-from-requires : goal.version_at-from-requires
version_at-from-requires c =
    let rs = c.args.runs.now.items in
    let count : c.len-last.result ≡ length rs = search rules in
    let some = in_some rs (omega (arith, c.requires.len, c.requires.less)) in
    let last = has_last rs (c.len-last.result - 1) c.index.result.now c.requires.runs (omega (arith, count, some)) c.index.ensures in
    let same = has_last rs (c.len-last.result - 1) c.index-2.result.now c.requires.runs (omega (arith, count, some)) c.index-2.ensures in
    omega (arith, last.count, same.count, same.some, c.len.ensures, c.requires.len, c.requires.less, c.saturating_sub-kept.ensures)

pub index_mut-requires : goal.index_mut-requires
index_mut-requires c =
    let count : c.len-last.result ≡ length c.args.runs.now.items = search rules in
    let some = in_some c.args.runs.now.items (omega (arith, c.requires.len, c.requires.less)) in
    omega (arith, c.len-last.ensures, count, some)

pub cut-requires-clause-within : goal.cut-requires-clause-within
cut-requires-clause-within c =
    let rs = c.args.runs.now.items in
    let count : c.len-last.result ≡ length rs = search rules in
    let some = in_some rs (omega (arith, c.requires.len, c.requires.less)) in
    let last = has_last rs (c.len-last.result - 1) c.index.result.now c.requires.runs (omega (arith, count, some)) c.index.ensures in
    let same = has_last rs (c.len-last.result - 1) c.index_mut.result.now c.requires.runs (omega (arith, count, some)) c.index_mut.ensures.value in
    omega (arith, last.count, same.count, same.some, c.len.ensures, c.requires.len, c.requires.less, c.saturating_sub-kept.ensures)

pub returns-clause-fewer : goal.returns-clause-fewer
returns-clause-fewer c =
    let rs = c.args.runs.now.items in
    let count : c.len-last.result ≡ length rs = search rules in
    let some = in_some rs (omega (arith, c.requires.len, c.requires.less)) in
    let last = has_last rs (c.len-last.result - 1) c.index.result.now c.requires.runs (omega (arith, count, some)) c.index.ensures in
    omega (arith, last.count, last.some, c.len.ensures, c.requires.len, c.requires.less, c.saturating_sub-kept.ensures)

pub returns-clause-left : goal.returns-clause-left
returns-clause-left c =
    let rs = c.args.runs.now.items in
    let n = c.len-last.result - 1 in
    let kept = c.saturating_sub-kept.result in
    let count : c.len-last.result ≡ length rs = search rules in
    let some = in_some rs (omega (arith, c.requires.len, c.requires.less)) in
    let last = has_last rs n c.index.result.now c.requires.runs (omega (arith, count, some)) c.index.ensures in
    let front = headers_in (take n rs) in
    let place : length front + kept ≡ c.args.len - c.len.result + kept = omega (arith, last.count, c.len.ensures, c.requires.len) in
    elim c.if-kept-eq0.branch [
      | then-kept-eq0 w ↦
          let same = has_last rs n c.index.result.now c.requires.runs (omega (arith, count, some)) c.index.ensures in
          let none : take kept c.index.result.now ≡ [] = ap (λ k. take k c.index.result.now) w.if-kept-eq0.true in
          ap (λ v. headers_in v.items) w.runs-is ∙ ap headers_in w.truncate.ensures.items
          ∙ sym (ap (λ k. take k (headers_in rs)) (sym place) ∙ ap (take (length front + kept)) same.all ∙ take-append-add front c.index.result.now kept ∙ ap (λ hs. front ++ hs) none ∙ append-nil front)
      | else-kept-eq0 w ↦
          let same = has_last rs n w.index_mut.result.now c.requires.runs (omega (arith, count, some)) w.index_mut.ensures.value in
          ap (λ v. headers_in v.items) w.runs-is ∙ headers_set rs n w.cut.new.self (omega (arith, count, some)) ∙ ap (λ hs. front ++ hs) w.cut.ensures
          ∙ sym (ap (λ k. take k (headers_in rs)) (sym place) ∙ ap (take (length front + kept)) same.all ∙ take-append-add front w.index_mut.result.now kept)
    ]

pub returns-clause-from : goal.returns-clause-from
returns-clause-from c =
    let rs = c.args.runs.now.items in
    let n = c.len-last.result - 1 in
    let kept = c.saturating_sub-kept.result in
    let count : c.len-last.result ≡ length rs = search rules in
    let some = in_some rs (omega (arith, c.requires.len, c.requires.less)) in
    let last = has_last rs n c.index.result.now c.requires.runs (omega (arith, count, some)) c.index.ensures in
    let same = has_last rs n c.index-2.result.now c.requires.runs (omega (arith, count, some)) c.index-2.ensures in
    let front = headers_in (take n rs) in
    let place : length front + kept ≡ c.args.len - c.len.result + kept = omega (arith, last.count, c.len.ensures, c.requires.len) in
    c.version_at-from.ensures ∙ sym (version_behind front c.index-2.result.now kept) ∙ ap (λ hs. version_at hs (length front + kept)) (sym same.all) ∙ ap (version_at (headers_in rs)) place

use Rattle.std.proofs.Common.{◌≡◌, ◌-◌, ◌<◌, length, Some, None, sym, subst, arith}
use Rattle.json.specs.Json.{after_end_array}
use Rattle.fr_cli_json.specs.Tokens.{Gives}
use Rattle.fr_cli_json.proofs.TokenLemmas.{AllRead, none_read, one_more_read, list_read}
use Rattle.fr_cli_end.specs.Script.{reply_of}
use Rattle.fr_cli_end.proofs.tokens.read_replies.Goals as goal

pub loop-replies-init : goal.loop-replies-init
loop-replies-init c =
    let first = c.open_array.new.reader in
    (length first, omega arith, subst (λ xs. AllRead reply_of 125 first (length first) xs first) (sym c.new-replies.ensures.items) (none_read reply_of 125 first), omega arith)

pub loop-replies-preserved : goal.loop-replies-preserved
loop-replies-preserved c =
    let l = c.loop-replies in
    let n = l.invariant.0 in
    let first = c.open_array.new.reader in
    let mid = c.read_reply.new.reader in
    let m = c.in_ok-read_reply.field-0 in
    let going : (after_end_array l.reader ≡ None) × (c.take_end_array.new.self ≡ l.reader) = grind arith in
    let read : Gives reply_of 125 l.reader m mid = subst (λ xs. Gives reply_of 125 xs m mid) going.1 c.in_ok-read_reply.ensures.value in
    let less : length mid < length l.reader = subst (λ xs. length mid < length xs) going.1 c.in_ok-read_reply.ensures.shorter in
    let more = one_more_read reply_of 125 first n l.replies.items l.reader mid m (omega (arith, l.invariant.1)) going.0 read l.invariant.2 in (
      n - 1,
      omega (arith, l.invariant.1),
      subst (λ xs. AllRead reply_of 125 first (n - 1) xs mid) (sym c.in_ok-push.ensures.items) more,
      omega (arith, l.invariant.3),
    )

pub returns-clause-value : goal.returns-clause-value
returns-clause-value c =
    let l = c.loop-replies in
    let old = c.args.reader.now in
    let r = c.take_end_array.new.self in
    let over : after_end_array l.reader ≡ Some r = grind arith in
    list_read reply_of 126 old c.open_array.new.reader r l.invariant.0 l.replies.items l.reader (omega arith) c.in_ok-open_array.ensures l.invariant.1 over l.invariant.2

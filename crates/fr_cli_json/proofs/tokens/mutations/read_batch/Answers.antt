use Rattle.std.proofs.Common.{◌≡◌, ◌-◌, ◌<◌, length, Some, None, sym, ◌∙◌, subst, arith}
use Rattle.json.specs.Json.{after_end_array}
use Rattle.fr_cli_json.specs.Mutations.{mutation_of, batch_of}
use Rattle.fr_cli_json.specs.Tokens.{Gives}
use Rattle.fr_cli_json.proofs.TokenLemmas.{AllRead, none_read, one_more_read, list_read}
use Rattle.fr_cli_json.proofs.tokens.mutations.read_batch.Goals as goal

pub loop-alloc-init : goal.loop-alloc-init
loop-alloc-init c =
    let first = c.open_array.new.reader in
    (length first, omega arith, subst (λ xs. AllRead mutation_of 122 first (length first) xs first) (sym c.new-mutations.ensures.items) (none_read mutation_of 122 first), omega arith)

pub loop-alloc-preserved : goal.loop-alloc-preserved
loop-alloc-preserved c =
    let l = c.loop-alloc in
    let n = l.invariant.0 in
    let first = c.open_array.new.reader in
    let mid = c.read_mutation.new.reader in
    let m = c.in_ok-read_mutation.field-0 in
    let going : (after_end_array l.reader ≡ None) × (c.take_end_array.new.self ≡ l.reader) = grind arith in
    let given : Gives mutation_of 122 l.reader m mid = subst (λ xs. Gives mutation_of 122 xs m mid) going.1 c.in_ok-read_mutation.ensures.value in
    let less : length mid < length l.reader = subst (λ xs. length mid < length xs) going.1 c.in_ok-read_mutation.ensures.shorter in
    let more = one_more_read mutation_of 122 first n l.mutations.items l.reader mid m (omega (arith, l.invariant.1)) going.0 given l.invariant.2 in (
      n - 1,
      omega (arith, l.invariant.1),
      subst (λ xs. AllRead mutation_of 122 first (n - 1) xs mid) (sym c.in_ok-push.ensures.items) more,
      omega (arith, l.invariant.3),
    )

pub returns-clause-value : goal.returns-clause-value
returns-clause-value c =
    let l = c.loop-alloc in
    let old = c.args.reader.now in
    let r = c.take_end_array.new.self in
    let over : after_end_array l.reader ≡ Some r = grind arith in
    let read = list_read mutation_of 123 old c.open_array.new.reader r l.invariant.0 l.mutations.items l.reader (omega arith) c.in_ok-open_array.ensures l.invariant.1 over l.invariant.2 in
    subst (λ ms. Gives batch_of 123 old ms r) (sym (c.from_vec.ensures ∙ c.shrink_to_fit.ensures.items)) read

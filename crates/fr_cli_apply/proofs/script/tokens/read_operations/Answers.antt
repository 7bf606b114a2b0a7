use Rattle.std.proofs.Common.{◌≡◌, ◌-◌, ◌<◌, length, Some, None, sym, subst, arith}
use Rattle.json.specs.Json.{after_end_array}
use Rattle.fr_cli_apply.specs.Script.{operation_of}
use Rattle.fr_cli_apply.specs.Plan.{planned_of}
use Rattle.fr_cli_apply.proofs.PlanLemmas.{plan_given}
use Rattle.fr_cli_json.specs.Tokens.{Gives}
use Rattle.fr_cli_json.proofs.TokenLemmas.{AllRead, none_read, one_more_read, list_read}
use Rattle.fr_cli_apply.proofs.script.tokens.read_operations.Goals as goal

pub loop-alloc-init : goal.loop-alloc-init
loop-alloc-init c =
    let first = c.open_array.new.reader in
    (length first, omega arith, subst (λ xs. AllRead planned_of 125 first (length first) xs first) (sym c.new-operations.ensures.items) (none_read planned_of 125 first), omega arith)

pub loop-alloc-preserved : goal.loop-alloc-preserved
loop-alloc-preserved c =
    let l = c.loop-alloc in
    let n = l.invariant.0 in
    let first = c.open_array.new.reader in
    let mid = c.read_operation.new.reader in
    let m = c.in_ok-read_operation.field-0 in
    let going : (after_end_array l.reader ≡ None) × (c.take_end_array.new.self ≡ l.reader) = grind arith in
    let read : Gives operation_of 125 l.reader m mid = subst (λ xs. Gives operation_of 125 xs m mid) going.1 c.in_ok-read_operation.ensures.value in
    let p = c.new.result in
    let given = plan_given 125 l.reader mid m p read c.new.ensures in
    let less : length mid < length l.reader = subst (λ xs. length mid < length xs) going.1 c.in_ok-read_operation.ensures.shorter in
    let more = one_more_read planned_of 125 first n l.operations.items l.reader mid p (omega (arith, l.invariant.1)) going.0 given l.invariant.2 in (
      n - 1,
      omega (arith, l.invariant.1),
      subst (λ xs. AllRead planned_of 125 first (n - 1) xs mid) (sym c.in_ok-push.ensures.items) more,
      omega (arith, l.invariant.3),
    )

pub returns-clause-value : goal.returns-clause-value
returns-clause-value c =
    let l = c.loop-alloc in
    let old = c.args.reader.now in
    let r = c.take_end_array.new.self in
    let over : after_end_array l.reader ≡ Some r = grind arith in
    list_read planned_of 126 old c.open_array.new.reader r l.invariant.0 l.operations.items l.reader (omega arith) c.in_ok-open_array.ensures l.invariant.1 over l.invariant.2

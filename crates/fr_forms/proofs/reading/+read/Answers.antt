use Rattle.std.proofs.Common.{◌≡◌, ◌-◌, ◌<◌, ◌∷◌, length, Some, None, ap, ◌∙◌, subst, arith, rules}
use Rattle.json.specs.Token.{Token}
use Rattle.json.specs.Json.{after_end_array, read_key}
use Rattle.json.specs.Reads.{token_of}
use Rattle.json.proofs.Grammar.{read_key-shorter}
use Rattle.serde_json.specs.Data.{Num, unsigned, no_items, no_members, put}
use Rattle.serde_json.specs.Read.{number_of}
use Rattle.fr_cli_json.proofs.TokenLemmas.{no_more_items}
use Rattle.fr_forms.specs.Pieces.{HasValue}
use Rattle.fr_forms.proofs.PieceLemmas.{none_passed, one_passed, no_member_seen, one_member_seen, all_members_seen, string_there, number_there, boolean_there, null_there, array_there, object_there}
use Rattle.fr_forms.proofs.reading.+read.Goals as goal

pub read_items-items-init : goal.read_items-items-init
read_items-items-init g t c =
    let first = c.args.reader.now in
    (length first, omega arith, none_passed c.args.depth first, omega arith)

pub read_items-items-preserved : goal.read_items-items-preserved
read_items-items-preserved g t c =
    let l = c.items in
    let n = l.invariant.0 in
    let first = c.args.reader.now in
    let mid = c.read_value.new.reader in
    let going : (after_end_array l.reader ≡ None) × (c.take_end_array.new.self ≡ l.reader) = grind arith in
    let one : HasValue c.args.depth l.reader mid = subst (λ xs. HasValue c.args.depth xs mid) going.1 c.in_ok-read_value.ensures.value in
    let less : length mid < length l.reader = subst (λ xs. length mid < length xs) going.1 c.in_ok-read_value.ensures.shorter in
    (n - 1, omega (arith, l.invariant.1), one_passed c.args.depth first n l.reader mid (omega (arith, l.invariant.1)) going.0 one l.invariant.2, omega (arith, l.invariant.3))

pub read_items-returns-clause-value : goal.read_items-returns-clause-value
read_items-returns-clause-value g t c =
    let l = c.items in
    let r = c.take_end_array.new.self in
    l.invariant.2 no_items r (no_more_items c.args.depth l.invariant.0 l.reader r l.invariant.1 (grind arith))

pub read_members-members-init : goal.read_members-members-init
read_members-members-init g t c =
    let first = c.args.reader.now in
    (length first, omega arith, no_members, no_member_seen c.args.depth first, omega arith)

pub read_members-members-preserved : goal.read_members-members-preserved
read_members-members-preserved g t c =
    let l = c.members in
    let n = l.invariant.0 in
    let first = c.args.reader.now in
    let k = c.in-Some.name.now in
    let s = c.next_key.new.self in
    let mid = c.read_value.new.reader in
    let named : read_key l.reader ≡ Some (Some k, s) = grind arith in
    let less = read_key-shorter l.reader (Some k) s named in
    let lesser = c.in_ok-read_value.ensures.shorter in
    let v = c.in_ok-read_value.ensures.value in
    (n - 1, omega (arith, l.invariant.1), put k v.0 l.invariant.2, one_member_seen c.args.depth first n l.invariant.2 k l.reader s mid v.0 (omega (arith, l.invariant.1)) named v.1 l.invariant.3, omega (arith, l.invariant.4))

pub read_members-returns-clause-value : goal.read_members-returns-clause-value
read_members-returns-clause-value g t c =
    let l = c.members in
    (l.invariant.2, all_members_seen c.args.depth c.args.reader.now l.invariant.0 l.invariant.2 l.reader c.next_key.new.self l.invariant.1 (grind arith) l.invariant.3)

pub read_value-returns-in_ok-value-in-String-clause-value : goal.read_value-returns-in_ok-value-in-String-clause-value
read_value-returns-in_ok-value-in-String-clause-value g t c =
    let r = c.next.new.self in
    let first : c.args.reader.now ≡ token_of c.in-Some.token ∷ r = grind arith in
    string_there c.args.depth c.in-String.text.now c.args.reader.now r (grind (arith, first))

pub read_value-returns-in_ok-value-in-Number-clause-value : goal.read_value-returns-in_ok-value-in-Number-clause-value
read_value-returns-in_ok-value-in-Number-clause-value g t c =
    let r = c.next.new.self in
    let s = c.in-Number.digits.now in
    let first : c.args.reader.now ≡ token_of c.in-Some.token ∷ r = grind arith in
    let n : (x : Num) × (number_of s ≡ Some x) = subst (λ k. (x : Num) × (number_of k ≡ Some x)) c.as_bytes.ensures.value c.in_ok-number_slot-in-Number.ensures in
    number_there c.args.depth s n.0 c.args.reader.now r n.1 (grind (arith, first))

pub read_value-returns-in_ok-value-in-Bool-clause-value : goal.read_value-returns-in_ok-value-in-Bool-clause-value
read_value-returns-in_ok-value-in-Bool-clause-value g t c =
    let r = c.next.new.self in
    let first : c.args.reader.now ≡ token_of c.in-Some.token ∷ r = grind arith in
    boolean_there c.args.depth c.in-Bool.truth c.args.reader.now r (grind (arith, first))

pub read_value-returns-in_ok-value-in-Null-clause-value : goal.read_value-returns-in_ok-value-in-Null-clause-value
read_value-returns-in_ok-value-in-Null-clause-value g t c =
    let r = c.next.new.self in
    let first : c.args.reader.now ≡ token_of c.in-Some.token ∷ r = grind arith in
    null_there c.args.depth c.args.reader.now r (grind (arith, first))

pub read_value-returns-in_ok-read_items-in-BeginArray-clause-value : goal.read_value-returns-in_ok-read_items-in-BeginArray-clause-value
read_value-returns-in_ok-read_items-in-BeginArray-clause-value g t c =
    let ts = c.next.new.self in
    let r = c.read_items.new.reader in
    let first : c.args.reader.now ≡ token_of c.in-Some.token ∷ ts = grind arith in
    let is : c.args.reader.now ≡ Token.begin_array ∷ ts = first ∙ ap (λ k. token_of k ∷ ts) c.in-BeginArray.is in
    let found = c.in_ok-read_items-in-BeginArray.ensures.value in
    array_there c.args.depth c.args.reader.now ts r found.0 (omega arith) is found.1

pub read_value-returns-in_ok-read_members-in-BeginObject-clause-value : goal.read_value-returns-in_ok-read_members-in-BeginObject-clause-value
read_value-returns-in_ok-read_members-in-BeginObject-clause-value g t c =
    let ts = c.next.new.self in
    let r = c.read_members.new.reader in
    let first : c.args.reader.now ≡ token_of c.in-Some.token ∷ ts = grind arith in
    let is : c.args.reader.now ≡ Token.begin_object ∷ ts = first ∙ ap (λ k. token_of k ∷ ts) c.in-BeginObject.is in
    let found = c.in_ok-read_members-in-BeginObject.ensures.value in
    object_there c.args.depth c.args.reader.now ts r found.0 (omega arith) is found.1

-- The script of `end`, read token by token and from its tree.
use Rattle.std.proofs.Common.{◌≡◌, ◌≢◌, ℕ, ◌-◌, ◌<◌, List, [], ◌∷◌, length, Option, Some, None, option_and_then, is_some, true≢false, refl, sym, ap, ◌∙◌, subst, arith}
use Rattle.std.specs.Str.{IsUtf8}
use Rattle.json.specs.Token.{Token}
use Rattle.json.specs.Json.{after_end_array}
use Rattle.json.specs.Lex.{tokens}
use Rattle.json.proofs.Grammar.{value_is}
use Rattle.serde_json.specs.Data.{Data, array, no_items, item}
use Rattle.serde_json.specs.Find.{as_array}
use Rattle.serde_json.specs.View.{items_view}
use Rattle.serde_json.specs.declared.value.Value.{Value}
use Rattle.fr_epoch.specs.declared.reply.Reply.{Reply}
use Rattle.fr_cli_json.specs.Json.{version_of}
use Rattle.fr_cli_json.specs.Tokens.{BeginsWith, Gives}
use Rattle.fr_cli_json.proofs.JsonLemmas.{data_here}
use Rattle.fr_cli_json.proofs.TokenLemmas.{no_more_items, one_more_item, an_array, whole_text}
use Rattle.fr_cli_end.specs.Script.{index_of, three_of, reply_with, reply_of, replies_from, replies_of}

-- what begins with a value does not end an array
going : (depth : ℕ) (ts r : List Token) (d : Data) → BeginsWith depth ts d r → after_end_array ts ≡ None
going depth [] r d h = refl
going depth (Token.begin_object ∷ ts) r d h = refl
going depth (Token.end_object ∷ ts) r d h = refl
going depth (Token.begin_array ∷ ts) r d h = refl
going depth (Token.end_array ∷ ts) r d h = absurd (true≢false (sym (ap is_some (sym (value_is depth (Token.end_array ∷ ts)) ∙ h.1))))
going depth (Token.key s ∷ ts) r d h = refl
going depth (Token.string s ∷ ts) r d h = refl
going depth (Token.number s ∷ ts) r d h = refl
going depth (Token.boolean b ∷ ts) r d h = refl
going depth (Token.null ∷ ts) r d h = refl
going depth (Token.bad ∷ ts) r d h = refl

reply_found : (log durable known : Option ℕ) (l d k : ℕ) → log ≡ Some l → durable ≡ Some d → known ≡ Some k → reply_with log durable known ≡ Some (record { log = l; durable = d; known = k })
reply_found log durable known l d k e f g = rw (e, f, g) refl

-- an array of a log and two versions
pub three_read : (depth : ℕ) (old first second third last r : List Token) (log durable known : ℕ) → 0 < depth → old ≡ Token.begin_array ∷ first
    → Gives index_of (depth - 1) first log second → length second < length first → Gives version_of (depth - 1) second durable third → length third < length second
    → Gives version_of (depth - 1) third known last → length last < length third → after_end_array last ≡ Some r
    → Gives reply_of depth old (record { log = log; durable = durable; known = known }) r
three_read depth old first second third last r log durable known some opened a less b less_too c least over =
    let n = length first in
    let inner = depth - 1 in
    let end = no_more_items inner (n - 1 - 1 - 1) last r (omega arith) over in
    let two = one_more_item inner (n - 1 - 1) third last r c.0 no_items (omega arith) (going inner third last c.0 c.1) c.1 end in
    let one = one_more_item inner (n - 1) second third r b.0 (item c.0 no_items) (omega arith) (going inner second third b.0 b.1) b.1 two in
    let all = one_more_item inner n first second r a.0 (item b.0 (item c.0 no_items)) (omega arith) (going inner first second a.0 a.1) a.1 one in
    let ds = array (item a.0 (item b.0 (item c.0 no_items))) in (
      ds,
      subst (λ xs. BeginsWith depth xs ds r) (sym opened) (an_array depth first r (item a.0 (item b.0 (item c.0 no_items))) some all),
      reply_found (index_of a.0) (version_of b.0) (version_of c.0) log durable known a.2 b.2 c.2,
    )

-- a whole text that begins with a script is that script
pub text_read : (text : List ℕ) (rest : List Token) (replies : List Reply) → IsUtf8 text → Gives replies_from 127 (tokens text) replies rest → rest ≡ [] → replies_of text ≡ Some replies
text_read text rest replies is h over =
    let all : BeginsWith 127 (tokens text) h.0 [] = subst (λ xs. BeginsWith 127 (tokens text) h.0 xs) over h.1 in
    ap (option_and_then replies_from) (data_here text h.0 is (whole_text text h.0 all)) ∙ h.2

other_than_three : (items : List Value) → length items ≢ 3 → three_of (items_view items) ≡ None
other_than_three [] h = refl
other_than_three (a ∷ []) h = refl
other_than_three (a ∷ (b ∷ [])) h = refl
other_than_three (a ∷ (b ∷ (c ∷ []))) h = absurd (h refl)
other_than_three (a ∷ (b ∷ (c ∷ (d ∷ more)))) h = refl

-- an array of another length is no reply
pub no_reply : (d : Data) (items : List Value) → Some (items_view items) ≡ as_array d → length items ≢ 3 → None ≡ reply_of d
no_reply d items e h = rw (← e) (rw (other_than_three items h) refl)

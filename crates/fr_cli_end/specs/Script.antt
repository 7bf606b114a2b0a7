-- The script of `end` that an input is: JSON text, an object of exactly the member named here.
use Rattle.std.specs.Prelude.{ℕ, List, codes, nat_lt, if◌then◌else◌, Option, Some, None, option_map, option_and_then}
use Rattle.serde_json.specs.Data.{Data, Items, no_items, item}
use Rattle.serde_json.specs.Find.{as_array}
use Rattle.fr_epoch.specs.declared.reply.Reply.{Reply}
use Rattle.fr_cli_json.specs.Json.{data_of, only, natural_of, version_of, each_of}

-- the number of a log, whether the generation has it or not: a number below 256, written in digits alone
abbrev pub index_of : Data → Option ℕ
index_of d = option_and_then (λ n. if nat_lt n 256 then Some n else None) (natural_of d)

-- the items of an array of exactly three
abbrev pub three_of : Items → Option (Data × Data × Data)
three_of no_items = None
three_of (item a no_items) = None
three_of (item a (item b no_items)) = None
three_of (item a (item b (item c no_items))) = Some (a, b, c)
three_of (item a (item b (item c (item d more)))) = None

-- the reply of a log, if its number and both of its versions are there
abbrev pub reply_with : Option ℕ → Option ℕ → Option ℕ → Option Reply
reply_with log durable known = option_and_then (λ l. option_and_then (λ d. option_map (λ k. record { log = l; durable = d; known = k }) known) durable) log

-- a reply: an array of exactly the log, the greatest version that it holds, and the greatest that it knows to be committed
abbrev pub reply_of : Data → Option Reply
reply_of d = option_and_then (λ p. reply_with (index_of p.0) (version_of p.1) (version_of p.2)) (option_and_then three_of (as_array d))

-- a list of replies
abbrev pub replies_in : Data → Option (List Reply)
replies_in d = option_and_then (each_of reply_of) (as_array d)

-- an object of the member `replies` alone
abbrev pub replies_from : Data → Option (List Reply)
replies_from d = option_and_then replies_in (only 1 (codes "replies") d)

-- the script that an input is, or None if it is none
abbrev pub replies_of : List ℕ → Option (List Reply)
replies_of input = option_and_then replies_from (data_of input)

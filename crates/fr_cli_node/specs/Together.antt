-- Asks of a log as one group.
use Rattle.std.specs.Prelude.{ℕ, ◌≡◌, ⊤, Bool, true, false, ◌&&◌, nat_le, nat_lt, max, Option, None, Some, if◌then◌else◌}
use Rattle.fr_ask.specs.Named.{log_ask_of}
use Rattle.fr_ask.specs.declared.ask.Ask.{Ask}
use Rattle.fr_ask.specs.declared.ask.Ask.TheVariants as ask
use Rattle.fr_ask.specs.declared.last.Last.{Last}
use Rattle.fr_ask.specs.declared.last.Last.TheVariants as last
use Rattle.fr_ask.specs.declared.tell.Tell.{Tell}
use Rattle.fr_ask.specs.declared.tell.Tell.TheVariants as tell
use Rattle.fr_log.specs.Push.{PushContent, IsPush}
use Rattle.fr_log.specs.declared.ask.LogAsk.{LogAsk}
use Rattle.fr_log.specs.declared.ask.LogAsk.TheVariants.{Seed, Push, Lock, Peek, MarkAsked, Pop}
use Rattle.fr_log.specs.declared.ask.LogTell.{LogTell}
use Rattle.fr_log.specs.declared.ask.LogTell.TheVariants.{Seeded, Held, Locked, Peeked, Marked, Popped, Refused}

-- pushes and reads stand in groups
abbrev pub grouped : LogAsk → Option LogAsk
grouped (Seed s) = None
grouped (Push p) = Some (Push p)
grouped (Lock epoch) = None
grouped (Peek epoch tag after most) = Some (Peek epoch tag after most)
grouped (MarkAsked epoch) = Some (MarkAsked epoch)
grouped (Pop epoch tag through) = None

abbrev pub owned_log : Ask → Option LogAsk
owned_log (ask.Cell a) = None
owned_log (ask.Log a) = grouped a
owned_log (ask.Seq a) = None

pub owned_log-own : (a : Ask) (own : LogAsk) → owned_log a ≡ Some own → log_ask_of a ≡ Some own
owned_log-own (ask.Cell a) own e = absurd (cc e)
owned_log-own (ask.Log (Seed s)) own e = absurd (cc e)
owned_log-own (ask.Log (Push p)) own e = e
owned_log-own (ask.Log (Lock epoch)) own e = absurd (cc e)
owned_log-own (ask.Log (Peek epoch tag after most)) own e = e
owned_log-own (ask.Log (MarkAsked epoch)) own e = e
owned_log-own (ask.Log (Pop epoch tag through)) own e = absurd (cc e)
owned_log-own (ask.Seq a) own e = absurd (cc e)

-- a push joins one that ends where it begins or before, so that one that is told of a gap is told so again; reads join both
abbrev pub is_read : LogAsk → Bool
is_read (Seed s) = false
is_read (Push p) = false
is_read (Lock epoch) = false
is_read (Peek epoch tag after most) = true
is_read (MarkAsked epoch) = true
is_read (Pop epoch tag through) = false

abbrev pub follows : PushContent → LogAsk → Bool
follows p (Seed s) = false
follows p (Push q) = nat_le p.version q.prev
follows p (Lock epoch) = false
follows p (Peek epoch tag after most) = true
follows p (MarkAsked epoch) = true
follows p (Pop epoch tag through) = false

abbrev pub joins_log : LogAsk → LogAsk → Bool
joins_log (Seed s) a = false
joins_log (Push p) a = follows p a
joins_log (Lock epoch) a = false
joins_log (Peek epoch tag after most) a = is_read a
joins_log (MarkAsked epoch) a = is_read a
joins_log (Pop epoch tag through) a = false

abbrev pub joins : Ask → Ask → Bool
joins (ask.Log one) (ask.Log other) = joins_log one other
joins one other = false

-- whether a push is held
abbrev pub is_held : LogTell → Bool
is_held Seeded = false
is_held (Held version) = true
is_held (Locked durable known popped) = false
is_held (Peeked peeked) = false
is_held (Marked state) = false
is_held (Popped through) = false
is_held (Refused why) = false

-- how far a log has come by a push, and what it knows to be committed: a push that is held now, and lies above all before, raises both
abbrev pub came_to : ℕ → ℕ → PushContent → LogTell → ℕ × ℕ
came_to durable known p t = if is_held t && nat_lt durable p.version then (p.version, max known p.known) else (durable, known)

-- a log's state behind an ask of a group, as others see it
abbrev pub raised : Last → PushContent → LogTell → Last
raised (last.Log seeded durable known stopped popped) p t = last.Log seeded (came_to durable known p t).0 (came_to durable known p t).1 stopped popped
raised l p t = l

abbrev pub last_behind_log : Last → LogAsk → LogTell → Last
last_behind_log l (Push p) t = raised l p t
last_behind_log l a t = l

abbrev pub last_behind : Last → Ask → Tell → Last
last_behind l (ask.Log a) (tell.Log t) = last_behind_log l a t
last_behind l a t = l

-- a push within its limits, if it is one
abbrev pub IsGroupedPush : LogAsk → Type 0
IsGroupedPush (Push p) = IsPush p
IsGroupedPush a = ⊤

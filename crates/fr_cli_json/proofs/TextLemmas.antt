-- Writing a text piece by piece, and reading an input piece by piece.
use Rattle.std.proofs.Common.{ℕ, List, [], ◌++◌, Option, Some, None, refl, sym, ap, ◌∙◌, append_assoc, append-nil}
use Rattle.std.specs.Io.KnownBytes.{Appends, Consumes, Keeps}
use Rattle.fr_cli_json.specs.Text.{Owes, GainsFront}

-- nothing is written yet
pub owes_all : (old : Option (List ℕ)) (all : List ℕ) → Owes old old all all
owes_all None all = tt
owes_all (Some xs) all = refl

-- once the next piece is written, the rest is still to be written
pub owes_rest : (old now new : Option (List ℕ)) (piece rest all : List ℕ) → Owes old now (piece ++ rest) all → Appends now new piece → Owes old new rest all
owes_rest None now new piece rest all h a = tt
owes_rest (Some xs) None new piece rest all h a = absurd h
owes_rest (Some xs) (Some ys) None piece rest all h a = absurd a
owes_rest (Some xs) (Some ys) (Some zs) piece rest all h a = rw a (append_assoc ys piece rest ∙ h)

-- where nothing is left to be written, all is written
pub owes_none : (old now : Option (List ℕ)) (all : List ℕ) → Owes old now [] all → Appends old now all
owes_none None now all h = tt
owes_none (Some xs) None all h = absurd h
owes_none (Some xs) (Some ys) all h = sym (append-nil ys) ∙ h

pub consumes_none : (old : Option (List ℕ)) → Consumes old old []
consumes_none None = tt
consumes_none (Some xs) = refl

pub consumes_more : (old now new : Option (List ℕ)) (front piece : List ℕ) → Consumes old now front → Consumes now new piece → Consumes old new (front ++ piece)
consumes_more None now new front piece h k = tt
consumes_more (Some xs) None new front piece h k = absurd h
consumes_more (Some xs) (Some ys) None front piece h k = absurd k
consumes_more (Some xs) (Some ys) (Some zs) front piece h k = rw append_assoc (h ∙ ap (λ r. front ++ r) k)

pub consumes_kept : (old now new : Option (List ℕ)) (front : List ℕ) → Consumes old now front → Keeps now new → Consumes old new front
consumes_kept None now new front h k = tt
consumes_kept (Some xs) None new front h k = absurd h
consumes_kept (Some xs) (Some ys) None front h k = absurd k
consumes_kept (Some xs) (Some ys) (Some zs) front h k = h ∙ ap (λ r. front ++ r) (sym k)

-- nothing is a front of any text
pub gains_none : (old : Option (List ℕ)) (all : List ℕ) → GainsFront old old all
gains_none old all = (all, owes_all old all)

-- the whole text is a front of it
pub gains_all : (old new : Option (List ℕ)) (all : List ℕ) → Appends old new all → GainsFront old new all
gains_all None new all h = ([], tt)
gains_all (Some xs) None all h = absurd h
gains_all (Some xs) (Some ys) all h = ([], append-nil ys ∙ h)

owes_more : (old now new : Option (List ℕ)) (piece more all left : List ℕ) → Owes old now (piece ++ more) all → Owes now new left piece → Owes old new (left ++ more) all
owes_more None now new piece more all left h k = tt
owes_more (Some xs) None new piece more all left h k = absurd h
owes_more (Some xs) (Some ys) None piece more all left h k = absurd k
owes_more (Some xs) (Some ys) (Some zs) piece more all left h k = sym (append_assoc zs left more) ∙ ap (λ r. r ++ more) k ∙ append_assoc ys piece more ∙ h

-- a front of the next piece is a front of the whole
pub gains_more : (old now new : Option (List ℕ)) (piece more all : List ℕ) → Owes old now (piece ++ more) all → GainsFront now new piece → GainsFront old new all
gains_more old now new piece more all h k = (k.0 ++ more, owes_more old now new piece more all k.0 h k.1)

pub appends_kept : (old now new : Option (List ℕ)) (text : List ℕ) → Appends old now text → Keeps now new → Appends old new text
appends_kept None now new text h k = tt
appends_kept (Some xs) None new text h k = absurd h
appends_kept (Some xs) (Some ys) None text h k = absurd k
appends_kept (Some xs) (Some ys) (Some zs) text h k = k ∙ h

pub gains_kept : (old now new : Option (List ℕ)) (all : List ℕ) → GainsFront old now all → Keeps now new → GainsFront old new all
gains_kept None now new all h k = ([], tt)
gains_kept (Some xs) None new all h k = absurd h.1
gains_kept (Some xs) (Some ys) None all h k = absurd k
gains_kept (Some xs) (Some ys) (Some zs) all h k = (h.0, rw k h.1)

-- a piece, and then another text
pub appends_then : (old now new : Option (List ℕ)) (piece rest : List ℕ) → Appends old now piece → Appends now new rest → Appends old new (piece ++ rest)
appends_then None now new piece rest h k = tt
appends_then (Some xs) None new piece rest h k = absurd h
appends_then (Some xs) (Some ys) None piece rest h k = absurd k
appends_then (Some xs) (Some ys) (Some zs) piece rest h k = k ∙ ap (λ r. r ++ rest) h ∙ append_assoc xs piece rest

-- a front of the first piece
pub gains_here : (old new : Option (List ℕ)) (piece rest : List ℕ) → GainsFront old new piece → GainsFront old new (piece ++ rest)
gains_here old new piece rest h = gains_more old old new piece rest (piece ++ rest) (owes_all old (piece ++ rest)) h

-- a piece, and then a front of another text
pub gains_then : (old now new : Option (List ℕ)) (piece rest : List ℕ) → Appends old now piece → GainsFront now new rest → GainsFront old new (piece ++ rest)
gains_then None now new piece rest h k = ([], tt)
gains_then (Some xs) None new piece rest h k = absurd h
gains_then (Some xs) (Some ys) None piece rest h k = absurd k.1
gains_then (Some xs) (Some ys) (Some zs) piece rest h k = (k.0, k.1 ∙ ap (λ r. r ++ rest) h ∙ append_assoc xs piece rest)

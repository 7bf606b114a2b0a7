-- What the texts of the queries mean.
use Rattle.std.proofs.Common.{◌≡◌, ℕ, List, [], ◌∷◌, ◌++◌, codes, false, refl, sym, ap, arith}
use Rattle.std.proofs.lemmas.Fmt.{decimal_digit}
use Rattle.sqlite.specs.Schema.{Schema}
use Rattle.sqlite.specs.Term.{col}
use Rattle.sqlite.specs.Command.TheVariants.{Select}
use Rattle.sqlite.specs.Listing.{understood, reads_listing}
use Rattle.sqlite.proofs.Callers.{IsPlain, command_of}
use Rattle.sqlite_tied.specs.Compute.{everything}
use Rattle.fr_sql_rows.specs.Schema.{schema}
use Rattle.fr_sql_rows.specs.OpenSchema.{own, automatic}
use Rattle.fr_sql_rows.proofs.TextLemmas.{plain_query}

abbrev pub versions_text : List ℕ
versions_text = codes "SELECT applied, floor FROM meta"

pub versions_plain : IsPlain (understood schema versions_text)
unfolding understood everything
versions_plain = (refl, refl)

pub versions_unlisted : reads_listing schema versions_text ≡ false
unfolding understood everything
versions_unlisted = refl

pub versions_is : command_of (understood schema versions_text) ≡ Select (record { lets = []; body = plain_query 4 [] (col 1 2 ∷ col 1 3 ∷ []) }) (codes "applied" ∷ codes "floor" ∷ [])
unfolding understood everything
versions_is = refl

abbrev pub undo_text : List ℕ
undo_text = codes "SELECT ver FROM undo"

pub undo_plain : IsPlain (understood schema undo_text)
unfolding understood everything
undo_plain = (refl, refl)

pub undo_unlisted : reads_listing schema undo_text ≡ false
unfolding understood everything
undo_unlisted = refl

pub undo_is : command_of (understood schema undo_text) ≡ Select (record { lets = []; body = plain_query 2 [] (col 1 1 ∷ []) }) (codes "ver" ∷ [])
unfolding understood everything
undo_is = refl

-- a schema whose two indexes are numbered by a text
abbrev numbered : List ℕ → Schema
numbered number = record {
  tables = own.tables;
  indexes = automatic (codes "sqlite_autoindex_kv_" ++ number) 1 0 (1 ∷ []) ∷ automatic (codes "sqlite_autoindex_undo_" ++ number) 3 2 (1 ∷ 2 ∷ []) ∷ [];
  views = [];
}

-- the schema that the three statements make, written out
pub own_is : own ≡ schema
own_is = ap numbered (sym (decimal_digit 1 (omega arith)))

-- What the texts mean.
use Rattle.std.proofs.Common.{true, ◌≡◌, ℕ, pos, negsuc, List, [], ◌∷◌, codes, false, Ok, None, refl}
use Rattle.sqlite.specs.declared.types.Value.TheVariants.{Null, Int, Blob}
use Rattle.sqlite.specs.Term.{Term, lit, col, op2}
use Rattle.sqlite.specs.Compile.{table_defined_by}
use Rattle.sqlite_value.specs.declared.keys.Key.{Key}
use Rattle.sqlite.specs.Query.{Query, inner, end}
use Rattle.sqlite.specs.Collation.TheVariants.{Binary}
use Rattle.sqlite.specs.Source.TheVariants.{Values}
use Rattle.sqlite.specs.Command.TheVariants.{Insert, Select, Delete, Update, CreateTable}
use Rattle.sqlite_sql.specs.declared.ops.BinaryOp.TheVariants.{Compare}
use Rattle.sqlite_sql.specs.declared.ops.CompareOp.TheVariants.{Eq, Ge, Lt, Gt, Le}
use Rattle.sqlite.specs.Listing.{understood, reads_listing}
use Rattle.sqlite.proofs.Callers.{IsPlain, command_of, statement_of}
use Rattle.sqlite_tied.specs.Compute.{everything}
use Rattle.fr_sql_rows.specs.Schema.{kv_text, undo_text, meta_text, kv, undo, meta, schema, no_schema, kv_schema, two_schema}

pub kv_is : table_defined_by kv_text ≡ Ok kv
unfolding everything
kv_is = refl

pub undo_is : table_defined_by undo_text ≡ Ok undo
unfolding everything
undo_is = refl

pub meta_is : table_defined_by meta_text ≡ Ok meta
unfolding everything
meta_is = refl

abbrev pub plain_query : ℕ → List Term → List Term → Query
plain_query tree filter project = record {
  from = inner tree end;
  filter = filter;
  group = None;
  project = project;
  distinct = false;
  collations = [];
  order = [];
  limit = lit (Int (negsuc 0));
  offset = lit (Int (pos 0));
}

abbrev pub has_key : Term
has_key = op2 (Compare Eq Binary) (col 1 1) (col 0 0)

abbrev pub get_text : List ℕ
get_text = codes "SELECT v FROM kv WHERE k = ?1"

pub get_plain : IsPlain (understood schema get_text)
unfolding understood everything
get_plain = (refl, refl)

pub get_unlisted : reads_listing schema get_text ≡ false
unfolding understood everything
get_unlisted = refl

pub get_is : command_of (understood schema get_text) ≡ Select (record { lets = []; body = plain_query 0 (has_key ∷ []) (col 1 2 ∷ []) }) (codes "v" ∷ [])
unfolding understood everything
get_is = refl

abbrev pub put_text : List ℕ
put_text = codes "INSERT INTO kv VALUES (?1, ?2)"

pub put_plain : IsPlain (understood schema put_text)
unfolding understood everything
put_plain = (refl, refl)

pub put_is : command_of (understood schema put_text) ≡ Insert 0 (Values (lit Null ∷ col 0 0 ∷ col 0 1 ∷ []) 3)
unfolding understood everything
put_is = refl

abbrev pub change_text : List ℕ
change_text = codes "UPDATE kv SET v = ?2 WHERE k = ?1"

pub change_plain : IsPlain (understood schema change_text)
unfolding understood everything
change_plain = (refl, refl)

pub change_is : command_of (understood schema change_text) ≡ Update 0 (record { lets = []; body = plain_query 0 (has_key ∷ []) (col 1 0 ∷ col 1 0 ∷ col 1 1 ∷ col 0 1 ∷ []) })
unfolding understood everything
change_is = refl

abbrev pub remove_text : List ℕ
remove_text = codes "DELETE FROM kv WHERE k = ?1"

pub remove_plain : IsPlain (understood schema remove_text)
unfolding understood everything
remove_plain = (refl, refl)

pub remove_is : command_of (understood schema remove_text) ≡ Delete 0 (record { lets = []; body = plain_query 0 (has_key ∷ []) (col 1 0 ∷ []) })
unfolding understood everything
remove_is = refl

abbrev pub in_range : List Term
in_range = op2 (Compare Ge Binary) (col 1 1) (col 0 0) ∷ op2 (Compare Lt Binary) (col 1 1) (col 0 1) ∷ []

abbrev pub versions_text : List ℕ
versions_text = codes "UPDATE meta SET applied = ?1, floor = ?2"

pub versions_plain : IsPlain (understood schema versions_text)
unfolding understood everything
versions_plain = (refl, refl)

pub versions_is : command_of (understood schema versions_text) ≡ Update 2 (record { lets = []; body = plain_query 4 [] (col 1 0 ∷ col 1 0 ∷ lit Null ∷ col 0 0 ∷ col 0 1 ∷ col 1 4 ∷ []) })
unfolding understood everything
versions_is = refl

abbrev pub bytes_text : List ℕ
bytes_text = codes "UPDATE meta SET state = ?1"

pub bytes_plain : IsPlain (understood schema bytes_text)
unfolding understood everything
bytes_plain = (refl, refl)

pub bytes_is : command_of (understood schema bytes_text) ≡ Update 2 (record { lets = []; body = plain_query 4 [] (col 1 0 ∷ col 1 0 ∷ lit Null ∷ col 1 2 ∷ col 1 3 ∷ col 0 0 ∷ []) })
unfolding understood everything
bytes_is = refl

abbrev pub state_text : List ℕ
state_text = codes "SELECT state FROM meta"

pub state_plain : IsPlain (understood schema state_text)
unfolding understood everything
state_plain = (refl, refl)

pub state_unlisted : reads_listing schema state_text ≡ false
unfolding understood everything
state_unlisted = refl

pub state_is : command_of (understood schema state_text) ≡ Select (record { lets = []; body = plain_query 4 [] (col 1 4 ∷ []) }) (codes "state" ∷ [])
unfolding understood everything
state_is = refl

abbrev pub note_text : List ℕ
note_text = codes "INSERT INTO undo VALUES (?1, ?2, ?3)"

pub note_plain : IsPlain (understood schema note_text)
unfolding understood everything
note_plain = (refl, refl)

pub note_is : command_of (understood schema note_text) ≡ Insert 1 (Values (lit Null ∷ col 0 0 ∷ col 0 1 ∷ col 0 2 ∷ []) 4)
unfolding understood everything
note_is = refl

abbrev pub drop_above_text : List ℕ
drop_above_text = codes "DELETE FROM undo WHERE ver > ?1"

pub drop_above_plain : IsPlain (understood schema drop_above_text)
unfolding understood everything
drop_above_plain = (refl, refl)

abbrev pub is_above : List Term
is_above = op2 (Compare Gt Binary) (col 1 1) (col 0 0) ∷ []

pub drop_above_is : command_of (understood schema drop_above_text) ≡ Delete 1 (record { lets = []; body = plain_query 2 is_above (col 1 0 ∷ []) })
unfolding understood everything
drop_above_is = refl

abbrev pub drop_through_text : List ℕ
drop_through_text = codes "DELETE FROM undo WHERE ver <= ?1"

pub drop_through_plain : IsPlain (understood schema drop_through_text)
unfolding understood everything
drop_through_plain = (refl, refl)

abbrev pub is_through : List Term
is_through = op2 (Compare Le Binary) (col 1 1) (col 0 0) ∷ []

pub drop_through_is : command_of (understood schema drop_through_text) ≡ Delete 1 (record { lets = []; body = plain_query 2 is_through (col 1 0 ∷ []) })
unfolding understood everything
drop_through_is = refl

abbrev pub sorted_query : ℕ → List Term → List Term → List (Term × Key) → Query
sorted_query tree filter project order = record {
  from = inner tree end;
  filter = filter;
  group = None;
  project = project;
  distinct = false;
  collations = [];
  order = order;
  limit = lit (Int (negsuc 0));
  offset = lit (Int (pos 0));
}

abbrev pub up : Key
up = record { collation = Binary; descending = false }

abbrev pub between_text : List ℕ
between_text = codes "SELECT k, v FROM kv WHERE k >= ?1 AND k < ?2 ORDER BY k"

pub between_plain : IsPlain (understood schema between_text)
unfolding understood everything
between_plain = (refl, refl)

pub between_unlisted : reads_listing schema between_text ≡ false
unfolding understood everything
between_unlisted = refl

pub between_is : command_of (understood schema between_text) ≡ Select (record { lets = []; body = sorted_query 0 in_range (col 1 1 ∷ col 1 2 ∷ []) ((col 1 1, up) ∷ []) }) (codes "k" ∷ codes "v" ∷ [])
unfolding understood everything
between_is = refl

abbrev pub all_text : List ℕ
all_text = codes "SELECT k, v FROM kv ORDER BY k"

pub all_plain : IsPlain (understood schema all_text)
unfolding understood everything
all_plain = (refl, refl)

pub all_unlisted : reads_listing schema all_text ≡ false
unfolding understood everything
all_unlisted = refl

pub all_is : command_of (understood schema all_text) ≡ Select (record { lets = []; body = sorted_query 0 [] (col 1 1 ∷ col 1 2 ∷ []) ((col 1 1, up) ∷ []) }) (codes "k" ∷ codes "v" ∷ [])
unfolding understood everything
all_is = refl

abbrev pub above_text : List ℕ
above_text = codes "SELECT ver, k, before FROM undo WHERE ver > ?1 ORDER BY ver DESC, k"

pub above_plain : IsPlain (understood schema above_text)
unfolding understood everything
above_plain = (refl, refl)

pub above_unlisted : reads_listing schema above_text ≡ false
unfolding understood everything
above_unlisted = refl

abbrev pub note_none_text : List ℕ
note_none_text = codes "INSERT INTO undo VALUES (?1, ?2, NULL)"

pub note_none_plain : IsPlain (understood schema note_none_text)
unfolding understood everything
note_none_plain = (refl, refl)

pub note_none_is : command_of (understood schema note_none_text) ≡ Insert 1 (Values (lit Null ∷ col 0 0 ∷ col 0 1 ∷ lit Null ∷ []) 4)
unfolding understood everything
note_none_is = refl

pub create_kv_is : (command_of (understood no_schema kv_text) ≡ CreateTable) × (statement_of kv_text (understood no_schema kv_text) ≡ kv_text) × IsPlain (understood no_schema kv_text)
unfolding understood everything
create_kv_is = (refl, refl, (refl, refl))

pub create_undo_is : (command_of (understood kv_schema undo_text) ≡ CreateTable) × (statement_of undo_text (understood kv_schema undo_text) ≡ undo_text) × IsPlain (understood kv_schema undo_text)
unfolding understood everything
create_undo_is = (refl, refl, (refl, refl))

pub create_meta_is : (command_of (understood two_schema meta_text) ≡ CreateTable) × (statement_of meta_text (understood two_schema meta_text) ≡ meta_text) × IsPlain (understood two_schema meta_text)
unfolding understood everything
create_meta_is = (refl, refl, (refl, refl))

abbrev pub begin_text : List ℕ
begin_text = codes "INSERT INTO meta VALUES (1, 0, 0, x'')"

pub begin_plain : IsPlain (understood schema begin_text)
unfolding understood everything
begin_plain = (refl, refl)

pub begin_is : command_of (understood schema begin_text) ≡ Insert 2 (Values (lit (Int (pos 1)) ∷ lit Null ∷ lit (Int (pos 0)) ∷ lit (Int (pos 0)) ∷ lit (Blob []) ∷ []) 5)
unfolding understood everything
begin_is = refl

abbrev pub from_text : List ℕ
from_text = codes "SELECT k, v FROM kv WHERE k >= ?1 ORDER BY k"

pub from_plain : IsPlain (understood schema from_text)
unfolding understood everything
from_plain = (refl, refl)

pub from_unlisted : reads_listing schema from_text ≡ false
unfolding understood everything
from_unlisted = refl

abbrev pub is_from : List Term
is_from = op2 (Compare Ge Binary) (col 1 1) (col 0 0) ∷ []

pub from_is : command_of (understood schema from_text) ≡ Select (record { lets = []; body = sorted_query 0 is_from (col 1 1 ∷ col 1 2 ∷ []) ((col 1 1, up) ∷ []) }) (codes "k" ∷ codes "v" ∷ [])
unfolding understood everything
from_is = refl

abbrev pub down : Key
down = record { collation = Binary; descending = true }

pub above_is : command_of (understood schema above_text)
    ≡ Select (record { lets = []; body = sorted_query 2 is_above (col 1 1 ∷ col 1 2 ∷ col 1 3 ∷ []) ((col 1 1, down) ∷ (col 1 2, up) ∷ []) }) (codes "ver" ∷ codes "k" ∷ codes "before" ∷ [])
unfolding understood everything
above_is = refl

abbrev pub is_of_key_above : List Term
is_of_key_above = op2 (Compare Eq Binary) (col 1 2) (col 0 0) ∷ op2 (Compare Gt Binary) (col 1 1) (col 0 1) ∷ []

abbrev pub first_query : Query
first_query = record (sorted_query 2 is_of_key_above (col 1 3 ∷ []) ((col 1 1, up) ∷ [])) { limit = lit (Int (pos 1)) }

abbrev pub first_text : List ℕ
first_text = codes "SELECT before FROM undo WHERE k = ?1 AND ver > ?2 ORDER BY ver LIMIT 1"

pub first_plain : IsPlain (understood schema first_text)
unfolding understood everything
first_plain = (refl, refl)

pub first_unlisted : reads_listing schema first_text ≡ false
unfolding understood everything
first_unlisted = refl

pub first_is : command_of (understood schema first_text) ≡ Select (record { lets = []; body = first_query }) (codes "before" ∷ [])
unfolding understood everything
first_is = refl

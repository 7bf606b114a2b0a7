-- The rows of a tree, where they are all that is left to be written.
use Rattle.std.proofs.Common.{◌≡◌, ℕ, List, [], ◌++◌, Option, sym, ap, ◌∙◌, subst, append-nil}
use Rattle.std.specs.Io.KnownBytes.{Appends}
use Rattle.std.specs.BTreeMap.{BTreeMap, IsOrdered}
use Rattle.std.specs.FinMap.{entries}
use Rattle.fr_base.specs.Bytes.{bytes_cmp, bytes_total, bytes_exact}
use Rattle.fr_base.specs.Map.{Map, map_of}
use Rattle.fr_undo.proofs.TreeLemmas.{entries-map_of}
use Rattle.fr_cli_json.specs.Text.{Owes, GainsFront}
use Rattle.fr_cli_json.proofs.TextLemmas.{owes_rest, owes_none, gains_more}

module _ (old now new : Option (List ℕ)) (rows all : List ℕ) (owed : Owes old now rows all) where
  with_none : Owes old now (rows ++ []) all
  with_none = subst (λ xs. Owes old now xs all) (sym (append-nil rows)) owed

  pub rows_last : Appends now new rows → Appends old new all
  rows_last written = owes_none old new all (owes_rest old now new rows [] all with_none written)

  pub front_last : GainsFront now new rows → GainsFront old new all
  front_last written = gains_more old now new rows [] all with_none written

-- a tree has the rows of its map, in order
pub same_rows : (m : Map) (t : BTreeMap (List ℕ) (List ℕ)) → map_of t ≡ m → IsOrdered bytes_cmp t → entries m ≡ t.entries
same_rows m t is ordered = ap entries (sym is) ∙ entries-map_of bytes_cmp bytes_total bytes_exact t ordered

-- What a tag's part makes of an empty store is the shard's part of what the whole batches make.
use Rattle.std.proofs.Common.{◌≡◌, ℕ, Bool, true, false, cond, nat_lt, List, [], ◌∷◌, ◌++◌, Option, None, Some, length, filter_map, refl, sym, ◌∙◌, ap, arith}
use Rattle.std.specs.List.{cons_option}
use Rattle.std.specs.Option.{option_map}
use Rattle.std.specs.FinMap.{empty, same_map}
use Rattle.std.proofs.lemmas.Bool.{ltb-false}
use Rattle.std.proofs.lemmas.List.{nil_from_length}
use Rattle.std.proofs.lemmas.List.Elements.{filter_map-append}
use Rattle.fr_base.specs.Bytes.{bytes_total, bytes_exact}
use Rattle.fr_base.specs.Map.{Map}
use Rattle.fr_mutation.specs.declared.mutation.Mutation.{Mutation}
use Rattle.fr_mutation.specs.Mutation.{after}
use Rattle.fr_mutation.specs.Clip.{clipped}
use Rattle.fr_mutation.specs.Shard.{part}
use Rattle.fr_mutation.specs.Law.{ValueAfterLaw, ClipLaw}
use Rattle.fr_tags.specs.Shards.{shard_at}
use Rattle.fr_tags.specs.SplitLaw.{ClipsMakeThePartFromNothing}
use Rattle.fr_undo.specs.Canonical.{Commit, contents_after}
use Rattle.fr_run.specs.Config.{Config}
use Rattle.fr_run_headline.specs.Issued.{Entry, part_in}
use Rattle.fr_run_headline.proofs.IssuedLists.{version_of}
use Rattle.fr_run_headline.proofs.VersionLists.{RiseIn, through}
use Rattle.fr_run_headline.proofs.PartLists.{commit_of, parts_of, part_of, part_from_low}

-- the whole batch of an entry, of which a mark has none
abbrev pub whole_of : Entry → Option Commit
whole_of x = option_map (λ batch. (x.version, batch)) x.batch

-- the whole batches of entries
abbrev pub wholes_of : List Entry → List Commit
wholes_of xs = filter_map whole_of xs

-- a batch without mutations changes nothing
nothing_after : ValueAfterLaw → (m : Map) → after m [] ≡ m
nothing_after law m = same_map bytes_total bytes_exact (after m []) m (λ q. law m [] q)

-- a tag's part of an entry makes of the shard's part of a map what the whole batch makes of the map
one_entry : ClipLaw → ValueAfterLaw → (c : Config) (tag : ℕ) (x : Entry) (m : Map) → let s = shard_at c.begins tag in
    contents_after (part m s) (filter_map (commit_of c tag) (x ∷ [])) ≡ part (contents_after m (wholes_of (x ∷ []))) s
one_entry clip value c tag x m = whole x.batch
  where
    fill : (batch : List Mutation) (b : Bool) → nat_lt 0 (length (clipped batch (shard_at c.begins tag))) ≡ b
        → contents_after (part m (shard_at c.begins tag)) (cons_option (cond b (Some (x.version, clipped batch (shard_at c.begins tag))) None) []) ≡ part (after m batch) (shard_at c.begins tag)
    fill batch true e = clip m batch (shard_at c.begins tag)
    fill batch false e =
        let le = ltb-false 0 (length (clipped batch (shard_at c.begins tag))) e in
        let none : clipped batch (shard_at c.begins tag) ≡ [] = nil_from_length (clipped batch (shard_at c.begins tag)) (omega (arith, le)) in
        sym (nothing_after value (part m (shard_at c.begins tag)))
        ∙ ap (after (part m (shard_at c.begins tag))) (sym none)
        ∙ clip m batch (shard_at c.begins tag)

    whole : (o : Option (List Mutation)) → contents_after (part m (shard_at c.begins tag)) (cons_option (part_in c tag x.version o) []) ≡ part (contents_after m (cons_option (option_map (λ batch. (x.version, batch)) o) [])) (shard_at c.begins tag)
    whole None = refl
    whole (Some batch) = fill batch _ refl

-- one list of commits after another
pub contents_on : (m : Map) (xs ys : List Commit) → contents_after m (xs ++ ys) ≡ contents_after (contents_after m xs) ys
contents_on m [] ys = refl
contents_on m (x ∷ xs) ys = contents_on (after m x.1) xs ys

-- what a tag's part of entries makes of the shard's part of a map is that part of what the whole batches make of the map
pub shard_fold_on : ClipLaw → ValueAfterLaw → (c : Config) (tag : ℕ) (m : Map) (xs : List Entry) → let s = shard_at c.begins tag in
    contents_after (part m s) (parts_of c tag xs) ≡ part (contents_after m (wholes_of xs)) s
shard_fold_on clip value c tag m [] = refl
shard_fold_on clip value c tag m (x ∷ xs) =
    let s = shard_at c.begins tag in
    let ours = filter_map (commit_of c tag) (x ∷ []) in
    let all = wholes_of (x ∷ []) in
    ap (contents_after (part m s)) (filter_map-append (commit_of c tag) (x ∷ []) xs)
    ∙ contents_on (part m s) ours (parts_of c tag xs)
    ∙ ap (λ n. contents_after n (parts_of c tag xs)) (one_entry clip value c tag x m)
    ∙ shard_fold_on clip value c tag (contents_after m all) xs
    ∙ ap (λ n. part n s) (sym (ap (contents_after m) (filter_map-append whole_of (x ∷ []) xs) ∙ contents_on m all (wholes_of xs)))

-- the same from nothing
pub shard_fold : ClipLaw → ValueAfterLaw → ClipsMakeThePartFromNothing → (c : Config) (tag : ℕ) (xs : List Entry) → let s = shard_at c.begins tag in
    contents_after empty (parts_of c tag xs) ≡ part (contents_after empty (wholes_of xs)) s
shard_fold clip value nothing c tag xs =
    let s = shard_at c.begins tag in
    ap (λ m. contents_after m (parts_of c tag xs)) (nothing [] s)
    ∙ shard_fold_on clip value c tag empty xs

-- a tag's part through a version makes of an empty store the shard's part of what the whole batches through it make
pub shard_through : ClipLaw → ValueAfterLaw → ClipsMakeThePartFromNothing → (c : Config) (tag b upto : ℕ) (xs : List Entry) → RiseIn version_of 0 xs b → let s = shard_at c.begins tag in
    contents_after empty (part_of c tag 0 upto xs) ≡ part (contents_after empty (wholes_of (through version_of upto xs))) s
shard_through clip value nothing c tag b upto xs rise = ap (contents_after empty) (part_from_low c tag 0 b upto xs rise) ∙ shard_fold clip value nothing c tag (through version_of upto xs)

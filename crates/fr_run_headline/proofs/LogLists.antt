-- What a log holds of a tag after a seed and after each push, as parts of what is issued.
use Rattle.std.proofs.Common.{◌≡◌, ℕ, ◌<◌, ◌≤◌, ◌&&◌, cond, List, [], ◌∷◌, ◌++◌, Some, length, map, filter_map, sym, ◌∙◌, ap, arith}
use Rattle.std.proofs.lemmas.Bool.{lt-ltb}
use Rattle.std.proofs.lemmas.List.{append_assoc, append-nil, map-append}
use Rattle.std.proofs.lemmas.List.Elements.{filter_map-append}
use Rattle.fr_tags.specs.Placement.{is_held}
use Rattle.fr_log.specs.Push.{PushContent}
use Rattle.fr_log.specs.LogState.{LogState, seed_records_of, seeded_record, pushed_record, records_of}
use Rattle.fr_tail.specs.Tail.{TailState, part_at, seed_for}
use Rattle.fr_tail.specs.Copied.{RiseOn, SeedHasCopied}
use Rattle.fr_run.specs.Config.{Config}
use Rattle.fr_run_headline.specs.Issued.{Entry}
use Rattle.fr_run_headline.proofs.VersionLists.{RiseIn, rise_on}
use Rattle.fr_run_headline.proofs.IssuedLists.{version_of}
use Rattle.fr_run_headline.proofs.PartLists.{parts_of, part_of, part_concat, part_one}
use Rattle.fr_run_headline.proofs.PeekLists.{record_of, records_part}

-- a log that took the seed of a complete copy has of each tag that it holds what was copied, and of others nothing
pub holds_seed : SeedHasCopied → (s : TailState) (epoch m k log tag : ℕ) (l : LogState) → l.seed ≡ Some (seed_for s epoch m k log) → l.pushes ≡ [] → RiseOn (part_at s tag).records → tag < length s.parts
    → records_of l tag ≡ cond (is_held tag m k log) (part_at s tag).records []
holds_seed seeds s epoch m k log tag l seeded empty rise below =
    ap (λ o. filter_map (seeded_record tag) (seed_records_of o) ++ filter_map (pushed_record tag) l.pushes) seeded
    ∙ ap (λ ps. filter_map (seeded_record tag) (seed_for s epoch m k log).records ++ filter_map (pushed_record tag) ps) empty
    ∙ append-nil (filter_map (seeded_record tag) (seed_for s epoch m k log).records)
    ∙ seeds s epoch m k log tag rise
    ∙ ap (λ b. cond (b && is_held tag m k log) (part_at s tag).records []) (lt-ltb tag (length s.parts) below)

-- a push adds what it brings
pub holds_pushed : (l : LogState) (tag : ℕ) (p : PushContent) → records_of (record l { pushes = l.pushes ++ p ∷ [] }) tag ≡ records_of l tag ++ filter_map (pushed_record tag) (p ∷ [])
holds_pushed l tag p =
    ap (λ rs. filter_map (seeded_record tag) (seed_records_of l.seed) ++ rs) (filter_map-append (pushed_record tag) l.pushes (p ∷ []))
    ∙ sym (append_assoc (filter_map (seeded_record tag) (seed_records_of l.seed)) (filter_map (pushed_record tag) l.pushes) (filter_map (pushed_record tag) (p ∷ [])))

-- a log that has a tag's part through a version, and takes the push of the next entry, has the part through that entry's version
pub holds_next : (c : Config) (tag a low durable b : ℕ) (before : List Entry) (x : Entry) (after : List Entry) → RiseIn version_of a before durable → durable < x.version → RiseIn version_of x.version after b → low ≤ durable
    → (l : LogState) (p : PushContent) → records_of l tag ≡ records_part c tag (before ++ x ∷ after) low durable → filter_map (pushed_record tag) (p ∷ []) ≡ map record_of (parts_of c tag (x ∷ []))
    → records_of (record l { pushes = l.pushes ++ p ∷ [] }) tag ≡ records_part c tag (before ++ x ∷ after) low x.version
holds_next c tag a low durable b before x after front lt back le l p held brings =
    let xs = before ++ x ∷ after in
    let rise = rise_on version_of a durable b before (x ∷ after) front (lt, back) in
    let one = part_one c tag a durable b before x after front lt back in
    holds_pushed l tag p
    ∙ ap (λ rs. rs ++ filter_map (pushed_record tag) (p ∷ [])) held
    ∙ ap (λ rs. records_part c tag xs low durable ++ rs) (brings ∙ ap (map record_of) (sym one))
    ∙ sym (map-append record_of (part_of c tag low durable xs) (part_of c tag durable x.version xs))
    ∙ ap (map record_of) (part_concat c tag a b low durable x.version xs rise le (omega (arith, lt)))

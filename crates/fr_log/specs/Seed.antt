-- What a log is seeded with.
use Rattle.std.specs.Prelude.{◌≡◌, ℕ, ◌+◌, ◌≤◌, Bool, true, nat_lt, nat_le, ◌==◌, ◌&&◌, ◌||◌, List, [], ◌∷◌, IsTrue, refl}
use Rattle.std.specs.List.{list_all}
use Rattle.std.specs.Cmp.Lexicographic.{pointwise}
use Rattle.std.proofs.lemmas.Bool.{and_parts, eq-eqb, eqb-true}
use Rattle.fr_base.specs.Same.{IsSameness, pointwise-IsSameness}
use Rattle.fr_log.specs.Fields.{four}
use Rattle.fr_log.specs.declared.records.SeedRecord.{SeedRecord}
use Rattle.fr_log.specs.Records.{is_same_seed_record, is_same_seed_record-IsSameness}

-- the epoch of a log, the version at which that epoch starts, the last version that it takes over from the epoch before, and
-- the records of the log's tags at the versions between
pub record SeedContent : Type 0 where
  pub epoch : ℕ
  pub first : ℕ
  pub seeded_to : ℕ
  pub records : List SeedRecord

-- whether records rise strictly by version and then by tag, and none is below this version and tag
abbrev pub is_rising_from : ℕ → ℕ → List SeedRecord → Bool
is_rising_from version tag [] = true
is_rising_from version tag (r ∷ rs) =
    (nat_lt version r.version || (version == r.version) && nat_le tag r.tag) && is_rising_from r.version (r.tag + 1) rs

-- whether the version of a record is from first through seeded_to
abbrev pub is_within : ℕ → ℕ → SeedRecord → Bool
is_within first seeded_to r = nat_le first r.version && nat_le r.version seeded_to

-- the limits of a seed
pub record IsSeed (s : SeedContent) : Type 0 where
  pub first_low : 1 ≤ s.first
  pub first_high : s.first ≤ s.seeded_to + 1
  pub rising : IsTrue (is_rising_from 0 0 s.records)
  pub within : IsTrue (list_all (is_within s.first s.seeded_to) s.records)

-- whether two seeds are the same
abbrev pub is_same_seed : SeedContent → SeedContent → Bool
is_same_seed s t =
    (s.epoch == t.epoch) && ((s.first == t.first) && ((s.seeded_to == t.seeded_to) && pointwise is_same_seed_record s.records t.records))

pub is_same_seed-IsSameness : IsSameness is_same_seed
is_same_seed-IsSameness = record { itself = itself; same = same }
  where
    lists : IsSameness (pointwise is_same_seed_record)
    lists = pointwise-IsSameness is_same_seed_record-IsSameness

    itself : (s : SeedContent) → is_same_seed s s ≡ true
    itself s = rw (eq-eqb s.epoch s.epoch refl, eq-eqb s.first s.first refl, eq-eqb s.seeded_to s.seeded_to refl) (lists.itself s.records)

    same : (s t : SeedContent) → is_same_seed s t ≡ true → s ≡ t
    same s t e =
        let p = and_parts (s.epoch == t.epoch) ((s.first == t.first) && ((s.seeded_to == t.seeded_to) && pointwise is_same_seed_record s.records t.records)) e in
        let q = and_parts (s.first == t.first) ((s.seeded_to == t.seeded_to) && pointwise is_same_seed_record s.records t.records) p.1 in
        let r = and_parts (s.seeded_to == t.seeded_to) (pointwise is_same_seed_record s.records t.records) q.1 in
        four (λ epoch first seeded_to records. record { epoch = epoch; first = first; seeded_to = seeded_to; records = records })
        (eqb-true s.epoch t.epoch p.0) (eqb-true s.first t.first q.0) (eqb-true s.seeded_to t.seeded_to r.0) (lists.same s.records t.records r.1)

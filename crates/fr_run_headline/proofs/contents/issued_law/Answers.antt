use Rattle.std.specs.Prelude.{ℕ, List, [], ◌∷◌, refl}
use Rattle.fr_run_headline.specs.Issued.{Entry}
use Rattle.fr_run_headline.specs.IssuedLaws.{VersionsRise}
use Rattle.fr_run_headline.proofs.VersionLists.{RiseIn}
use Rattle.fr_run_headline.proofs.IssuedLists.{version_of}
use Rattle.fr_run_headline.proofs.Parts.{issued_rises, issued_lasts}
use Rattle.fr_run_headline.proofs.contents.issued_law.Goals as goal

rises : (low high : ℕ) (xs : List Entry) → RiseIn version_of low xs high → VersionsRise low xs high
rises low high [] k = k
rises low high (x ∷ xs) (lt, k) = (lt, rises x.version high xs k)

pub returns : goal.returns
returns c =
    let laws = c.lower_laws.ensures in
    record {
      first = λ w h. refl;
      rises = λ w h config run e g at. rises 0 _ _ (issued_rises laws.nodes w h config run e g at);
      lasts = issued_lasts laws.nodes;
    }

-- The version of the library, as a text.
use Rattle.std.specs.Prelude.{ℕ, List, codes}

abbrev pub version_text : List ℕ
version_text = codes "0.2.0"

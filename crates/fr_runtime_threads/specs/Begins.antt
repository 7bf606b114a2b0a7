-- How the journal of a recoverer starts.
use Rattle.std.specs.Prelude.{◌≡◌, List, [], ◌∷◌, Option, None, Some}
use Rattle.fr_base.specs.Shape.{ShapeContent}
use Rattle.fr_audit_journal.specs.declared.act.Act.{Act}
use Rattle.fr_audit_journal.specs.declared.act.Act.TheVariants.{Begun}
use Rattle.fr_audit_journal.specs.declared.act.Entry.{Entry}

-- what was entered first
abbrev pub first_act : List Entry → Option Act
first_act [] = None
first_act (e ∷ es) = Some e.act

-- the first entry is that a recoverer began, to open a generation of this shape
abbrev pub StartsWithBegun : Option ShapeContent → List Entry → Type 0
StartsWithBegun shape es = first_act es ≡ Some (Begun shape)

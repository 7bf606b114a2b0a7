-- Only what ballots that wrote have read matters.
use Rattle.std.proofs.Common.{◌≡◌, ℕ, List, [], ◌∷◌, refl, sym, subst}
use Rattle.std.specs.List.{Contains}
use Rattle.fr_base.proofs.ListLemmas.{Contains-here, Contains-later}
use Rattle.fr_register.specs.CellState.{CellState}
use Rattle.fr_register.specs.Poll.{Stamped}
use Rattle.fr_register.specs.History.{Turn, IsWritten}
use Rattle.fr_register.specs.Made.{Making, IsMadeAsk, AllMade}
use Rattle.fr_register.specs.Law.{OnlyWritersMatter}
use Rattle.fr_register.specs.declared.ask.CellAsk.{CellAsk}
use Rattle.fr_register.specs.declared.ask.CellAsk.TheVariants.{Read, Write}

same_ask : (n : ℕ) (first : CellState) (making other : ℕ → Making) (before : List Turn) (a : CellAsk) → ((b : ℕ) (x : List ℕ) → a ≡ Write b x → making b ≡ other b) → IsMadeAsk n first making before a → IsMadeAsk n first other before a
same_ask n first making other before (Read b) same m = tt
same_ask n first making other before (Write b x) same m =
    let e = same b x refl in
    record { one_value = rw (sym e) m.one_value; unused = m.unused; majority = rw (sym e) m.majority; told = rw (sym e) m.told }

same_makings : (n : ℕ) (first : CellState) (making other : ℕ → Making) (turns : List Turn) → ((p : Stamped) → IsWritten turns p → making p.ballot ≡ other p.ballot) → AllMade n first making turns → AllMade n first other turns
same_makings n first making other [] same m = tt
same_makings n first making other (t ∷ before) same m = (
  same_ask n first making other before t.ask (λ b x e. same (record { ballot = b; value = x })
      (record { cell = t.cell; tell = t.tell; comes = subst (λ (a : CellAsk). Contains (t ∷ before) (record { cell = t.cell; ask = a; tell = t.tell })) e (Contains-here t before) })) m.0,
  same_makings n first making other before (λ p w. same p (record { cell = w.cell; tell = w.tell; comes = Contains-later t before _ w.comes })) m.1,
)

pub only_writers_matter : OnlyWritersMatter
only_writers_matter n first making other turns same h = record { within = h.within; history = h.history; made = same_makings n first making other turns same h.made }

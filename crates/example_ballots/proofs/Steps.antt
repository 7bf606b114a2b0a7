-- A phase at cells and a ballot that are known is the phase at what they are.
use Rattle.std.proofs.Common.{◌≡◌, ℕ, List, [], ◌∙◌, ap}
use Rattle.fr_register.specs.CellState.{CellState}
use Rattle.fr_register.specs.Tally.{progress_of}
use Rattle.fr_register.specs.declared.poll.Progress.{Progress}
use Rattle.example_ballots.specs.declared.phases.ReadOutcome.{ReadOutcome}
use Rattle.example_ballots.specs.declared.scenes.Attempt.{Attempt}
use Rattle.example_ballots.specs.Phase.{after_read, after_write, read_of_two, write_of_two, found_by}
use Rattle.example_ballots.specs.Scene.{after_attempt, attempt_of}

-- a cell that promised this ballot and was never written
abbrev pub promised : ℕ → CellState
promised b = record { promised = b; written = 0; value = [] }

pub read_cell : (b n : ℕ) (c s d : CellState) → b ≡ n → c ≡ s → d ≡ after_read c b → d ≡ after_read s n
read_cell b n c s d e k h = h ∙ (ap (λ u. after_read c u) e ∙ ap (λ u. after_read u n) k)

pub written_cell : (b n : ℕ) (x : List ℕ) (c s d : CellState) → b ≡ n → c ≡ s → d ≡ after_write c b x → d ≡ after_write s n x
written_cell b n x c s d e k h = h ∙ (ap (λ u. after_write c u x) e ∙ ap (λ u. after_write u n x) k)

pub read_found : (b n i j : ℕ) (c s d t : CellState) (f : ReadOutcome) → b ≡ n → c ≡ s → d ≡ t →
    f ≡ found_by (read_of_two b i c j d) → f ≡ found_by (read_of_two n i s j t)
read_found b n i j c s d t f e k m h =
    h ∙ (ap (λ u. found_by (read_of_two u i c j d)) e ∙ (ap (λ u. found_by (read_of_two n i u j d)) k ∙ ap (λ u. found_by (read_of_two n i s j u)) m))

pub write_came_to : (b n i j : ℕ) (x : List ℕ) (c s d t : CellState) (p : Progress) → b ≡ n → c ≡ s → d ≡ t →
    p ≡ progress_of (write_of_two b x i c j d).poll → p ≡ progress_of (write_of_two n x i s j t).poll
write_came_to b n i j x c s d t p e k m h =
    h ∙ (ap (λ u. progress_of (write_of_two u x i c j d).poll) e ∙ (ap (λ u. progress_of (write_of_two n x i u j d).poll) k ∙ ap (λ u. progress_of (write_of_two n x i s j u).poll) m))

pub attempted_cell : (b n : ℕ) (x : List ℕ) (c s d : CellState) → b ≡ n → c ≡ s → d ≡ after_attempt c b x → d ≡ after_attempt s n x
attempted_cell b n x c s d e k h = h ∙ (ap (λ u. after_attempt c u x) e ∙ ap (λ u. after_attempt u n x) k)

pub attempted : (b n i j : ℕ) (x : List ℕ) (c s d t : CellState) (a : Attempt) → b ≡ n → c ≡ s → d ≡ t →
    a ≡ attempt_of b x i c j d → a ≡ attempt_of n x i s j t
attempted b n i j x c s d t a e k m h =
    h ∙ (ap (λ u. attempt_of u x i c j d) e ∙ (ap (λ u. attempt_of n x i u j d) k ∙ ap (λ u. attempt_of n x i s j u) m))

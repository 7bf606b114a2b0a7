-- What an answer that is as reading says has to do with spellings.
use Rattle.std.proofs.Common.{◌≡◌, ℕ, ◌<◌, List, get_or, Fits, w8, Result, Ok, Err, refl, ap, ◌∙◌, arith}
use Rattle.std.specs.Prelude.{◌≢◌, IfOk, IfErr, MatchResult}
use Rattle.std.proofs.lemmas.List.Elements.{All-from_get_or}
use Rattle.fr_state.specs.declared.fault.StateDecodeFault.{StateDecodeFault}
use Rattle.fr_state.specs.declared.fault.StateDecodeFault.TheVariants.{Short, BadForm, Trailing, Memory}
use Rattle.fr_state.specs.BigEndian.{AreBytes}
use Rattle.fr_state.specs.Generations.{CoordinatedState, IsCoordinatedState}
use Rattle.fr_state.specs.Reading.{reading}
use Rattle.fr_state.specs.Spelling.{spelling}
use Rattle.fr_state.proofs.SpellingLemmas.{reading_again, reading_one}

pub are_bytes : (bytes : List ℕ) → ((i : ℕ) → Fits w8 (get_or bytes i 0)) → AreBytes bytes
are_bytes bytes h = All-from_get_or (λ b. b < 256) bytes 0 (λ i within. omega (arith, h i))

pub found : (r : Result CoordinatedState StateDecodeFault) (bytes : List ℕ) → AreBytes bytes → IfOk r (λ s. reading bytes ≡ Ok s) → IfOk r (λ s. IsCoordinatedState s × (bytes ≡ spelling s))
found (Ok s) bytes h e = reading_one bytes s h e
found (Err fault) bytes h e = tt

is_memory : (fault : StateDecodeFault) (bytes : List ℕ) (s : CoordinatedState) → reading bytes ≡ Ok s → (fault ≢ Memory → reading bytes ≡ Err fault) → fault ≡ Memory
is_memory Short bytes s e refused = let k = refused (λ q. cc) in absurd cc
is_memory BadForm bytes s e refused = let k = refused (λ q. cc) in absurd cc
is_memory Trailing bytes s e refused = let k = refused (λ q. cc) in absurd cc
is_memory Memory bytes s e refused = refl

pub only : (r : Result CoordinatedState StateDecodeFault) (bytes : List ℕ) → IfOk r (λ s. reading bytes ≡ Ok s) → IfErr r (λ fault. fault ≢ Memory → reading bytes ≡ Err fault)
    → (s : CoordinatedState) → IsCoordinatedState s → bytes ≡ spelling s → MatchResult r (λ t. t ≡ s) (λ fault. fault ≡ Memory)
only (Ok t) bytes ok refused s sound e = let k = ap reading e ∙ reading_again s sound in cc
only (Err fault) bytes ok refused s sound e = is_memory fault bytes s (ap reading e ∙ reading_again s sound) refused

-- Asks one after another.
use Rattle.std.proofs.Common.{◌≡◌, ℕ, zero, suc, ◌+◌, ◌<◌, List, [], ◌∷◌, ◌++◌, length, get_or, take, refl, sym, ap, ◌∙◌, arith, append_assoc, subst, ◌⊎◌, inl, inr}
use Rattle.std.specs.Prelude.{Option, Some, fold, All}
use Rattle.std.proofs.lemmas.List.{append-nil, take_more}
use Rattle.std.proofs.lemmas.List.Sums.{fold-append}
use Rattle.std.proofs.lemmas.List.Elements.{All-append, All-head, All-tail}
use Rattle.fr_record_node.specs.Replay.{replayed, next_replayed}
use Rattle.fr_record_node.specs.Several.{after_all, told_all, written_all}

told_apart : {M A T : Type 0} (after : M → A → M) (told : M → A → T) (m : M) (front behind : List A) → told_all after told m (front ++ behind) ≡ told_all after told m front ++ told_all after told (after_all after m front) behind
told_apart after told m [] behind = refl
told_apart after told m (ask ∷ front) behind = ap (λ l. told m ask ∷ l) (told_apart after told (after m ask) front behind)

written_apart : {M A : Type 0} (after : M → A → M) (written : M → A → List (List ℕ)) (m : M) (front behind : List A) → written_all after written m (front ++ behind) ≡ written_all after written m front ++ written_all after written (after_all after m front) behind
written_apart after written m [] behind = refl
written_apart after written m (ask ∷ front) behind =
    ap (λ l. written m ask ++ l) (written_apart after written (after m ask) front behind)
    ∙ sym (append_assoc (written m ask) (written_all after written (after m ask) front) (written_all after written (fold after (after m ask) front) behind))

-- what is true of one ask is true of one after another
module _ {M A : Type 0} (after : M → A → M) (IsSound : M → Type 0) (IsAsk : A → Type 0) (stays : (m : M) (a : A) → IsSound m → IsAsk a → IsSound (after m a)) where
  pub all_sound : (m : M) (asks : List A) → IsSound m → All IsAsk asks → IsSound (after_all after m asks)
  all_sound m [] sound within = sound
  all_sound m (a ∷ asks) sound within = all_sound (after m a) asks (stays m a sound (All-head IsAsk a asks within)) (All-tail IsAsk a asks within)

  pub all_replay : (replay : M → List ℕ → Option M) (written : M → A → List (List ℕ)) → ((m : M) (a : A) → IsSound m → IsAsk a → replayed replay (Some m) (written m a) ≡ Some (after m a))
      → (m : M) (asks : List A) → IsSound m → All IsAsk asks → replayed replay (Some m) (written_all after written m asks) ≡ Some (after_all after m asks)
  all_replay replay written replays m [] sound within = refl
  all_replay replay written replays m (a ∷ asks) sound within =
      let is_ask = All-head IsAsk a asks within in
      fold-append (next_replayed replay) (Some m) (written m a) (written_all after written (after m a) asks)
      ∙ ap (λ o. replayed replay o (written_all after written (after m a) asks)) (replays m a sound is_ask)
      ∙ all_replay replay written replays (after m a) asks (stays m a sound is_ask) (All-tail IsAsk a asks within)

pub all_fresh : {M A : Type 0} (after : M → A → M) (fresh : M → M) → ((m : M) (a : A) → fresh (after m a) ≡ fresh m) → (m : M) (asks : List A) → fresh (after_all after m asks) ≡ fresh m
all_fresh after fresh same m [] = refl
all_fresh after fresh same m (a ∷ asks) = all_fresh after fresh same (after m a) asks ∙ same m a

all_cons : {A : Type 0} (P : A → Type 0) (a : A) (rest : List A) → P a → All P rest → All P (a ∷ rest)
all_cons P a rest first others zero d h = first
all_cons P a rest first others (suc i) d h = others i d (omega (arith, h))

pub none_asked : {A : Type 0} (P : A → Type 0) → All P []
none_asked P i d h = absurd (omega (arith, h))

-- what is kept for the while changes nothing of what is told and written
module _ {M A : Type 0} (after kept : M → A → M) (settled : M → M) (IsAsk : A → Type 0) where
  -- once it lets go, n is where the asks lead m, and so it stays
  abbrev pub Settles : M → M → Type 0
  Settles n m = (asks : List A) → All IsAsk asks → settled (after_all kept n asks) ≡ after_all after m asks

  settles_on : (n m : M) (a : A) → IsAsk a → Settles n m → Settles (kept n a) (after m a)
  settles_on n m a is_ask here asks within = here (a ∷ asks) (all_cons IsAsk a asks is_ask within)

  pub told_kept : {T : Type 0} (told : M → A → T) → ((m : M) (a : A) → told (settled m) a ≡ told m a)
      → (n m : M) (asks : List A) → All IsAsk asks → Settles n m → told_all kept told n asks ≡ told_all after told m asks
  told_kept told same n m [] within here = refl
  told_kept told same n m (a ∷ asks) within here =
      ap (λ t. t ∷ told_all kept told (kept n a) asks) (sym (same n a) ∙ ap (λ x. told x a) (here [] (none_asked IsAsk)))
      ∙ ap (λ l. told m a ∷ l) (told_kept told same (kept n a) (after m a) asks (All-tail IsAsk a asks within) (settles_on n m a (All-head IsAsk a asks within) here))

  pub written_kept : (written : M → A → List (List ℕ)) → ((m : M) (a : A) → written (settled m) a ≡ written m a)
      → (n m : M) (asks : List A) → All IsAsk asks → Settles n m → written_all kept written n asks ≡ written_all after written m asks
  written_kept written same n m [] within here = refl
  written_kept written same n m (a ∷ asks) within here =
      ap (λ r. r ++ written_all kept written (kept n a) asks) (sym (same n a) ∙ ap (λ x. written x a) (here [] (none_asked IsAsk)))
      ∙ ap (λ l. written m a ++ l) (written_kept written same (kept n a) (after m a) asks (All-tail IsAsk a asks within) (settles_on n m a (All-head IsAsk a asks within) here))

-- a loop over asks, at one of them
module _ {M A : Type 0} (after : M → A → M) (first : M) (asks : List A) (i : ℕ) (ask : A) (h : i < length asks) (is : ask ≡ get_or asks i ask) (m : M) (so_far : m ≡ after_all after first (take i asks)) where
  one_more : take (i + 1) asks ≡ take i asks ++ ask ∷ []
  one_more = take_more asks i ask h ∙ ap (λ a. take i asks ++ a ∷ []) (sym is)

  pub after_more : (n : M) → n ≡ after m ask → n ≡ after_all after first (take (i + 1) asks)
  after_more n n_is =
      n_is ∙ ap (λ x. after x ask) so_far ∙ sym (fold-append after first (take i asks) (ask ∷ [])) ∙ ap (λ l. after_all after first l) (sym one_more)

  pub told_more : {T : Type 0} (told : M → A → T) (tells more : List T) → tells ≡ told_all after told first (take i asks) → more ≡ tells ++ told m ask ∷ [] → more ≡ told_all after told first (take (i + 1) asks)
  told_more told tells more tells_is more_is =
      more_is ∙ ap (λ l. l ++ told m ask ∷ []) tells_is ∙ ap (λ x. told_all after told first (take i asks) ++ told x ask ∷ []) so_far
      ∙ sym (told_apart after told first (take i asks) (ask ∷ [])) ∙ ap (λ l. told_all after told first l) (sym one_more)

  pub written_more : (written : M → A → List (List ℕ)) (group more : List (List ℕ)) → group ≡ written_all after written first (take i asks) → more ≡ group ++ written m ask → more ≡ written_all after written first (take (i + 1) asks)
  written_more written group more group_is more_is =
      more_is ∙ ap (λ l. l ++ written m ask) group_is ∙ ap (λ x. written_all after written first (take i asks) ++ written x ask) so_far
      ∙ ap (λ l. written_all after written first (take i asks) ++ l) (sym (append-nil (written (after_all after first (take i asks)) ask)))
      ∙ sym (written_apart after written first (take i asks) (ask ∷ [])) ∙ ap (λ l. written_all after written first l) (sym one_more)

  pub asked_more : (IsAsk : A → Type 0) → All IsAsk (take i asks) → IsAsk ask → All IsAsk (take (i + 1) asks)
  asked_more IsAsk within is_ask = subst (λ l. All IsAsk l) (sym one_more) (All-append IsAsk (take i asks) (ask ∷ []) within (all_cons IsAsk ask [] is_ask (none_asked IsAsk)))

  -- the asks that were taken if memory runs out
  pub front_of : (n : M) → (n ≡ m) ⊎ (n ≡ after m ask) → (front : List A) × (n ≡ after_all after first front)
  front_of n (inl same) = (take i asks, same ∙ so_far)
  front_of n (inr more) = (take (i + 1) asks, after_more n more)

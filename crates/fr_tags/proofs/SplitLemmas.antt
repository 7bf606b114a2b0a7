-- The bodies of a batch, one tag after the other.
use Rattle.std.proofs.Common.{◌≡◌, ℕ, zero, suc, ◌+◌, Bool, true, false, not, cond, ◌||◌, nat_lt, List, [], ◌∷◌, ◌++◌, map, length, get_or, Option, None, Some, refl, sym, ◌∙◌, ap, arith, append-nil}
use Rattle.std.specs.Prelude.{is_some}
use Rattle.std.specs.List.{filter, list_any, list_all, range_with_len, cons_option}
use Rattle.std.proofs.lemmas.Bool.{lt-ltb}
use Rattle.std.proofs.lemmas.List.{map-append}
use Rattle.std.proofs.lemmas.List.FromFn.{filter_of_map_range_with_len_more, map-range_with_len_more}
use Rattle.fr_mutation.specs.declared.mutation.Mutation.{Mutation}
use Rattle.fr_mutation.specs.declared.shard.Shard.{Shard}
use Rattle.fr_mutation.specs.Clip.{clip_one, clipped}
use Rattle.fr_tags.specs.declared.body.Body.{Body}
use Rattle.fr_tags.specs.Shards.{shard_at, meets}
use Rattle.fr_tags.specs.Split.{body_of, is_filled_body}

-- no place of a list without a mark is marked
pub none_marked : (marks : List Bool) (t : ℕ) → list_all not marks ≡ true → get_or marks t false ≡ false
none_marked [] t e = refl
none_marked (true ∷ marks) t e = absurd (cc)
none_marked (false ∷ marks) zero e = refl
none_marked (false ∷ marks) (suc t) e = none_marked marks t e

first_met : (o : Option Mutation) (rest : List Mutation) (met : Bool) → nat_lt 0 (length rest) ≡ met → nat_lt 0 (length (cons_option o rest)) ≡ (is_some o || met)
first_met None rest met e = e
first_met (Some kept) rest met e = lt-ltb 0 (length (kept ∷ rest)) (omega arith)

-- a clip is filled exactly if some mutation meets the shard
pub filled_where_met : (mutations : List Mutation) (s : Shard) → nat_lt 0 (length (clipped mutations s)) ≡ list_any (λ mutation. meets mutation s) mutations
filled_where_met [] s = refl
filled_where_met (mutation ∷ mutations) s =
    first_met (clip_one s mutation) (clipped mutations s) (list_any (λ m. meets m s) mutations) (filled_where_met mutations s)

-- the bodies of one tag more
bodies_more : (begins : List (List ℕ)) (batch : List Mutation) (n : ℕ) (filled : Bool) → list_any (λ mutation. meets mutation (shard_at begins n)) batch ≡ filled
    → filter is_filled_body (map (body_of begins batch) (range_with_len 0 (n + 1))) ≡ filter is_filled_body (map (body_of begins batch) (range_with_len 0 n)) ++ cond filled (body_of begins batch n ∷ []) []
bodies_more begins batch n filled e =
    filter_of_map_range_with_len_more is_filled_body (body_of begins batch) 0 n n (omega arith)
    ∙ ap (λ b. filter is_filled_body (map (body_of begins batch) (range_with_len 0 n)) ++ cond b (body_of begins batch n ∷ []) []) (filled_where_met batch (shard_at begins n) ∙ e)

pub body_pushed : (begins : List (List ℕ)) (batch : List Mutation) (n number : ℕ) (body : List Mutation) (items more : List Body)
    → items ≡ filter is_filled_body (map (body_of begins batch) (range_with_len 0 n))
    → list_any (λ mutation. meets mutation (shard_at begins n)) batch ≡ true
    → number ≡ n → body ≡ clipped batch (shard_at begins n) → more ≡ items ++ record { tag = number; batch = body } ∷ []
    → more ≡ filter is_filled_body (map (body_of begins batch) (range_with_len 0 (n + 1)))
body_pushed begins batch n number body items more e met same clip p =
    p ∙ ap (λ t. items ++ record { tag = t; batch = body } ∷ []) same ∙ ap (λ b. items ++ record { tag = n; batch = b } ∷ []) clip ∙ ap (λ xs. xs ++ body_of begins batch n ∷ []) e
    ∙ sym (bodies_more begins batch n true met)

pub body_skipped : (begins : List (List ℕ)) (batch : List Mutation) (n : ℕ) (items : List Body)
    → items ≡ filter is_filled_body (map (body_of begins batch) (range_with_len 0 n))
    → list_any (λ mutation. meets mutation (shard_at begins n)) batch ≡ false
    → items ≡ filter is_filled_body (map (body_of begins batch) (range_with_len 0 (n + 1)))
body_skipped begins batch n items e none =
    e ∙ sym (append-nil (filter is_filled_body (map (body_of begins batch) (range_with_len 0 n)))) ∙ sym (bodies_more begins batch n false none)

-- one log more
pub log_pushed : {V B : Type 0} (items : V → List B) (f : ℕ → List B) (logs more : List V) (part : V) (n : ℕ)
    → map items logs ≡ map f (range_with_len 0 n) → items part ≡ f n → more ≡ logs ++ part ∷ [] → map items more ≡ map f (range_with_len 0 (n + 1))
log_pushed items f logs more part n e here p =
    ap (map items) p ∙ map-append items logs (part ∷ []) ∙ ap (λ xs. xs ++ items part ∷ []) e ∙ ap (λ x. map f (range_with_len 0 n) ++ x ∷ []) here
    ∙ sym (map-range_with_len_more f 0 n n (omega arith))

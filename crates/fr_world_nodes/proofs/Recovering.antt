-- What a world keeps, as recoverers begin and are told.
use Rattle.std.proofs.Common.{◌≡◌, ℕ, Bool, true, false, cond, ◌==◌, List, ◌∷◌, Option, None, Some, refl, sym, ◌∙◌, ap, subst}
use Rattle.std.specs.Prelude.{IsSome, IfSome}
use Rattle.std.specs.Option.{option_map}
use Rattle.std.specs.Ordering.{nat_cmp, is_eq}
use Rattle.std.specs.Cmp.{nat_cmp_is}
use Rattle.std.specs.declared.cmp.Ordering.TheVariants.{Equal}
use Rattle.std.specs.FinMap.{nat_cmp-IsAntisymmetric}
use Rattle.std.specs.BTreeMap as tree
use Rattle.std.proofs.lemmas.Bool.{eqb-true, eq-eqb}
use Rattle.fr_base.specs.Shape.{ShapeContent}
use Rattle.fr_base.specs.declared.place.NodeId.{NodeId}
use Rattle.fr_base.proofs.MapLemmas.{one_key}
use Rattle.fr_register.specs.CellState.{CellState}
use Rattle.fr_ask.specs.declared.tell.Tell.{Tell}
use Rattle.fr_epoch.specs.Asks.{new_asks}
use Rattle.fr_epoch.specs.Hear.{after_hear}
use Rattle.fr_epoch.specs.Recoverer.{RecState, new_recoverer}
use Rattle.fr_run.specs.Config.{Config}
use Rattle.fr_run.specs.Turn.{Turn, Sending, Begun, RecHeard}
use Rattle.fr_run.specs.Nodes.{rec_at}
use Rattle.fr_run.specs.Run.{IsTurn}
use Rattle.fr_run.specs.Laws.{Laws}
use Rattle.fr_world_nodes.specs.Parts.{IsWorld, AreRecoverers, Logs, Sequencers, Proxies, Recoverers, Storages}
use Rattle.fr_world_nodes.proofs.Quiet.{quiet_world}

-- a tree tells numbers apart as equality does
at_number : (n b : ℕ) → tree.is_at (nat_cmp n) b ≡ (n == b)
at_number n b = go (tree.is_at (nat_cmp n) b) (n == b) refl refl
  where
    go : (s t : Bool) → tree.is_at (nat_cmp n) b ≡ s → (n == b) ≡ t → s ≡ t
    go true t e k = sym (eq-eqb n b (one_key nat_cmp-IsAntisymmetric n b e)) ∙ k
    go false true e k = sym e ∙ sym (ap is_eq (nat_cmp_is n b Equal (eqb-true n b k)))
    go false false e k = refl

-- the recoverers after one of them began
pub begun : (c : Config) (h : List Turn) (b : ℕ) (shape : Option ShapeContent) (asks : List Sending) (recoverers new : Recoverers) (r : RecState) → AreRecoverers c h recoverers → r ≡ new_recoverer b c.cells c.begins shape
    → ((q : ℕ) → tree.get nat_cmp new q ≡ cond (tree.is_at (nat_cmp b) q) (Some r) (tree.get nat_cmp recoverers q)) → AreRecoverers c (Begun b shape asks ∷ h) new
begun c h b shape asks recoverers new r are made put q =
    put q ∙ (ap (λ s. cond s (Some r) (tree.get nat_cmp recoverers q)) (at_number b q)
    ∙ (ap (λ x. cond (b == q) (Some x) (tree.get nat_cmp recoverers q)) made ∙ ap (λ o. cond (b == q) (Some (new_recoverer b c.cells c.begins shape)) o) (are q)))

-- and after one of them heard
pub heard : (c : Config) (h : List Turn) (b : ℕ) (from : NodeId) (t : Tell) (asks : List Sending) (recoverers new : Recoverers) → AreRecoverers c h recoverers
    → ((q : ℕ) → tree.get nat_cmp new q ≡ cond (tree.is_at (nat_cmp b) q) (option_map (λ r. after_hear r from t) (tree.get nat_cmp recoverers b)) (tree.get nat_cmp recoverers q))
    → AreRecoverers c (RecHeard b from t asks ∷ h) new
heard c h b from t asks recoverers new are put q = put q ∙ (ap (λ s. cond s (option_map (λ r. after_hear r from t) (tree.get nat_cmp recoverers b)) (tree.get nat_cmp recoverers q)) (at_number b q) ∙ go (b == q) refl)
  where
    go : (s : Bool) → (b == q) ≡ s → cond s (option_map (λ r. after_hear r from t) (tree.get nat_cmp recoverers b)) (tree.get nat_cmp recoverers q) ≡ cond s (option_map (λ r. after_hear r from t) (rec_at c h q)) (rec_at c h q)
    go true e = ap (λ n. option_map (λ r. after_hear r from t) (tree.get nat_cmp recoverers n)) (eqb-true b q e) ∙ ap (option_map (λ r. after_hear r from t)) (are q)
    go false e = are q

-- what is kept after a begin
pub begun_world : Laws → (c : Config) (h later : List Turn) (b : ℕ) (shape : Option ShapeContent) (asks : List Sending) (cells : List CellState) (logs : Logs) (sequencers : Sequencers) (proxies : Proxies) (recoverers new : Recoverers) (r : RecState) (storages : Storages)
    → IsWorld c h cells logs sequencers proxies recoverers storages → IsTurn c h (Begun b shape asks) → r ≡ new_recoverer b c.cells c.begins shape
    → ((q : ℕ) → tree.get nat_cmp new q ≡ cond (tree.is_at (nat_cmp b) q) (Some r) (tree.get nat_cmp recoverers q)) → later ≡ Begun b shape asks ∷ h
    → IsWorld c later cells logs sequencers proxies new storages
begun_world laws c h later b shape asks cells logs sequencers proxies recoverers new r storages w is made put entered =
    quiet_world laws c h later (Begun b shape asks) (record { cells = λ ts. refl; logs = λ e i l. refl; sequencers = λ e s. refl; proxies = λ e p s. refl; storages = λ tag s. refl }) cells logs sequencers proxies recoverers new storages w is (begun c h b shape asks recoverers new r w.recoverers_are made put) entered

-- and after a tell
pub heard_world : Laws → (c : Config) (h later : List Turn) (b : ℕ) (from : NodeId) (t : Tell) (asks : List Sending) (cells : List CellState) (logs : Logs) (sequencers : Sequencers) (proxies : Proxies) (recoverers new : Recoverers) (storages : Storages)
    → IsWorld c h cells logs sequencers proxies recoverers storages → IsTurn c h (RecHeard b from t asks)
    → ((q : ℕ) → tree.get nat_cmp new q ≡ cond (tree.is_at (nat_cmp b) q) (option_map (λ r. after_hear r from t) (tree.get nat_cmp recoverers b)) (tree.get nat_cmp recoverers q)) → later ≡ RecHeard b from t asks ∷ h
    → IsWorld c later cells logs sequencers proxies new storages
heard_world laws c h later b from t asks cells logs sequencers proxies recoverers new storages w is put entered =
    quiet_world laws c h later (RecHeard b from t asks) (record { cells = λ ts. refl; logs = λ e i l. refl; sequencers = λ e s. refl; proxies = λ e p s. refl; storages = λ tag s. refl }) cells logs sequencers proxies recoverers new storages w is (heard c h b from t asks recoverers new w.recoverers_are put) entered

-- the asks of a tell are those of the recoverer that is told
told_turn : (c : Config) (h : List Turn) (b : ℕ) (from : NodeId) (a : Tell) (asks : List Sending) (o : Option RecState) → IsSome o → IfSome o (λ r. IsTurn c h (RecHeard b from a (new_asks r from a)))
    → IfSome o (λ r. asks ≡ new_asks r from a) → IsTurn c h (RecHeard b from a asks)
told_turn c h b from a asks None some turn gave = absurd (cc)
told_turn c h b from a asks (Some r) some turn gave = subst (λ x. IsTurn c h (RecHeard b from a x)) (sym gave) turn

pub told_world : Laws → (c : Config) (h later : List Turn) (b : ℕ) (from : NodeId) (a kept asked : Tell) (asks : List Sending) (cells : List CellState) (logs : Logs) (sequencers : Sequencers) (proxies : Proxies) (recoverers new : Recoverers) (storages : Storages)
    → IsWorld c h cells logs sequencers proxies recoverers storages → IsSome (rec_at c h b) → IfSome (rec_at c h b) (λ r. IsTurn c h (RecHeard b from a (new_asks r from a))) → kept ≡ a → asked ≡ a
    → IfSome (tree.get nat_cmp recoverers b) (λ r. asks ≡ new_asks r from asked)
    → ((q : ℕ) → tree.get nat_cmp new q ≡ cond (tree.is_at (nat_cmp b) q) (option_map (λ r. after_hear r from asked) (tree.get nat_cmp recoverers b)) (tree.get nat_cmp recoverers q))
    → later ≡ RecHeard b from kept asks ∷ h → IsWorld c later cells logs sequencers proxies new storages
told_world laws c h later b from a kept asked asks cells logs sequencers proxies recoverers new storages w there turn same copied gave put entered =
    let given : IfSome (rec_at c h b) (λ r. asks ≡ new_asks r from a) = subst (λ x. IfSome (rec_at c h b) (λ r. asks ≡ new_asks r from x)) copied (subst (λ o. IfSome o (λ r. asks ≡ new_asks r from asked)) (w.recoverers_are b) gave) in
    heard_world laws c h later b from a asks cells logs sequencers proxies recoverers new storages w (told_turn c h b from a asks (rec_at c h b) there turn given)
    (subst (λ x. (q : ℕ) → tree.get nat_cmp new q ≡ cond (tree.is_at (nat_cmp b) q) (option_map (λ r. after_hear r from x) (tree.get nat_cmp recoverers b)) (tree.get nat_cmp recoverers q)) copied put)
    (entered ∙ ap (λ x. RecHeard b from x asks ∷ h) same)

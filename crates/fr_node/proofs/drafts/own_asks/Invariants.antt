use Rattle.std.proofs.Common.{◌≡◌, ◌++◌, drop}
use Rattle.std.specs.Option.{option_map}
use Rattle.fr_node.specs.Groups.{owned_all}
use Rattle.fr_node.proofs.drafts.own_asks.Given as goal

-- the asks so far, and those of what is left, are those of all
abbrev pub invariant-loop-draft : goal.invariant-loop-draft
invariant-loop-draft g l = option_map (λ rest. l.asks.items ++ rest) (owned_all g.G.Grouping.owned (drop l.draft-index l.drafts)) ≡ owned_all g.G.Grouping.owned l.drafts

use Rattle.std.proofs.Common.{◌≡◌}
use Rattle.fr_runtime_threads.proofs.sending.bring_late.Given as goal

-- the same node, which has taken and said nothing more to its workload
abbrev pub invariant-loop-letter : goal.invariant-loop-letter
invariant-loop-letter g l = record {
  node : (g.H.Hearer.notes l.hearer).journal.node ≡ (g.H.Hearer.notes l.fn.hearer).journal.node;
  shape : g.H.Hearer.shape l.hearer ≡ g.H.Hearer.shape l.fn.hearer;
  given : g.H.Hearer.given l.hearer ≡ g.H.Hearer.given l.fn.hearer;
  told : g.H.Hearer.told l.hearer ≡ g.H.Hearer.told l.fn.hearer;
}

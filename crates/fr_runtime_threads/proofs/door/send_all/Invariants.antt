use Rattle.std.proofs.Common.{◌≡◌}
use Rattle.fr_runtime_threads.specs.Account.{account}
use Rattle.fr_runtime_threads.proofs.door.send_all.Given as goal

-- the proxy is the same, and has taken and said nothing more to its workload
abbrev pub invariant-loop-to : goal.invariant-loop-to
invariant-loop-to g l = record {
  place : l.door.notes.journal.node ≡ l.fn.door.notes.journal.node;
  given : (account l.door.notes.journal.entries).given ≡ (account l.fn.door.notes.journal.entries).given;
  told : l.door.told.items ≡ l.fn.door.told.items;
}

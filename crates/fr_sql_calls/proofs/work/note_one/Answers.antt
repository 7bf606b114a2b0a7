use Rattle.std.proofs.Common.{ap, sym, ◌∙◌, ◌+◌}
use Rattle.sqlite.specs.Held.{state}
use Rattle.fr_sql_calls.proofs.WorkLemmas.{notes_len}
use Rattle.fr_sql_calls.proofs.work.note_one.Goals as goal

pub returns-clause-rows : goal.returns-clause-rows
returns-clause-rows g c = λ e.
    c.in_ok-more.ensures.more
    ∙ ap (λ n. n + 1) e
    ∙ sym (notes_len (state g.S.Store c.args.tx.now.conn.now).now (state g.S.Store c.note.new.tx.conn.now).now c.args.version c.args.key.now c.args.change.now.before c.requires.absent c.in_ok-note.ensures.ok)

use Rattle.std.proofs.Common.{inl, inr, sym, subst}
use Rattle.sqlite.specs.Held.{state}
use Rattle.fr_sql_store.specs.Tables.{StoreLeaves}
use Rattle.fr_sql_store.proofs.StoreLemmas.{Lawful}
use Rattle.fr_sql_files.proofs.ShutLemmas.{found_leaves, lost_leaves}
use Rattle.fr_sql_files.proofs.shut.found_over.Goals as goal

pub returns-in-Ok-find : goal.returns-in-Ok-find
returns-in-Ok-find g c =
    let law : Lawful g.S.Store = record { clean = g.met.S.Backing.clean; settled = g.met.S.Store.settled; stays = g.met.S.Store.stays } in
    record {
      connected = record {
        found = subst (StoreLeaves g.S.Store c.args.tables) (sym c.over.ensures.state) (found_leaves g.S.Store law g.met.S.Store.broken_if_shut c.args.tables c.requires.fresh (state g.S.Store c.in-Ok.conn).now (state g.S.Store c.find.new.conn).now c.in-Ok.ensures.trees c.in-Ok-find.ensures.same.now);
        works = c.over.ensures.works;
        sound = c.over.ensures.sound;
        left_as_is = c.over.ensures.left_as_is;
        still = tt;
        trouble = tt;
      };
    }

pub returns-in-Err-find : goal.returns-in-Err-find
returns-in-Err-find g c =
    let law : Lawful g.S.Store = record { clean = g.met.S.Backing.clean; settled = g.met.S.Store.settled; stays = g.met.S.Store.stays } in
    record {
      connected = record {
        found = tt;
        works = tt;
        sound = tt;
        left_as_is = tt;
        still = lost_leaves g.S.Store law g.met.S.Store.broken_if_shut c.args.tables c.into_store.result c.in-Ok.conn c.requires.fresh c.in-Ok.ensures.rest c.in-Ok.ensures.trees
            (λ db may. elim (c.in-Err-find.ensures.survives.crash (g.met.S.Backing.clean c.find.new.conn.store) db (c.into_store.ensures.quiet.outcomes db may)) [ inl before ↦ before | inr none ↦ absurd none ]);
        trouble = c.in-Err-find.ensures.trouble;
      };
    }

pub returns-in-Err : goal.returns-in-Err
returns-in-Err g c = record {
  connected = record {
    found = tt;
    works = tt;
    sound = tt;
    left_as_is = tt;
    still = λ x (db, may, is). (db, c.in-Err.ensures.leaves db may, is);
    trouble = c.in-Err.ensures.trouble;
  };
}

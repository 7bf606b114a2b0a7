use Rattle.std.proofs.Common.{[], ◌∷◌}
use Rattle.fr_run_headline.proofs.laws.safety_law.Goals as goal

pub returns : goal.returns
returns c = record {
  safe = λ config h is run. record {
    order = record {
      durable = c.order_law.ensures.durable config h run;
      known = c.order_law-2.ensures.known config h is run;
      acknowledged = c.order_law-2.ensures.acknowledged config h is run;
      floors = c.order_law-2.ensures.floors config h is run;
      consistent = c.order_law-2.ensures.consistent config h run;
      marks = c.order_law-2.ensures.held config h is run;
      parts = c.contents_law.ensures.logs config h is run;
      left = c.contents_law.ensures.left config h is run;
    };
    replies = c.order_law.ensures.replies config h run;
    replied = c.replied_law.ensures.acknowledged config h is run;
    taken_over = c.replied_law.ensures.acknowledged_over config h is run;
    floors_taken_over = c.order_law-2.ensures.floors_over config h is run;
    follows = c.follow_law.ensures.exact config h is run;
    heard = c.follow_law.ensures.each config h is run;
    rolled_back = (c.headline_law.ensures.headline config h is run).0;
    batches = c.acknowledged_law.ensures.committed config h is run;
    acknowledged = (c.headline_law.ensures.headline config h is run).1;
    retrievable = c.headline_law.ensures.retrievable config h is run;
    removed = c.let_go_law.ensures.removed config h is run;
    never_removed = c.let_go_law.ensures.never config h is run;
    copies = c.let_go_law.ensures.copies config h is run;
    committed = c.committed_law.ensures.there config h is run;
  };
  turns = λ config h t is run. c.committed_law.ensures.grows config h (t ∷ []) is run;
  stands = λ config h is run. c.committed_law.ensures.grows config h [] is run;
}

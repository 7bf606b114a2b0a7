use Rattle.fr_run_headline.proofs.contents.lower_laws.Goals as goal

pub returns : goal.returns
returns c = record {
  nodes = c.node_laws.ensures;
  clips = c.split_law.ensures.clips;
  copy_starts = c.copy_law.ensures.start;
  copy_hears = c.copy_law.ensures.hear;
  copy_complete = c.copy_law.ensures.complete;
  copy_seeds = c.copy_law.ensures.seeds;
  left_records = c.letting_law.ensures.records;
}

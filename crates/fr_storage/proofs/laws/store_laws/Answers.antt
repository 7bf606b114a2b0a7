use Rattle.fr_storage.proofs.laws.store_laws.Goals as goal

pub returns : goal.returns
returns c = record {
  fresh_store = c.canonical_law.ensures.fresh;
  canonical = c.canonical_law.ensures.leads_on;
  source = c.source_law.ensures.some;
  earlier = c.cut_law.ensures.earlier;
  last_open = c.cut_law.ensures.last;
  above_end = c.cut_law.ensures.above_end;
  above_seed = c.cut_law.ensures.above_seed;
  below_last = c.cut_law.ensures.below_last;
  front_cut = c.front_law.ensures.cut;
  goes = c.going_law.ensures.exact;
  drop_last = c.drop_law.ensures.last;
  drop_cut = c.left_law.ensures.cut;
  same = c.equal_law.ensures;
  spelled = c.spelling_law.ensures.again;
}

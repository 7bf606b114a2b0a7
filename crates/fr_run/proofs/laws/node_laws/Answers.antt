use Rattle.fr_run.proofs.laws.node_laws.Goals as goal

pub returns : goal.returns
returns c = record {
  cells_hold = c.cell_law.ensures.holds;
  promises_kept = c.cell_law.ensures.keeps;
  extension = c.extend_law.ensures.state;
  drop_is_state = c.drop_law.ensures.state;
  drop_keeps_last = c.drop_law.ensures.last;
  left = c.dropping_law.ensures.left;
  shown = c.dropping_law.ensures.shown;
  spelled_is_read = c.spelling_law.ensures.again;
  log_grows = c.growth_law.ensures.ask;
  logs_grow = c.growth_law.ensures.asks;
  locked_stopped = c.tell_law.ensures.locked;
  nothing_raises = c.raise_law.ensures.nothing_else;
  proxy_hear = c.growth_law-2.ensures.hear;
  proxy_submit = c.growth_law-2.ensures.submit;
  submit_accounted = c.account_law.ensures.submit;
  proxy_accounted = c.account_law.ensures.new;
  proxy_stays = c.account_law.ensures.stays;
  read_majority = c.register_law.ensures.read_tally;
  ready_descends = c.parent_law.ensures.ready;
  later_descends = c.parent_law.ensures.descends;
  rec_change = c.recovery_law.ensures.change;
  rec_new = c.kept_law.ensures.new;
  rec_kept = c.kept_law.ensures.hear;
  rec_grows = c.recovery_law.ensures.grows;
  rec_pending = c.recovery_law.ensures.pending;
  rec_accounted = c.recovery_law.ensures.new;
  rec_stays = c.recovery_law.ensures.stays;
  proxy_heard = c.heard_law.ensures.heard;
  proxy_pushes = c.heard_law.ensures.pushes;
  held_held = c.tell_law.ensures.held;
  one_push = c.tell_law.ensures.one_push;
  written_answers = c.answer_law.ensures.written;
  start_least = c.parent_law.ensures.least;
  new_write = c.faithful_law.ensures.new_write;
  write_hears = c.faithful_law.ensures.write_hears;
  write_stays = c.faithful_law.ensures.write_stays;
  write_majority = c.faithful_law.ensures.write;
  log_answers = c.tell_law.ensures.answer;
  rec_seeded = c.write_law.ensures.seeded;
  all_seeded = c.write_law.ensures.written;
}

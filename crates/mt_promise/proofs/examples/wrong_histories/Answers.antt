use Rattle.mt_promise.proofs.examples.wrong_histories.Goals as goal
use Rattle.mt_promise.proofs.ExampleLemmas.{late_absence, early_row, key_left_out, wrong_commit, two_commits, amount_left}
use Rattle.mt_promise.proofs.PageExamples.{after_drop_refuted, left_behind_refuted}

pub returns : goal.returns
returns c = record {
  late_absence = late_absence;
  early_row = early_row;
  key_left_out = key_left_out;
  wrong_commit = wrong_commit;
  two_commits = two_commits;
  amount_left = amount_left;
  page_after_drop = after_drop_refuted;
  page_left_behind = left_behind_refuted;
}

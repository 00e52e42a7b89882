-- Changes whose first n are the same: what a log has of these.
use Rattle.std.proofs.Common.{◌≡◌, ◌∙◌, ◌++◌, ◌+◌, ◌-◌, ◌≤◌, ℕ, List, length, take, drop, sym, ap, arith}
use lib.Seq.{take-take}
use Rattle.std.proofs.lemmas.List.{drop-take, length-take}
use Rattle.mt_types.specs.Rows.{after}
use Rattle.mt_types.specs.declared.row.Change.{Change}
use Rattle.mt_frame.specs.declared.entry.Entry.{Entry}
use Rattle.mt_frame.specs.declared.entry.LogHeader.{LogHeader}
use Rattle.mt_replay.specs.Redo.{number_after}
use Rattle.mt_replay.specs.RedoLaws.{HaveCommits}
use Rattle.mt_replay.specs.Replay.{records_of}
use Rattle.mt_replay.proofs.ReplayLemmas.{records_taken}
use Rattle.mt_folder_laws.specs.Grown.{IsSealed}
use Rattle.mt_folder_laws.proofs.CopiedLemmas.{number-append}

module _ (C : ℕ) (changes later : List Change) (n : ℕ) (same : take n later ≡ take n changes) where
  front_alike : (k : ℕ) → k ≤ n → take k changes ≡ take k later
  front_alike k le = sym (take-take k n changes le) ∙ ap (take k) (sym same) ∙ take-take k n later le

  pub within_alike : n ≤ length changes → n ≤ length later
  within_alike le = omega (arith, le, ap length same, length-take n later, length-take n changes)

  pub rows_alike : (k : ℕ) → k ≤ n → after C (take k changes) ≡ after C (take k later)
  rows_alike k le = ap (after C) (front_alike k le)

  records_alike : (b k : ℕ) → b + k ≤ n → take k (drop b (records_of C changes)) ≡ take k (drop b (records_of C later))
  records_alike b k le =
      sym (drop-take b k (records_of C changes))
      ∙ ap (drop b) (records_taken C (b + k) changes ∙ ap (records_of C) (front_alike (b + k) le) ∙ sym (records_taken C (b + k) later))
      ∙ drop-take b k (records_of C later)

  pub commits_alike : (b : ℕ) (entries : List Entry) → number_after b entries ≤ n → HaveCommits C changes b entries → HaveCommits C later b entries
  commits_alike b entries le have = have ∙ records_alike b (number_after b entries - b) (omega (arith, le))

  pub sealed_alike : (header : LogHeader) (first more : List Entry) → number_after header.base (first ++ more) ≤ n → IsSealed C changes header first more → IsSealed C later header first more
  sealed_alike header first more le sealed = record {
    columns = sealed.columns;
    sealed = sealed.sealed;
    rows = sealed.rows ∙ rows_alike (number_after header.base first) (omega (arith, le, number-append header.base first more));
    more = sealed.more;
    commits = commits_alike (number_after header.base first) more (omega (arith, le, number-append header.base first more)) sealed.commits;
  }

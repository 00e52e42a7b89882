-- The commits and the rows that were read of an index at a moment are those of its changes.
use Rattle.std.proofs.Common.{◌≡◌, ◌⊎◌, ◌∙◌, ◌+◌, ℕ, List, [], length, map, take, drop, Ok, Option, Some, None, Result, Err, ap, arith, inl, inr, subst, sym}
use Rattle.std.specs.Prelude.{OnOk}
use Rattle.std.specs.Global.{Vec}
use Rattle.mt_types.specs.Rows.{after}
use Rattle.mt_types.specs.declared.limits.TheConstants.{MAX_RANGE}
use Rattle.mt_types.specs.declared.row.Change.{Change}
use Rattle.mt_types.specs.declared.row.Delta.{Delta}
use Rattle.mt_frame.specs.declared.entry.Part.{Part}
use Rattle.mt_journal.specs.declared.position.Position.{Position}
use Rattle.mt_promise.specs.Alone.{IsRangeOfMap}
use Rattle.mt_promise.specs.History.{History, moment}
use Rattle.mt_commit.specs.Logged.{deltas_of}
use Rattle.mt_index.specs.Stands.{MachineView, Stands}
use Rattle.mt_replay.specs.Replay.{record_of}
use Rattle.mt_shared.specs.Feeds.{FeedsSomewhere}
use Rattle.mt_folder_log.specs.declared.checkpoint.Other.{Other}
use Rattle.mt_folder_log.specs.declared.checkpoint.Other.TheVariants.{Free, Needed, Gone}
use Rattle.mt_folder_log.specs.declared.checkpoint.TheConstants.{PART}
use Rattle.mt_folder_log.specs.declared.log.FolderLog.{FolderLog}
use Rattle.mt_folder_log.specs.Folder.{AllRecover, AreNext, AreNextRows, HasChanges}
use Rattle.mt_folder_log.specs.Moving.{start_of, IfNeeded}
use Rattle.mt_folder_log.proofs.ChangeLemmas.{recovers}
use Rattle.mt_folder_log.proofs.MovingLemmas.{both_ok}
use Rattle.mt_folder_log.proofs.MadeLemmas.{next_records, next_rows}
use Rattle.mt_logger.specs.declared.error.LoggerError.{LoggerError}
use Rattle.mt_logger.specs.declared.logger.Logger.{Logger}
use Rattle.mt_logger.specs.Following.{AreReady, Follows, HasMade, KeepsChanges}
use Rattle.mt_logger.specs.Reading.{AreOfMoment}

-- the commits that come next are those of the changes
pub next_fed : {D : Type 0} (changes : List Change) (m : MachineView) (log : FolderLog D) (deltas : List Delta) → HasMade changes m log
    → ((h : History) → Stands m h → deltas ≡ take MAX_RANGE (drop log.journal.at.newest (deltas_of m.columns (moment h).commits)))
    → AreNext log.columns changes log.journal.at.newest (map record_of deltas)
next_fed changes m log deltas made are =
    let n = log.journal.at.newest in
    let commits = (moment made.h).commits in
    subst (λ (C : ℕ). AreNext C changes n (map record_of deltas)) made.columns
    (subst (λ (ds : List Delta). AreNext m.columns changes n (map record_of ds)) (sym (are made.h made.stands))
    (next_records m.columns changes commits n made.made MAX_RANGE made.loaded))

-- the rows are those after the first n changes, if the index has made as many
pub rows_of_changes : {D : Type 0} (changes : List Change) (m : MachineView) (log : FolderLog D) (n : ℕ) (part : Part) (start : List ℕ) → (made : HasMade changes m log)
    → n ≡ length (moment made.h).commits → ((h : History) → Stands m h → IsRangeOfMap (after m.columns (moment h).commits) [] start PART part.rows)
    → IsRangeOfMap (after log.columns (take n changes)) [] start PART part.rows
rows_of_changes changes m log n part start made all rows =
    let commits = (moment made.h).commits in
    subst (λ (C : ℕ). IsRangeOfMap (after C (take n changes)) [] start PART part.rows) made.columns
    (next_rows m.columns changes commits n made.made start PART part.rows all (rows made.h made.stands))

-- no rows are to be copied
pub ready_none : {D : Type 0} (changes : List Change) (C n : ℕ) (other : Other D) (ready : Option Part) → ready ≡ None → AreReady C changes n other ready
ready_none changes C n other ready none = subst (λ (it : Option Part). AreReady C changes n other it) (sym none) tt

module _ {D : Type 0} (seen : D → List ℕ) (may_leave : D → List ℕ → Type 0) (changes : List Change) where
  -- nothing was written
  pub unwritten : (logger : Logger D) → KeepsChanges seen may_leave changes logger → AllRecover may_leave changes logger.log.journal.at.durable logger.log.journal.at.generation logger.log
  unwritten logger keeps = recovers logger.log.columns seen may_leave changes logger.log.journal.at logger.log.journal.disk logger.log.other keeps.0

  pub keeps_either : (old new : Logger D) → (new ≡ old) ⊎ (new.ready ≡ None) → KeepsChanges seen may_leave changes old → HasChanges seen may_leave changes new.log → KeepsChanges seen may_leave changes new
  keeps_either old new either keeps has = elim either [
    | inl same ↦ subst (λ (it : Logger D). KeepsChanges seen may_leave changes it) (sym same) keeps
    | inr none ↦ (has, ready_none changes new.log.columns new.log.journal.at.newest new.log.other new.ready none)
  ]

  -- these rows are to be copied
  pub keeps_part : (logger : Logger D) (part : Part) → logger.ready ≡ Some part → AreNextRows logger.log.columns changes logger.log.journal.at.newest logger.log.other part → HasChanges seen may_leave changes logger.log → KeepsChanges seen may_leave changes logger
  keeps_part logger part some are has =
      (has, subst (λ (ready : Option Part). AreReady logger.log.columns changes logger.log.journal.at.newest logger.log.other ready) (sym some) are)

-- of a log that is as long, beside the same file
pub ready_same : {D : Type 0} (changes : List Change) (C columns n newest : ℕ) (other same : Other D) (ready : Option Part) → columns ≡ C → newest ≡ n → same ≡ other → AreReady C changes n other ready → AreReady columns changes newest same ready
ready_same {D} changes C columns n newest other same ready as_many as_long is are =
    subst (λ (it : Other D). AreReady columns changes newest it ready) (sym is)
    (subst (λ (k : ℕ). AreReady columns changes k other ready) (sym as_long)
    (subst (λ (k : ℕ). AreReady k changes n other ready) (sym as_many) are))

pub map_needed : {D : Type 0} {P Q : ℕ → Type 0} (other : Other D) → ((copied : ℕ) → P copied → Q copied) → IfNeeded other P → IfNeeded other Q
map_needed (Free disk most) f p = tt
map_needed (Needed disk last copied has_all) f p = f copied p
map_needed Gone f p = tt

map_ok : {A E P Q : Type 0} (result : Result A E) → (P → Q) → OnOk result P → OnOk result Q
map_ok (Ok x) f p = f p
map_ok (Err e) f p = tt

-- ---- a call that writes what it was fed
module _ {D T : Type 0} (seen : D → List ℕ) (may_leave : D → List ℕ → Type 0) (old new : Logger D) (result : Result T LoggerError) (list : Vec Delta) (read : List Delta) (is : read ≡ list.items) (fed : FeedsSomewhere old.log.journal.at.newest MAX_RANGE (Ok list)) where
  next_read : (changes : List Change) → HasMade changes fed.kept.machine old.log → AreNext old.log.columns changes old.log.journal.at.newest (map record_of read)
  next_read changes made = next_fed changes fed.kept.machine old.log read made (λ h stands. is ∙ fed.feeds.deltas h stands)

  pub follows_fed : (new ≡ old) ⊎ (new.ready ≡ None)
      → ((changes : List Change) → HasChanges seen may_leave changes old.log → AreNext old.log.columns changes old.log.journal.at.newest (map record_of read) → OnOk result (HasChanges seen may_leave changes new.log))
      → ((changes : List Change) → HasChanges seen may_leave changes old.log → AreNext old.log.columns changes old.log.journal.at.newest (map record_of read) → AllRecover may_leave changes old.log.journal.at.durable old.log.journal.at.generation new.log)
      → Follows seen may_leave old new result
  follows_fed either changes recover = record {
    m = fed.kept.machine;
    is = (fed.keeps.stands.0, fed.keeps.stands.1);
    changes = λ all made keeps. map_ok result (keeps_either seen may_leave all old new either keeps) (changes all keeps.0 (next_read all made));
    recover = λ all made keeps. recover all keeps.0 (next_read all made);
  }

-- ---- and one that writes what was read with rows
module _ {D T : Type 0} (seen : D → List ℕ) (may_leave : D → List ℕ → Type 0) (old new : Logger D) (result : Result T LoggerError) (deltas : List Delta) (part : Part) (start : List ℕ) (read : AreOfMoment old.log.journal.at.newest start deltas part) (from : start ≡ start_of old.log.other) where
  next_of_moment : (changes : List Change) → HasMade changes read.m old.log → AreNext old.log.columns changes old.log.journal.at.newest (map record_of deltas)
  next_of_moment changes made = next_fed changes read.m old.log deltas made read.deltas_are

  -- the rows that are copied next are those after its commits, which the log has
  part_of_moment : new.ready ≡ Some part → new.log.columns ≡ old.log.columns → new.log.other ≡ old.log.other → new.log.journal.at.newest ≡ old.log.journal.at.newest + length deltas
      → (changes : List Change) → HasMade changes read.m old.log → HasChanges seen may_leave changes new.log → KeepsChanges seen may_leave changes new
  part_of_moment ready columns other newest changes made has =
      let n = new.log.journal.at.newest in
      let all : n ≡ length (moment made.h).commits = omega (arith, newest, read.all, made.stands.commits) in
      let rows = rows_of_changes changes read.m old.log n part start made all read.rows_are in
      let after_columns = subst (λ (C : ℕ). IsRangeOfMap (after C (take n changes)) [] start PART part.rows) (sym columns) rows in
      let starts : start ≡ start_of new.log.other = from ∙ ap start_of (sym other) in
      keeps_part seen may_leave changes new part ready (subst (λ (key : List ℕ). IsRangeOfMap (after new.log.columns (take n changes)) [] key PART part.rows) starts after_columns) has

  pub follows_read : OnOk result (new.ready ≡ Some part) → new.log.columns ≡ old.log.columns → new.log.other ≡ old.log.other → OnOk result (new.log.journal.at.newest ≡ old.log.journal.at.newest + length deltas)
      → ((changes : List Change) → HasChanges seen may_leave changes old.log → AreNext old.log.columns changes old.log.journal.at.newest (map record_of deltas) → OnOk result (HasChanges seen may_leave changes new.log))
      → ((changes : List Change) → HasChanges seen may_leave changes old.log → AreNext old.log.columns changes old.log.journal.at.newest (map record_of deltas) → AllRecover may_leave changes old.log.journal.at.durable old.log.journal.at.generation new.log)
      → Follows seen may_leave old new result
  follows_read ready columns other newest changes recover = record {
    m = read.m;
    is = read.is;
    changes = λ all made keeps. both_ok result (λ are (long, has). part_of_moment are columns other long all made has) ready (both_ok result (λ long has. (long, has)) newest (changes all keeps.0 (next_of_moment all made)));
    recover = λ all made keeps. recover all keeps.0 (next_of_moment all made);
  }

-- what was read after the position that the log has
pub moment_at : (told at : Position) (start : List ℕ) (found deltas : List Delta) (part : Part) → told ≡ at → deltas ≡ found → AreOfMoment told.newest start found part → AreOfMoment at.newest start deltas part
moment_at told at start found deltas part is same read =
    subst (λ (ds : List Delta). AreOfMoment at.newest start ds part) (sym same) (subst (λ (p : Position). AreOfMoment p.newest start found part) is read)

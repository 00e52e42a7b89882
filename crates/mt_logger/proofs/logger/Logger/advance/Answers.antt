use Rattle.std.proofs.Common.{◌≡◌, ◌∙◌, ◌==◌, Option, length, subst, sym}
use Rattle.std.specs.Prelude.{is_some, nat_lt, IfOk, IfSome, OnOk}
use Rattle.mt_types.specs.Numbers.{greatest_number}
use Rattle.mt_frame.specs.declared.entry.Part.{Part}
use Rattle.mt_journal.specs.Appending.{with_part}
use Rattle.mt_folder_log.specs.declared.checkpoint.TheConstants.{PART}
use Rattle.mt_folder_log.specs.Moving.{end_of, round_of, IsAfter}
use Rattle.mt_logger.specs.declared.checkpoint.Advanced.TheVariants.{Goes}
use Rattle.mt_logger.specs.declared.checkpoint.Step.{Step}
use Rattle.mt_logger.specs.declared.checkpoint.Step.TheVariants.{Moves, Copies}
use Rattle.mt_logger.specs.Rounds.{next_of, Advances, Copied, Has}
use Rattle.mt_logger.proofs.StepLemmas.{of_copies, of_moves, of_some, some_moves, step_copies, step_moves}
use Rattle.mt_logger.proofs.logger.Logger.advance.Goals as goal

pub returns-in-Moves : goal.returns-in-Moves
returns-in-Moves g c = λ mixes.
    let old = c.args.self.now in
    let log = old.log in
    let is : Moves ≡ next_of old = sym c.in-Moves.is ∙ c.next_step.ensures in
    let round = step_moves (log.journal.at.generation == greatest_number) (is_some old.ready) (round_of log.least log.journal.at log.other) is in
    let some = some_moves log.least log.journal.at log.other round in
    let begun = c.begin.ensures in
    subst (λ (step : Step). Advances step g.D.Disk.seen g.D.Disk.may_leave g.D.Disk.is_usable old c.begin.new.self c.begin.result) is
    (record {
      done = begun.done;
      before = λ header entries has. of_moves log.least log.journal.at log.other round (begun.before header entries has some);
      begins = of_moves log.least log.journal.at log.other round (begun.begins some);
      newest = begun.newest;
      stays = begun.stays;
      keeps = record { changes = λ changes keeps. begun.changes changes keeps.0; recover = λ changes keeps. begun.recover changes keeps.0 };
    })

pub returns-in-Copies : goal.returns-in-Copies
returns-in-Copies g c = λ mixes.
    let old = c.args.self.now in
    let new = c.copy.new.self in
    let log = old.log in
    let is : Copies ≡ next_of old = sym c.in-Copies.is ∙ c.next_step.ensures in
    let (round, some) = step_copies (log.journal.at.generation == greatest_number) (is_some old.ready) (round_of log.least log.journal.at log.other) is in
    let mixing = mixes new.log.journal.disk in
    let copied = c.copy.ensures in
    subst (λ (step : Step). Advances step g.D.Disk.seen g.D.Disk.may_leave g.D.Disk.is_usable old new c.copy.result) is
    (of_some old.ready (λ (ready : Option Part). Copied g.D.Disk.seen g.D.Disk.may_leave g.D.Disk.is_usable ready old new c.copy.result) some
    (λ part ready. record {
      done = subst (λ (it : Option Part). IfOk c.copy.result (λ done. IfSome it (λ rows. done ≡ Goes))) ready copied.done;
      kept = λ header entries has. subst (λ (it : Option Part). IfSome it (λ rows. OnOk c.copy.result (IsAfter (end_of rows) (nat_lt (length rows.rows) PART) log.other new.log.other
          × Has g.D.Disk.seen g.D.Disk.may_leave new header (with_part rows entries)))) ready (copied.kept header entries has mixing);
      newest = copied.newest;
      stays = copied.stays;
      keeps = record {
        changes = λ changes keeps. of_copies log.least log.journal.at log.other round (copied.changes changes keeps mixing);
        recover = λ changes keeps. of_copies log.least log.journal.at log.other round (copied.recover changes keeps mixing);
      };
    }))

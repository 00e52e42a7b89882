use Rattle.std.proofs.Common.{◌≡◌, ℕ, List, ◌++◌, drop, sym, ap, ◌∙◌, arith}
use Rattle.mt_frame.specs.Spelling.{frame_of}
use Rattle.mt_journal.specs.Log.{last_number}
use Rattle.mt_journal.proofs.Frames.{frame_some}
use Rattle.mt_journal.proofs.Reading.{read_more, ahead, no_fault, no_order}
use Rattle.mt_journal.proofs.recovery.next_entry.Goals as goal

pub returns-in-Some-clause-some : goal.returns-in-Some-clause-some
returns-in-Some-clause-some c = λ header entries read.
    let whole = rw c.in-Ok-Some.field-0-is at c.in-Ok-Some.ensures.whole in
    let at = c.args.at.now in
    let parts : drop at.end c.args.bytes.now ≡ frame_of at.generation at.end c.in-Ok-Some.entry ++ drop c.in-Ok-Some.count (drop at.end c.args.bytes.now) =
    sym c.rest_of.ensures ∙ whole.1 ∙ ap (λ (l : List ℕ). frame_of at.generation at.end c.in-Ok-Some.entry ++ drop c.in-Ok-Some.count l) c.rest_of.ensures in
    read_more header entries c.in-Ok-Some.entry at c.args.bytes.now c.in-Ok-Some.count c.in-Some.newest read whole.0 parts whole.2 c.in-Some.ensures.some.0 c.in-Some.ensures.some.1

pub returns-in-Some-clause-more : goal.returns-in-Some-clause-more
returns-in-Some-clause-more c =
    let whole = rw c.in-Ok-Some.field-0-is at c.in-Ok-Some.ensures.whole in
    omega (arith, whole.2, frame_some c.args.at.now.generation c.args.at.now.end c.in-Ok-Some.entry)

pub returns-in_default-clause-refused : goal.returns-in_default-clause-refused
returns-in_default-clause-refused c = λ header entries others read log small.
    absurd (no_order c.args.at.now c.args.bytes.now c.rest_of.result.now (last_number header.base others) c.in-Ok-Some.entry c.in-Ok-Some.count c.rest_of.ensures (ahead header entries others c.args.at.now c.args.bytes.now read log) small
    (rw c.in-Ok-Some.field-0-is at c.in-Ok-Some.ensures.ended) (rw c.in-Ok-Some.field-0-is at c.in-Ok-Some.ensures.only) c.in_default.ensures.none)

pub returns-in-Err-Faulty-clause-refused : goal.returns-in-Err-Faulty-clause-refused
returns-in-Err-Faulty-clause-refused c = λ header entries others read log small.
    absurd (no_fault c.args.at.now c.args.bytes.now c.rest_of.result.now (last_number header.base others) c.in-Err-Faulty.fault c.rest_of.ensures (ahead header entries others c.args.at.now c.args.bytes.now read log)
    (rw c.in-Err-Faulty.field-0-is at c.in-Err-Faulty.ensures.ended) (rw c.in-Err-Faulty.field-0-is at c.in-Err-Faulty.ensures.only))

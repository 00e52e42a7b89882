use Rattle.std.proofs.Common.{refl, ap, ◌∙◌}
use Rattle.mt_frame.specs.declared.entry.LogHeader.{LogHeader}
use Rattle.mt_journal.proofs.Reading.{header_read_as, no_header_fault, no_end_before, no_fault_at, no_end_at, header_is, header_is_at, same_header_of}
use Rattle.mt_journal.proofs.recovery.read_header.Goals as goal

pub returns-in_default-clause-refused : goal.returns-in_default-clause-refused
returns-in_default-clause-refused c = λ header others log same.
    absurd (c.in_default.ensures.none header (header_is header others c.args.bytes.now c.in-Ok-Some.entry c.in-Ok-Some.count log (rw c.in-Ok-Some.field-0-is at c.in-Ok-Some.ensures.only)))

pub returns-then-header-columns-clause-refused : goal.returns-then-header-columns-clause-refused
returns-then-header-columns-clause-refused c = λ header others log same.
    let is = header_is header others c.args.bytes.now c.in-Ok-Some.entry c.in-Ok-Some.count log (rw c.in-Ok-Some.field-0-is at c.in-Ok-Some.ensures.only) in
    let one = same_header_of c.in-Some.header header c.in-Ok-Some.entry c.in-Some.ensures.some is in
    absurd (c.if-header-columns.true (ap (λ (h : LogHeader). h.columns) one ∙ same))

pub returns-else-header-columns-clause-refused : goal.returns-else-header-columns-clause-refused
returns-else-header-columns-clause-refused c = λ header others log same.
    same_header_of c.in-Some.header header c.in-Ok-Some.entry c.in-Some.ensures.some (header_is header others c.args.bytes.now c.in-Ok-Some.entry c.in-Ok-Some.count log (rw c.in-Ok-Some.field-0-is at c.in-Ok-Some.ensures.only))

pub returns-else-header-columns-clause-read : goal.returns-else-header-columns-clause-read
returns-else-header-columns-clause-read c =
    let whole = rw c.in-Ok-Some.field-0-is at c.in-Ok-Some.ensures.whole in
    (header_read_as c.in-Some.header c.in-Ok-Some.entry c.in-Ok-Some.count c.args.bytes.now c.in-Some.ensures.some whole.0 whole.1 whole.2, refl)

pub returns-in-Ok-None-clause-refused : goal.returns-in-Ok-None-clause-refused
returns-in-Ok-None-clause-refused c = λ header others log same.
    absurd (no_end_before header others c.args.bytes.now log (rw c.in-Ok-None.field-0-is at c.in-Ok-None.ensures.only))

pub returns-in-Err-Faulty-clause-refused : goal.returns-in-Err-Faulty-clause-refused
returns-in-Err-Faulty-clause-refused c = λ header others log same.
    absurd (no_header_fault header others c.args.bytes.now c.in-Err-Faulty.fault log (rw c.in-Err-Faulty.field-0-is at c.in-Err-Faulty.ensures.only))

-- the same of bytes of which the frame of a header is at the front
pub returns-in_default-clause-headed : goal.returns-in_default-clause-headed
returns-in_default-clause-headed c = λ header rest has parts same.
    absurd (c.in_default.ensures.none header (header_is_at header rest c.args.bytes.now has parts c.in-Ok-Some.entry c.in-Ok-Some.count (rw c.in-Ok-Some.field-0-is at c.in-Ok-Some.ensures.only)))

pub returns-then-header-columns-clause-headed : goal.returns-then-header-columns-clause-headed
returns-then-header-columns-clause-headed c = λ header rest has parts same.
    let is = header_is_at header rest c.args.bytes.now has parts c.in-Ok-Some.entry c.in-Ok-Some.count (rw c.in-Ok-Some.field-0-is at c.in-Ok-Some.ensures.only) in
    let one = same_header_of c.in-Some.header header c.in-Ok-Some.entry c.in-Some.ensures.some is in
    absurd (c.if-header-columns.true (ap (λ (h : LogHeader). h.columns) one ∙ same))

pub returns-else-header-columns-clause-headed : goal.returns-else-header-columns-clause-headed
returns-else-header-columns-clause-headed c = λ header rest has parts same.
    same_header_of c.in-Some.header header c.in-Ok-Some.entry c.in-Some.ensures.some (header_is_at header rest c.args.bytes.now has parts c.in-Ok-Some.entry c.in-Ok-Some.count (rw c.in-Ok-Some.field-0-is at c.in-Ok-Some.ensures.only))

pub returns-in-Ok-None-clause-headed : goal.returns-in-Ok-None-clause-headed
returns-in-Ok-None-clause-headed c = λ header rest has parts same.
    absurd (no_end_at header rest c.args.bytes.now has parts (rw c.in-Ok-None.field-0-is at c.in-Ok-None.ensures.only))

pub returns-in-Err-Faulty-clause-headed : goal.returns-in-Err-Faulty-clause-headed
returns-in-Err-Faulty-clause-headed c = λ header rest has parts same.
    absurd (no_fault_at header rest c.args.bytes.now has parts c.in-Err-Faulty.fault (rw c.in-Err-Faulty.field-0-is at c.in-Err-Faulty.ensures.only))

use Rattle.std.proofs.Common.{rules, ◌≡◌, ◌∙◌, ◌++◌, Some, sym, ap, drop, length, arith}
use Rattle.mt_journal.specs.declared.error.JournalError.TheVariants.{NoLog, NoMemory}
use Rattle.mt_journal.specs.Log.{header_frame}
use Rattle.mt_folder.proofs.HeaderLemmas as lemmas
use Rattle.mt_folder.proofs.looking.header_of.Goals as goal

-- an empty file has no log
pub returns-then-is_empty-clause-header : goal.returns-then-is_empty-clause-header
returns-then-is_empty-clause-header g c = λ clean header spells.
    let front = c.in_ok-bytes.bytes.items in
    let some = lemmas.some c.headers_are_short.ensures c.args.columns (g.D.Disk.seen c.args.disk.now) front header spells (c.in_ok-bytes.ensures.length clean) in
    let none : length front ≡ 0 = search rules in
    absurd (omega (arith, some, none))

-- the header that was read is that of the log
pub returns-in-Ok-clause-header : goal.returns-in-Ok-clause-header
returns-in-Ok-clause-header g c = λ clean header spells.
    let front = c.in_ok-bytes.bytes.items in
    let h = header_frame header in
    let parts : c.deref.result.now ≡ h ++ drop (length h) front =
    c.deref.ensures.value ∙ lemmas.begins c.headers_are_short.ensures c.args.columns (g.D.Disk.seen c.args.disk.now) front header spells (c.in_ok-bytes.ensures.length clean) (c.in_ok-bytes.ensures.front clean) in
    ap Some (c.in-Ok.ensures.headed header (drop (length h) front) spells.log.says.begins parts spells.columns)

-- a file without a header has no log
pub returns-in-Err-NoLog-clause-header : goal.returns-in-Err-NoLog-clause-header
returns-in-Err-NoLog-clause-header g c = λ clean header spells.
    let front = c.in_ok-bytes.bytes.items in
    let h = header_frame header in
    let parts : c.deref.result.now ≡ h ++ drop (length h) front =
    c.deref.ensures.value ∙ lemmas.begins c.headers_are_short.ensures c.args.columns (g.D.Disk.seen c.args.disk.now) front header spells (c.in_ok-bytes.ensures.length clean) (c.in_ok-bytes.ensures.front clean) in
    let wrong : NoLog ≡ NoMemory = sym c.in-Err-NoLog.field-0-is ∙ c.in-Err-NoLog.ensures.headed header (drop (length h) front) spells.log.says.begins parts spells.columns in
    absurd (cc)

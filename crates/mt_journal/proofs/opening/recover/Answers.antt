use Rattle.std.proofs.Common.{◌≡◌, ℕ, List, sym, subst, ◌∙◌, inr}
use Rattle.std.specs.Prelude.{IsTrue}
use Rattle.std.proofs.lemmas.Result.{err_from_is_err_and}
use Rattle.sqlite_disk.specs.Disk.{Only}
use Rattle.mt_journal.specs.Recovery.{HasReadAll}
use Rattle.mt_journal.proofs.Refused.{unread}
use Rattle.mt_journal.proofs.Repairs.{same_log}
use Rattle.mt_journal.proofs.opening.recover.Goals as goal

pub returns-in_err-repair-clause-crash : goal.returns-in_err-repair-clause-crash
returns-in_err-repair-clause-crash g c = λ header entries log clean mixes left may_left.
    let read = c.in_ok-recovered.recovered in
    let bytes_are : c.deref.result.now ≡ g.D.Disk.seen c.sync.new.self = c.deref.ensures.value ∙ c.in_ok-bytes.ensures.bytes (c.repair.ensures.clean clean) in
    let all = subst (λ (l : List ℕ). HasReadAll read.header read.entries.items read.at l) (bytes_are ∙ sym c.read_file.ensures.seen) c.in_ok-recovered.ensures.read in
    let only : Only (g.D.Disk.seen c.read_file.new.disk) (g.D.Disk.may_leave c.read_file.new.disk) = λ left may_left.
    c.in_ok-sync.ensures.durable left (c.read_file.ensures.crash left may_left) ∙ sym c.sync.ensures.seen ∙ sym c.read_file.ensures.seen in
    inr (same_log header read.header entries read.entries.items read.at (g.D.Disk.seen c.args.disk.now) (g.D.Disk.seen c.read_file.new.disk) left log all (c.read_file.ensures.seen ∙ c.sync.ensures.seen)
    (c.repair.ensures.crash read.header read.entries.items all mixes only left may_left))

pub returns-clause-crash : goal.returns-clause-crash
returns-clause-crash g c = λ header entries log clean mixes left may_left.
    let read = c.in_ok-recovered.recovered in
    let bytes_are : c.deref.result.now ≡ g.D.Disk.seen c.sync.new.self = c.deref.ensures.value ∙ c.in_ok-bytes.ensures.bytes (c.repair.ensures.clean clean) in
    let all = subst (λ (l : List ℕ). HasReadAll read.header read.entries.items read.at l) (bytes_are ∙ sym c.read_file.ensures.seen) c.in_ok-recovered.ensures.read in
    let only : Only (g.D.Disk.seen c.read_file.new.disk) (g.D.Disk.may_leave c.read_file.new.disk) = λ left may_left.
    c.in_ok-sync.ensures.durable left (c.read_file.ensures.crash left may_left) ∙ sym c.sync.ensures.seen ∙ sym c.read_file.ensures.seen in
    inr (same_log header read.header entries read.entries.items read.at (g.D.Disk.seen c.args.disk.now) (g.D.Disk.seen c.read_file.new.disk) left log all (c.read_file.ensures.seen ∙ c.sync.ensures.seen)
    (c.repair.ensures.crash read.header read.entries.items all mixes only left may_left))

pub returns-in_err-bytes-clause-refused : goal.returns-in_err-bytes-clause-refused
returns-in_err-bytes-clause-refused g c = λ header others log same small clean.
    let p = err_from_is_err_and c.from_residual-in_err-bytes.result c.from_residual-in_err-bytes.ensures.1 in
    rw (p.1, p.2) (unread (IsTrue (g.D.Disk.is_clean c.read_file.new.disk)) header others (g.D.Disk.seen c.sync.new.self) (g.D.Disk.seen c.args.disk.now)
    (g.D.Disk.faults c.sync.new.self) (g.D.Disk.faults c.read_file.new.disk) c.in_err-bytes.field-0.0 log c.sync.ensures.seen clean c.in_err-bytes.ensures.cause)

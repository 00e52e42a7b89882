use Rattle.std.proofs.Common.{◌≡◌, ℕ, ◌<◌, List, length, drop, replicate, sym, ap, subst, ◌∙◌, arith}
use Rattle.std.specs.Prelude.{IsTrue}
use Rattle.std.proofs.lemmas.Result.{err_from_is_err_and, IfOk-weaker}
use Rattle.std.proofs.lemmas.List.{length-replicate}
use Rattle.sqlite_disk.specs.Disk.{Holds, MoreFaults}
use Rattle.mt_frame.specs.declared.fault.EncodeError.TheVariants.{TooLong}
use Rattle.mt_journal.proofs.Caused.{encode_caused, steps_caused}
use Rattle.mt_journal.proofs.HeaderFits.{header_text, header_short}
use Rattle.mt_journal.proofs.Repairs.{zeros_first}
use Rattle.mt_journal.proofs.opening.start.Goals as goal

-- the header's frame was written over zeros
pub returns-clause-kept : goal.returns-clause-kept
returns-clause-kept g c =
    let room : ℕ = c.max-room.result in
    let seen = g.D.Disk.seen c.write_at.new.self in
    let are : c.deref.result.now ≡ replicate room 0 = c.deref.ensures.value ∙ c.in_ok-zeros.ensures in
    let held = subst (λ (l : List ℕ). 0 < length l → Holds seen 0 l) are c.in_ok-write_at.ensures.written in
    let some : 0 < room = omega (arith, c.if-room-len.false) in
    let first = zeros_first room seen (λ lt. held (subst (λ (n : ℕ). 0 < n) (sym (length-replicate {A = ℕ} room 0)) lt)) some in
    IfOk-weaker c.put_header.result _ _ (λ at kept. kept (drop (length {A = ℕ} (replicate room 0)) seen) (c.sync.ensures.seen ∙ first)) c.put_header.ensures.kept

pub returns-clause-cause : goal.returns-clause-cause
returns-clause-cause g c =
    let usable : IsTrue (g.D.Disk.is_usable c.args.disk.now) = sym c.may_be_used.ensures ∙ c.if-not-may_be_used.false in
    steps_caused c.put_header.result (g.D.Disk.is_usable c.args.disk.now) (g.D.Disk.faults c.args.disk.now) (g.D.Disk.faults c.sync.new.self) (g.D.Disk.faults c.put_header.new.disk) usable
    (c.in_ok-sync.ensures.faults ∙ c.in_ok-write_at.ensures.faults ∙ c.in_ok-len.ensures.faults) c.put_header.ensures.cause

pub returns-in_err-frame-clause-cause : goal.returns-in_err-frame-clause-cause
returns-in_err-frame-clause-cause g c =
    let p = err_from_is_err_and c.from_residual.result c.from_residual.ensures.1 in
    let usable : IsTrue (g.D.Disk.is_usable c.args.disk.now) = sym c.may_be_used.ensures ∙ c.if-not-may_be_used.false in
    let short : c.in_err-frame.field-0.0 ≡ TooLong → ⊥ = λ is. omega (arith, c.in_err-frame.ensures.text (cc) tt, header_text c.args.header) in
    rw (p.1, p.2) (encode_caused c.in_err-frame.field-0.0 (g.D.Disk.is_usable c.args.disk.now) (λ error. ⊥) (g.D.Disk.faults c.args.disk.now) usable short)

pub returns-then-room-len-clause-cause : goal.returns-then-room-len-clause-cause
returns-then-room-len-clause-cause g c = absurd (omega (arith, c.if-room-len.true, header_short c.args.header, ap length c.in_ok-frame.ensures.value))

pub returns-in_err-write_at-clause-cause : goal.returns-in_err-write_at-clause-cause
returns-in_err-write_at-clause-cause g c =
    let p = err_from_is_err_and c.from_residual-in_err-write_at.result c.from_residual-in_err-write_at.ensures.1 in
    rw (p.1, p.2) (
      sym c.may_be_used.ensures ∙ c.if-not-may_be_used.false,
      subst (λ (n : ℕ). MoreFaults n (g.D.Disk.faults c.write_at.new.self)) c.in_ok-len.ensures.faults c.in_err-write_at.ensures.faults.0,
    )

pub returns-in_err-sync-clause-cause : goal.returns-in_err-sync-clause-cause
returns-in_err-sync-clause-cause g c =
    let p = err_from_is_err_and c.from_residual-in_err-sync.result c.from_residual-in_err-sync.ensures.1 in
    rw (p.1, p.2) (
      sym c.may_be_used.ensures ∙ c.if-not-may_be_used.false,
      subst (λ (n : ℕ). MoreFaults n (g.D.Disk.faults c.sync.new.self)) (c.in_ok-write_at.ensures.faults ∙ c.in_ok-len.ensures.faults) c.in_err-sync.ensures.faults.0,
    )

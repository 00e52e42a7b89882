use Rattle.std.proofs.Common.{List, ℕ, subst, sym}
use Rattle.std.specs.Prelude.{Option, Some}
use Rattle.mt_steps.specs.Lone.{IsLoneTree}
use Rattle.mt_index.proofs.QuietStands.{quiet_tree}
use Rattle.mt_reads.specs.Back.{IsBefore}
use Rattle.mt_reads.specs.Reading.{IsKept}
use Rattle.mt_reads.proofs.BackLemmas.{reading_refilled, refill_falls}
use Rattle.mt_reads.proofs.reading.Reading.refill.Goals as goal

pub begin_before-requires-clause-lone : goal.begin_before-requires-clause-lone
begin_before-requires-clause-lone c =
    subst IsLoneTree (sym c.tree.ensures) (quiet_tree c.args.self.now.machine.now c.is_idle-stands.ensures.stands.0 c.is_idle-stands.ensures.stands.1 c.requires.reading.quiet)

pub returns-clause-reading : goal.returns-clause-reading
returns-clause-reading c =
    let old = c.args.self.now in
    reading_refilled old.machine.now old.unread old.is_bounded old.key.items old.chunk.keys.items old.chunk.rows.items c.requires.reading c.requires.none
    c.in_ok-start.start c.into_bytes.result c.key_bytes-bytes.ensures.bytes c.key_bytes-bytes.ensures.fits (subst (λ (u : Option (List ℕ)). IsBefore u c.in_ok-start.start) c.bound-end.ensures c.in_ok-start.ensures) c.into_bytes.ensures.value c.in_ok-self.field-0.keys.items c.in_ok-self.field-0.rows.items
    (subst (λ (u : Option (List ℕ)). IsKept old.machine.now c.in_ok-self.field-0.keys.items c.in_ok-self.field-0.rows.items (Some c.in_ok-start.start) u) c.bound-end.ensures c.in_ok-self.ensures)

pub returns-clause-further : goal.returns-clause-further
returns-clause-further c =
    let old = c.args.self.now in
    refill_falls old.machine.now old.unread old.is_bounded old.key.items old.chunk.keys.items old.chunk.rows.items c.requires.reading c.requires.none
    c.in_ok-start.start c.into_bytes.result c.key_bytes-bytes.ensures.bytes c.key_bytes-bytes.ensures.fits (subst (λ (u : Option (List ℕ)). IsBefore u c.in_ok-start.start) c.bound-end.ensures c.in_ok-start.ensures) c.into_bytes.ensures.value

use Rattle.std.proofs.Common.{◌≡◌, ◌∙◌, ◌+◌, ◌<◌, ◌≤◌, ℕ, None, ap, sym, arith}
use Rattle.std.specs.FinMap.{get, len}
use Rattle.mt_types.specs.Rows.{Rows}
use Rattle.mt_commit.specs.Log.{newest}
use Rattle.mt_index.specs.Calls.{changing}
use Rattle.mt_index.specs.Stands.{MachineView}
use Rattle.mt_reach.proofs.Reaching.{rows_are_reached}
use Rattle.mt_load.proofs.LoadLemmas.{can_be, ended, falls_length, idle_at, may_end}
use Rattle.mt_load.proofs.ending.end_at.Goals as goal

pub unused_key-requires : goal.unused_key-requires
unused_key-requires c =
    let (map, es, has) = c.requires in
    ap changing (idle_at map c.args.machine.now has.at)

pub can_end-requires : goal.can_end-requires
can_end-requires c =
    let (map, es, has) = c.requires in
    let counted = c.len-rows.ensures has.at.h has.at.stands ∙ ap len has.at.has in
    let many = has.many in
    let few = falls_length (newest c.args.machine.now.log) es has.falls in
    let number = c.commits-newest.ensures.number in
    let not_less = c.if-commits-newest.false in
    omega (arith, counted, many, few, number, not_less)

pub rebase-requires-clause-reached : goal.rebase-requires-clause-reached
rebase-requires-clause-reached c =
    let (map, es, has) = c.requires in
    let counted = c.len-rows.ensures has.at.h has.at.stands ∙ ap len has.at.has in
    let number = c.commits-newest.ensures.number in
    let not_less = c.if-commits-newest.false in
    let fits = c.ranges.commits.fits in
    let none = ap (λ (rs : Rows). get rs c.in-Some._unused) (sym has.at.has) ∙ c.in-Some.ensures.unused has.at.h has.at.stands in
    can_be rows_are_reached map es c.args.machine.now has c.args.commits (omega (arith, number, not_less)) (omega (arith, fits)) c.in-Some._unused c.in-Some.ensures.short none
    (may_end map es c.args.machine.now c.args.commits has (λ less. let room = c.can_end.ensures c.if-can_end.true (omega (arith, less, number)) in omega (arith, room, counted)) (omega (arith, number, not_less)))

pub returns-in-Some-clause-loaded : goal.returns-in-Some-clause-loaded
returns-in-Some-clause-loaded c = λ map es has.
    let counted = c.len-rows.ensures has.at.h has.at.stands ∙ ap len has.at.has in
    let number = c.commits-newest.ensures.number in
    let not_less = c.if-commits-newest.false in
    let fits = c.ranges.commits.fits in
    let none = ap (λ (rs : Rows). get rs c.in-Some._unused) (sym has.at.has) ∙ c.in-Some.ensures.unused has.at.h has.at.stands in
    ended map es c.args.machine.now c.rebase.new.self c.args.commits has c.rebase.ensures.after c.rebase.ensures.stands (omega (arith, number, not_less)) (omega (arith, fits)) c.in-Some._unused c.in-Some.ensures.short none
    (may_end map es c.args.machine.now c.args.commits has (λ less. let room = c.can_end.ensures c.if-can_end.true (omega (arith, less, number)) in omega (arith, room, counted)) (omega (arith, number, not_less)))

pub returns-in-Some-clause-idle : goal.returns-in-Some-clause-idle
returns-in-Some-clause-idle c =
    let (map, es, has) = c.requires in
    ap (λ (m : MachineView). m.calls.calls) c.rebase.ensures.after ∙ idle_at map c.args.machine.now has.at

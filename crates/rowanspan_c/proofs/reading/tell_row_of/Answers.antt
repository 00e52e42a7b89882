use Rattle.std.proofs.Common.{◌≡◌, Bool, false, true, refl, subst}
use Rattle.std.proofs.lemmas.Bool.{false≢true}
use Rattle.std.specs.Borrow.{Bor}
use Rattle.std.specs.Prelude.{Option, Result, Err}
use Rattle.mt_types.specs.declared.refusal.Refusal.{Refusal}
use Rattle.mt_types.specs.declared.row.Row.{Row}
use Rattle.std.specs.FinMap.{get}
use Rattle.std.specs.Option.{option_copied}
use Rattle.mt_promise.specs.History.{History, moment, rows}
use Rattle.mt_index.specs.Stands.{Stands}
use Rattle.rowanspan_c.proofs.RowRead.{found, absent, row_limited, never_long}
use Rattle.rowanspan_c.proofs.reading.tell_row_of.Goals as goal

pub tell_row-requires : goal.tell_row-requires
tell_row-requires c =
    let s = c.args.index.now.machine in
    row_limited s c.args.key.now c.args.columns.now c.args.into.now c.args.into.now 0 c.args.told.now c.in-Ok-Some.row.now c.commits-commits.ensures.stands
    (subst (λ row. (h : History) → Stands s h → option_copied row ≡ get (rows s.columns (moment h)) c.args.key.now) c.in-Ok-Some.field-0-is c.in-Ok-Some.ensures.row) c.requires

pub returns-in-Ok-Some : goal.returns-in-Ok-Some
returns-in-Ok-Some c =
    let s = c.args.index.now.machine in
    found s c.args.key.now c.args.columns.now c.args.into.now c.tell_row.new.into c.tell_row.result c.tell_row.new.told c.in-Ok-Some.row.now
    (subst (λ row. (h : History) → Stands s h → option_copied row ≡ get (rows s.columns (moment h)) c.args.key.now) c.in-Ok-Some.field-0-is c.in-Ok-Some.ensures.row) c.requires c.tell_row.ensures

pub returns-in-Ok-None : goal.returns-in-Ok-None
returns-in-Ok-None c =
    let s = c.args.index.now.machine in
    absent s c.args.key.now c.args.columns.now c.args.into.now c.args.into.now c.tell_absent.result c.tell_absent.new.told
    (subst (λ row. (h : History) → Stands s h → option_copied row ≡ get (rows s.columns (moment h)) c.args.key.now) c.in-Ok-None.field-0-is c.in-Ok-None.ensures.row) c.requires refl c.tell_absent.ensures

pub unreachable-requires : goal.unreachable-requires
unreachable-requires c =
    false≢true (never_long c.args.index.now.machine c.args.key.now c.args.columns.now (◌≡◌ {A = Bool} false true) (λ (due : Refusal). ◌≡◌ {A = Result (Option (Bor Row)) Refusal} (Err c.in-Err.field-0) (Err due))
    c.requires c.in-Err.ensures.fault)

use Rattle.std.proofs.Common.{◌≡◌, ◌∙◌, ℕ, List, ap, sym, subst}
use Rattle.mt_asked.specs.Borrowed.{sets_of}
use Rattle.mt_types.specs.Limits.{request_fault}
use Rattle.mt_types.specs.declared.event.Request.{Request}
use Rattle.mt_types.specs.declared.event.Request.TheVariants.{Put}
use Rattle.mt_replay.specs.Replay.{numbered}
use Rattle.mt_index.specs.Alone.{AnswersPlainly}
use Rattle.mt_load.proofs.LoadLemmas.{asks_none, entry_fits, idle_at, put_at, put_newest}
use Rattle.mt_load.proofs.putting.put.Goals as goal

pub do_alone-requires : goal.do_alone-requires
do_alone-requires c = idle_at c.requires.at.0 c.args.machine.now c.requires.at.1

pub returns-in-Ok-do_alone-clause-put : goal.returns-in-Ok-do_alone-clause-put
returns-in-Ok-do_alone-clause-put c = λ map at olds.
    let asks : c.in-Ok-checked.request ≡ Put c.args.key.now (numbered 0 c.args.row.now.columns) =
    c.in-Ok-checked.ensures.request ∙ ap (λ (k : List ℕ). Put k (sets_of c.deref.result.now)) c.as_slice.ensures.value ∙ ap (λ (sets : List (ℕ × List ℕ)). Put c.args.key.now sets) (ap sets_of c.deref.ensures.value ∙ c.in-Ok.ensures) in
    put_at c.args.machine.now c.do_alone.new.self map c.args.key.now c.args.row.now c.in-Ok-do_alone.field-0 at c.requires.wide
    (subst (λ (r : Request). AnswersPlainly c.args.machine.now r c.in-Ok-do_alone.field-0 c.do_alone.new.self) asks c.in-Ok-do_alone.ensures.answered) c.do_alone.ensures.options olds

pub returns-in-Ok-do_alone-clause-newest : goal.returns-in-Ok-do_alone-clause-newest
returns-in-Ok-do_alone-clause-newest c =
    let asks : c.in-Ok-checked.request ≡ Put c.args.key.now (numbered 0 c.args.row.now.columns) =
    c.in-Ok-checked.ensures.request ∙ ap (λ (k : List ℕ). Put k (sets_of c.deref.result.now)) c.as_slice.ensures.value ∙ ap (λ (sets : List (ℕ × List ℕ)). Put c.args.key.now sets) (ap sets_of c.deref.ensures.value ∙ c.in-Ok.ensures) in
    put_newest c.args.machine.now c.do_alone.new.self c.requires.at.0 c.args.key.now c.args.row.now c.in-Ok-do_alone.field-0 c.requires.at.1 c.requires.wide
    (subst (λ (r : Request). AnswersPlainly c.args.machine.now r c.in-Ok-do_alone.field-0 c.do_alone.new.self) asks c.in-Ok-do_alone.ensures.answered) c.do_alone.ensures.options

pub returns-in-Ok-do_alone-clause-fits : goal.returns-in-Ok-do_alone-clause-fits
returns-in-Ok-do_alone-clause-fits c =
    let asks : c.in-Ok-checked.request ≡ Put c.args.key.now (numbered 0 c.args.row.now.columns) =
    c.in-Ok-checked.ensures.request ∙ ap (λ (k : List ℕ). Put k (sets_of c.deref.result.now)) c.as_slice.ensures.value ∙ ap (λ (sets : List (ℕ × List ℕ)). Put c.args.key.now sets) (ap sets_of c.deref.ensures.value ∙ c.in-Ok.ensures) in
    entry_fits c.args.machine.now.columns c.args.key.now c.args.row.now c.requires.wide
    (asks_none c.args.machine.now.columns c.columns-columns.result _ c.in-Ok-checked.request (Put c.args.key.now (numbered 0 c.args.row.now.columns)) c.checked.result c.columns-columns.ensures c.in-Ok-checked.ensures.request asks c.in-Ok-checked.is c.checked.ensures.fault)

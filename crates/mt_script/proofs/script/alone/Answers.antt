use Rattle.std.proofs.Common.{◌∙◌, inl, inr, arith}
use Rattle.mt_types.specs.declared.event.Outcome.TheVariants.{Done, Refused}
use Rattle.mt_script.proofs.BaseLemmas.{alone_base}
use Rattle.mt_script.proofs.script.alone.Goals as goal

pub returns-in-Ok-clause-stands : goal.returns-in-Ok-clause-stands
returns-in-Ok-clause-stands c = λ past at.
    let r = c.in-Ok.ensures.answered past at.0 in
    let told = c.open_calls.ensures.told past at.0 in
    let none = c.if-open_calls-gt0.false in
    let base = alone_base c.args.machine.now c.do_alone.new.self c.args.request (Done c.in-Ok.reply) past at.0 c.in-Ok.ensures.happens in
    (r.then, (omega (arith, told, none), (_, r.ran, r.plain)), (r.stands, base ∙ at.1))

pub returns-in-Err-clause-stands : goal.returns-in-Err-clause-stands
returns-in-Err-clause-stands c = λ past at.
    let r = c.in-Err.ensures.refused past at.0 in
    let told = c.open_calls.ensures.told past at.0 in
    let none = c.if-open_calls-gt0.false in
    let base = alone_base c.args.machine.now c.do_alone.new.self c.args.request (Refused c.in-Err.refusal) past at.0 c.in-Err.ensures.happens in
    (r.then, (omega (arith, told, none), elim r.ran [ inl turned ↦ inl turned | inr ran ↦ inr (_, ran) ], r.nothing), (r.stands, base ∙ at.1))

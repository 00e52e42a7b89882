use Rattle.std.proofs.Common.{IfOk, IfErr, ℕ, subst, sym, ◌∙◌}
use Rattle.mt_script.specs.Script.{Played, Broke}
use Rattle.mt_script.specs.Source.{source_rest, source_unread}
use Rattle.mt_streams.specs.Sinks.{sink_writer}
use Rattle.mt_script.proofs.PlayLemmas.{Broke-none, start_not_read}
use Rattle.mt_script.proofs.script.script.Goals as goal

pub play-requires : goal.play-requires
play-requires g c = (c.in-Ok.ensures.opened.2, c.in-Ok.ensures.base)

pub returns-in-Ok-clause-answered : goal.returns-in-Ok-clause-answered
returns-in-Ok-clause-answered g c =
    let input = source_rest g.R.Read.remaining c.args.reader.now in
    let old = g.W.Write.contents (sink_writer c.args.writer.now) in
    let new = g.W.Write.contents (sink_writer c.play.new.writer) in
    subst (λ (k : ℕ). IfOk c.play.result (λ bad. Played c.args.options.columns k input old bad new)) c.in-Ok.ensures.opened.1.1
    (subst (λ (C : ℕ). IfOk c.play.result (λ bad. Played C c.in-Ok.machine.log.retention input old bad new)) c.in-Ok.ensures.opened.0 c.play.ensures.ok)

pub returns-in-Ok-clause-broke : goal.returns-in-Ok-clause-broke
returns-in-Ok-clause-broke g c =
    let input = source_rest g.R.Read.remaining c.args.reader.now in
    let unread = source_unread g.R.Read.remaining c.play.new.reader in
    let old = g.W.Write.contents (sink_writer c.args.writer.now) in
    let new = g.W.Write.contents (sink_writer c.play.new.writer) in
    subst (λ (k : ℕ). IfErr c.play.result (λ fault. Broke c.args.options.columns k fault input unread old new)) c.in-Ok.ensures.opened.1.1
    (subst (λ (C : ℕ). IfErr c.play.result (λ fault. Broke C c.in-Ok.machine.log.retention fault input unread old new)) c.in-Ok.ensures.opened.0 c.play.ensures.err)

pub returns-in-Err-clause-broke : goal.returns-in-Err-clause-broke
returns-in-Err-clause-broke g c = Broke-none c.start_fault.result c.args.options.columns c.args.options.log_retention (source_rest g.R.Read.remaining c.args.reader.now) (source_unread g.R.Read.remaining c.args.reader.now) (g.W.Write.contents (sink_writer c.args.writer.now))
    (λ read. start_not_read c.in-Err.refusal (sym c.start_fault.ensures ∙ read))

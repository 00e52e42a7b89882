use Rattle.std.proofs.Common.{◌<◌, Bool, subst, arith}
use Rattle.std.proofs.lemmas.Result.{err_from_is_err_and}
use Rattle.mt_script.specs.Source.{source_rest, source_unread, lines_left}
use Rattle.mt_audit.specs.Book.{Adds}
use Rattle.mt_audit.proofs.EndLemmas.{reading_none, reading_more, reading_end, reading_cut, reading_bad}
use Rattle.mt_audit.proofs.audit.read_book.Goals as goal

pub loop-line-init : goal.loop-line-init
loop-line-init g c = record {
  reading = reading_none c.args.columns (source_rest g.R.Read.remaining c.args.reader.now) c.args.book.now c.requires;
  few = omega arith;
}

pub returns-then-not-reads-clause-read : goal.returns-then-not-reads-clause-read
returns-then-not-reads-clause-read g c =
    reading_bad c.args.columns (source_rest g.R.Read.remaining c.args.reader.now) (source_rest g.R.Read.remaining c.loop-line.reader) (source_rest g.R.Read.remaining c.next_line.new.self)
    c.loop-line.number c.loop-line.book c.in-Some.line.items c.loop-line.invariant.reading (rw c.in-Some.is at c.in_ok-line.ensures.line)
    (rw c.deref.ensures.value at (subst (λ (b : Bool). Adds c.args.columns c.deref.result.now c.loop-line.book c.add_line.new.self b) c.if-not-reads.true c.in_ok-reads.ensures.adds))

pub returns-in_err-line-clause-whole : goal.returns-in_err-line-clause-whole
returns-in_err-line-clause-whole g c =
    let p = err_from_is_err_and c.from_residual.result c.from_residual.ensures.1 in
    rw (p.1, p.2) (λ read. reading_cut c.args.columns (source_rest g.R.Read.remaining c.args.reader.now) (source_rest g.R.Read.remaining c.loop-line.reader) (source_unread g.R.Read.remaining c.next_line.new.self)
    c.loop-line.number c.loop-line.book c.loop-line.invariant.reading (c.in_err-line.ensures.whole read))

pub returns-clause-read : goal.returns-clause-read
returns-clause-read g c =
    reading_end c.args.columns (source_rest g.R.Read.remaining c.args.reader.now) (source_rest g.R.Read.remaining c.loop-line.reader) (source_rest g.R.Read.remaining c.next_line.new.self)
    c.loop-line.number c.loop-line.book c.loop-line.invariant.reading (rw c.in_default.is at c.in_ok-line.ensures.line)

pub loop-line-preserved : goal.loop-line-preserved
loop-line-preserved g c =
    let fewer : lines_left c.next_line.new.self < lines_left c.loop-line.reader = rw c.in-Some.is at c.in_ok-line.ensures.fewer in record {
      reading = reading_more c.args.columns (source_rest g.R.Read.remaining c.args.reader.now) (source_rest g.R.Read.remaining c.loop-line.reader) (source_rest g.R.Read.remaining c.next_line.new.self)
          c.loop-line.number c.loop-line.book c.add_line.new.self c.in-Some.line.items c.loop-line.invariant.reading (rw c.in-Some.is at c.in_ok-line.ensures.line)
          (rw c.deref.ensures.value at (subst (λ (b : Bool). Adds c.args.columns c.deref.result.now c.loop-line.book c.add_line.new.self b) c.if-not-reads.false c.in_ok-reads.ensures.adds));
      few = omega (arith, c.loop-line.invariant.few, c.next_line.ensures.within, fewer);
    }

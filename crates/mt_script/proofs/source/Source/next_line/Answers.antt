use Rattle.std.proofs.Common.{vec_len, sym, ◌∙◌, eqb-true, false-eqb, arith}
use Rattle.std.proofs.lemmas.List.{nil_from_length}
use Rattle.std.proofs.lemmas.Result.{err_from_is_err_and}
use Rattle.mt_script.specs.Source.{source_rest, source_unread, source_kept}
use Rattle.mt_script.proofs.LineLemmas.{taking_kept, taking_piece, loses_line, loses_last, loses_none, loses_no_line}
use Rattle.mt_script.proofs.source.Source.next_line.Goals as goal
use Rattle.mt_script.proofs.source.Source.next_line.Goals.{then-is_empty, else-is_empty}

pub returns-then-whole-clause-line : goal.returns-then-whole-clause-line
returns-then-whole-clause-line g c =
    let h = rw c.if-whole.true at c.in-Ok.ensures.taken in
    let t = rw (← c.in-Ok.ensures.reader) at c.loop-whole.invariant.taking in
    loses_line (source_rest g.R.Read.remaining c.args.self.now) (source_unread g.R.Read.remaining c.take.new.self) c.loop-whole.line.items (source_kept c.loop-whole.self) h.0 c.take.new.line.items (source_kept c.take.new.self)
    t h.2.0 h.2.1 h.1

pub returns-in_err-read_more-clause-whole : goal.returns-in_err-read_more-clause-whole
returns-in_err-read_more-clause-whole g c =
    let p = err_from_is_err_and c.from_residual.result c.from_residual.ensures.1 in
    let h = rw c.if-whole.false at c.in-Ok.ensures.taken in
    let t = rw (← c.in-Ok.ensures.reader) at c.loop-whole.invariant.taking in
    let k = taking_kept (source_rest g.R.Read.remaining c.args.self.now) (source_unread g.R.Read.remaining c.take.new.self) c.loop-whole.line.items (source_kept c.loop-whole.self) h.0 c.take.new.line.items (source_kept c.take.new.self)
    t h.2.0 h.2.1 h.2.2 h.1 in
    rw (p.1, p.2) (λ read. loses_no_line (source_rest g.R.Read.remaining c.args.self.now) (source_unread g.R.Read.remaining c.take.new.self) (source_unread g.R.Read.remaining c.read_more.new.self)
    c.take.new.line.items (source_kept c.take.new.self) k h.2.2 (c.in_err-read_more.ensures.read read).1)

pub returns-then-branch-eq0-clause-line : goal.returns-then-branch-eq0-clause-line
returns-then-branch-eq0-clause-line g c =
    let h = rw c.if-whole.false at c.in-Ok.ensures.taken in
    let t = rw (← c.in-Ok.ensures.reader) at c.loop-whole.invariant.taking in
    let k = taking_kept (source_rest g.R.Read.remaining c.args.self.now) (source_unread g.R.Read.remaining c.take.new.self) c.loop-whole.line.items (source_kept c.loop-whole.self) h.0 c.take.new.line.items (source_kept c.take.new.self)
    t h.2.0 h.2.1 h.2.2 h.1 in
    let m = c.in_ok-read_more.ensures.more in
    let last = m.1 c.if-branch-eq0.true in
    let n = taking_piece (source_rest g.R.Read.remaining c.args.self.now) (source_unread g.R.Read.remaining c.take.new.self) (source_unread g.R.Read.remaining c.read_more.new.self)
    c.take.new.line.items (source_kept c.take.new.self) (source_kept c.read_more.new.self) k h.2.2 m.0 in
    elim c.if-is_empty.branch [
      | then-is_empty w ↦
          let zero = eqb-true (vec_len c.take.new.line) 0 (sym c.is_empty.ensures ∙ w.if-is_empty.true) in
          rw w.result-is (loses_none (source_rest g.R.Read.remaining c.args.self.now) (source_unread g.R.Read.remaining c.read_more.new.self) c.take.new.line.items (source_kept c.read_more.new.self)
          n last.0 last.1 (nil_from_length c.take.new.line.items (omega (arith, zero, c.take.new.line.ok.0))))
      | else-is_empty w ↦
          let some = false-eqb (vec_len c.take.new.line) 0 (sym w.if-is_empty.false ∙ c.is_empty.ensures) in
          rw w.result-is (loses_last (source_rest g.R.Read.remaining c.args.self.now) (source_unread g.R.Read.remaining c.read_more.new.self) c.take.new.line.items (source_kept c.read_more.new.self)
          n last.0 last.1 (omega (arith, some, c.take.new.line.ok.0)))
    ]

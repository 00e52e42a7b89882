use Rattle.std.proofs.Common.{◌∙◌, ◌-◌, Some, subst, length, drop, arith}
use Rattle.std.proofs.lemmas.List.{length-drop, take_all}
use Rattle.std.specs.Prelude.{Option}
use Rattle.mtfolder.specs.declared.cutting.Cut.{Cut}
use Rattle.mtfolder.specs.Cuts.{Leaves}
use Rattle.mtfolder.proofs.CutLemmas.{cut_written, on_ok}
use Rattle.mtfolder.proofs.zeroing.write_cut.Goals as goal

-- the bytes that were written are those that are left
pub returns-clause-written : goal.returns-clause-written
returns-clause-written g c = on_ok c.sync.result (λ leaves.
    let here : Leaves (Some c.in-Some.cut) (g.D.Disk.seen c.args.disk.now) c.args.left.now =
    subst (λ (cut : Option Cut). Leaves cut (g.D.Disk.seen c.args.disk.now) c.args.left.now) c.in-Some.is leaves in
    let whole = take_all (length c.args.left.now - c.in-Some.cut.from) (drop c.in-Some.cut.from c.args.left.now) (omega (arith, length-drop c.in-Some.cut.from c.args.left.now)) in
    c.sync.ensures.seen
    ∙ cut_written c.in-Some.cut (g.D.Disk.seen c.args.disk.now) c.args.left.now _ (g.D.Disk.seen c.write_at.new.self) whole here c.in_ok-write_at.ensures.others c.in_ok-write_at.ensures.written)

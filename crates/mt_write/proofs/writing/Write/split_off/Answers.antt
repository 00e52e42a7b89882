-- From the spare of a half on: the copies, the fill, the link and the cut, one after another.
use Rattle.std.proofs.Common.{◌+◌, arith, sym, subst}
use Rattle.mt_steps.specs.declared.progress.Progress.TheVariants.{Moved}
use Rattle.mt_write.specs.declared.running.WriteRun.{WriteRun}
use Rattle.mt_write.specs.declared.writing.Stage.TheVariants.{Copies}
use Rattle.mt_write.specs.declared.writing.Write.{Write}
use Rattle.mt_write.specs.Runs.{PassesAt}
use Rattle.mt_write.proofs.HalvingLemmas.{gives_up_at, may_cut_half, may_fill, may_link, read_there, some_to_copy, splits_off}
use Rattle.mt_write.proofs.writing.Write.split_off.Goals as goal

pub copy_upper-requires-clause-read : goal.copy_upper-requires-clause-read
copy_upper-requires-clause-read c = let (C, log, may, is_trimmed, sound) = c.requires.may in read_there C c.args.tree.now log c.args.self.now c.args.half c.args.cut c.args.place c.args.outline c.args.entries may is_trimmed sound

pub copy_upper-requires-clause-within : goal.copy_upper-requires-clause-within
copy_upper-requires-clause-within c = let (C, log, may, is_trimmed, sound) = c.requires.may in some_to_copy C c.args.tree.now log c.args.self.now c.args.half c.args.cut c.args.place c.args.outline c.args.entries may is_trimmed sound

pub fill_spared-requires : goal.fill_spared-requires
fill_spared-requires c = let (C, log, may, is_trimmed, sound) = c.requires.may in may_fill C c.args.tree.now log c.args.self.now c.args.half c.args.cut c.args.place c.args.outline c.args.entries may is_trimmed sound c.free_numbers-before.ensures.arena c.in-Ok.copies c.in-Ok.ensures.all

pub link-requires : goal.link-requires
link-requires c = let (C, log, may, is_trimmed, sound) = c.requires.may in may_link C c.args.tree.now log c.args.self.now c.args.half c.args.cut c.args.place c.args.outline c.args.entries may is_trimmed sound c.free_numbers-before.ensures.arena c.in-Ok.copies c.in-Ok.ensures.all c.fill_spared.new.tree c.fill_spared.new.self c.fill_spared.result c.fill_spared.ensures.step c.fill_spared.ensures.moves c.fill_spared.ensures.turns c.free_numbers-filled.ensures.arena

pub cut-requires : goal.cut-requires
cut-requires c = let (C, log, may, is_trimmed, sound) = c.requires.may in may_cut_half C c.args.tree.now log c.args.self.now c.args.half c.args.cut c.args.place c.args.outline c.args.entries may is_trimmed sound c.free_numbers-before.ensures.arena c.in-Ok.copies c.in-Ok.ensures.all c.fill_spared.new.tree c.fill_spared.new.self c.fill_spared.result c.fill_spared.ensures.step c.fill_spared.ensures.moves c.fill_spared.ensures.turns c.free_numbers-filled.ensures.arena c.link.new.tree c.link.new.self c.link.result c.link.ensures.step c.link.ensures.moves c.link.ensures.turns c.free_numbers-linked.ensures.arena

pub returns-in-Ok-clause-runs : goal.returns-in-Ok-clause-runs
returns-in-Ok-clause-runs c = λ C log may is_trimmed sound.
    subst (λ (run : WriteRun). PassesAt C c.args.tree.now c.cut.new.tree log (record c.args.self.now { stage = Copies c.args.half c.args.cut c.args.place c.args.outline c.args.entries }) run c.cut.new.self) (sym c.moved.ensures)
    (splits_off C c.args.tree.now log c.args.self.now c.args.half c.args.cut c.args.place c.args.outline c.args.entries may is_trimmed sound c.free_numbers-before.ensures.arena c.in-Ok.copies c.in-Ok.ensures.all c.fill_spared.new.tree c.fill_spared.new.self c.fill_spared.result c.fill_spared.ensures.step c.fill_spared.ensures.moves c.fill_spared.ensures.turns c.free_numbers-filled.ensures.arena c.link.new.tree c.link.new.self c.link.result c.link.ensures.step c.link.ensures.moves c.link.ensures.turns c.free_numbers-linked.ensures.arena c.cut.new.tree c.cut.new.self c.cut.result c.cut.ensures.step c.cut.ensures.moves c.free_numbers-cut.ensures.arena _ (omega arith))

pub returns-clause-runs : goal.returns-clause-runs
returns-clause-runs c = λ C log may is_trimmed sound.
    let (less, some) = c.in-Err.ensures.some in
    subst (λ (run : WriteRun). PassesAt C c.args.tree.now c.args.tree.now log (record c.args.self.now { stage = Copies c.args.half c.args.cut c.args.place c.args.outline c.args.entries }) run c.turn_to.new.self) (sym c.moved-in-Err.ensures)
    (subst (λ (new : Write). PassesAt C c.args.tree.now c.args.tree.now log (record c.args.self.now { stage = Copies c.args.half c.args.cut c.args.place c.args.outline c.args.entries }) (record { steps = c.in-Err.count + 1; commits = 0; last = Moved }) new) (sym c.turn_to.ensures)
    (gives_up_at C c.args.tree.now log c.args.self.now c.args.half c.args.cut c.args.place c.args.outline c.args.entries may is_trimmed sound c.free_numbers-before.ensures.arena c.in-Err.count some.0 some.1 less))

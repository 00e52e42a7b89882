use Rattle.std.proofs.Common.{sym, subst, ap, Option, Some, None, ℕ}
use Rattle.mt_types.specs.declared.row.Row.{Row}
use Rattle.mt_arena.specs.Arena.{ArenaView}
use Rattle.mt_tree.specs.BorderSteps.{HidesRowAt, SetsRowAt}
use Rattle.mt_steps.specs.Lone.{IsLoneTree}
use Rattle.mt_undo.specs.Taking.{IsTakenBack}
use Rattle.mt_undo.proofs.TakingLemmas.{hidden_back, row_there, set_back, written_there}
use Rattle.mt_undo.proofs.taking.take_back.Goals as goal

pub returns-in-Some : goal.returns-in-Some
returns-in-Some c = record {
  back = λ lone.
      let is = c.set_value-gone.ensures.value in
      let (entry, same) = c.entry_of-place.ensures lone in
      subst (λ (n : ℕ). IsTakenBack c.args.tree.now c.args.key.now c.args.before n c.set_value-gone.new.self) (ap (λ (l : IsLoneTree c.args.tree.now). l.now) same)
      (subst (λ (x : Option Row). IsTakenBack c.args.tree.now c.args.key.now x entry.lone.now c.set_value-gone.new.self) (sym c.in-Some.is)
      (subst (λ (x : ArenaView). IsTakenBack c.args.tree.now c.args.key.now (Some c.in-Some.row) entry.lone.now x) (sym is)
      (set_back c.args.tree.now c.args.key.now c.entry_of-place.result.0.0 c.entry_of-place.result.1 entry c.in-Some.row
      (subst (λ (x : ArenaView). SetsRowAt c.args.tree.now x c.entry_of-place.result.0.0 c.entry_of-place.result.1 c.in-Some.row) is c.set_value-gone.ensures.sets))));
}

pub returns-in-None : goal.returns-in-None
returns-in-None c = record {
  back = λ lone.
      let is = c.hide_row.ensures.value in
      let (entry, same) = c.entry_of-place.ensures lone in
      subst (λ (n : ℕ). IsTakenBack c.args.tree.now c.args.key.now c.args.before n c.hide_row.new.self) (ap (λ (l : IsLoneTree c.args.tree.now). l.now) same)
      (subst (λ (x : Option Row). IsTakenBack c.args.tree.now c.args.key.now x entry.lone.now c.hide_row.new.self) (sym c.in-None.is)
      (subst (λ (x : ArenaView). IsTakenBack c.args.tree.now c.args.key.now None entry.lone.now x) (sym is)
      (hidden_back c.args.tree.now c.args.key.now c.entry_of-place.result.0.0 c.entry_of-place.result.1 entry
      (subst (λ (x : ArenaView). HidesRowAt c.args.tree.now x c.entry_of-place.result.0.0 c.entry_of-place.result.1) is c.hide_row.ensures.hides))));
}

pub set_value-gone-requires-clause-row : goal.set_value-gone-requires-clause-row
set_value-gone-requires-clause-row c = row_there c.args.tree.now c.args.key.now c.entry_of-place.result.0.0 c.entry_of-place.result.1 (c.entry_of-place.ensures c.requires.lone).0

pub set_value-gone-requires-clause-written : goal.set_value-gone-requires-clause-written
set_value-gone-requires-clause-written c = written_there c.args.tree.now c.args.key.now c.entry_of-place.result.0.0 c.entry_of-place.result.1 (c.entry_of-place.ensures c.requires.lone).0

pub hide_row-requires-clause-row : goal.hide_row-requires-clause-row
hide_row-requires-clause-row c = row_there c.args.tree.now c.args.key.now c.entry_of-place.result.0.0 c.entry_of-place.result.1 (c.entry_of-place.ensures c.requires.lone).0

pub hide_row-requires-clause-written : goal.hide_row-requires-clause-written
hide_row-requires-clause-written c = written_there c.args.tree.now c.args.key.now c.entry_of-place.result.0.0 c.entry_of-place.result.1 (c.entry_of-place.ensures c.requires.lone).0

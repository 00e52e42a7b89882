use Rattle.std.proofs.Common.{◌≡◌, ◌≤◌, ◌∙◌, ℕ, [], ap, sym, subst}
use Rattle.mt_commit.specs.Log.{LogView, keeping_all, newest}
use Rattle.mt_commit.specs.declared.log.Keeping.{Keeping}
use Rattle.mt_index.specs.declared.marks.Mark.{Mark}
use Rattle.mt_index.specs.Alone.{IsIdle}
use Rattle.mt_index.specs.Marks.{IsAhead, mark_of}
use Rattle.mt_index.specs.Stands.{MachineView, Stands}
use Rattle.mt_index.proofs.LaterStands.{seen}
use Rattle.mt_index.proofs.MarkStands.{keeping_stands, marked_ahead}
use Rattle.mt_index.proofs.machine.Machine.mark.Goals as goal

pub invariant_of-self : goal.invariant_of-self
invariant_of-self c =
    let s : MachineView = seen c.self.inside.columns c.self.inside.epoch c.self.inside.tree c.self.inside.log c.self.inside.calls c.self.inside.views in
    let (h, st) = c.self.invariant in
    (h, subst (λ (log : LogView). Stands (seen s.columns s.epoch s.tree log s.calls s.views) h) (sym c.keep_all.ensures.after) (keeping_stands s h c.number.ensures.sound st))

pub returns-clause-ahead : goal.returns-clause-ahead
returns-clause-ahead c =
    let s : MachineView = seen c.self.inside.columns c.self.inside.epoch c.self.inside.tree c.self.inside.log c.self.inside.calls c.self.inside.views in
    let idle : IsIdle s = subst IsIdle (sym c.self.view_is) c.requires.idle in
    let few : s.log.rows ≤ newest s.log = subst (λ (n : ℕ). n ≤ newest s.log) c.rows.ensures.value c.rows.ensures.few in
    let mark : Mark = record { commits = c.number.result; rows = c.rows.result; begun = c.begun.result; keeping = c.keep_all.result } in
    let is : mark_of s ≡ mark =
    ap (λ (n : ℕ). record { commits = n; rows = s.log.rows; begun = s.calls.begun; keeping = Rattle.mt_commit.specs.Log.keeping s.log }) (sym c.number.ensures.value)
    ∙ ap (λ (n : ℕ). record { commits = c.number.result; rows = n; begun = s.calls.begun; keeping = Rattle.mt_commit.specs.Log.keeping s.log }) (sym c.rows.ensures.value)
    ∙ ap (λ (n : ℕ). record { commits = c.number.result; rows = c.rows.result; begun = n; keeping = Rattle.mt_commit.specs.Log.keeping s.log }) (sym c.begun.ensures)
    ∙ ap (λ (k : Keeping). record { commits = c.number.result; rows = c.rows.result; begun = c.begun.result; keeping = k }) (sym c.keep_all.ensures.before) in
    subst (λ (m : MachineView). IsAhead m mark [] (seen s.columns s.epoch s.tree c.keep_all.new.self s.calls s.views)) c.self.view_is
    (subst (λ (log : LogView). IsAhead s mark [] (seen s.columns s.epoch s.tree log s.calls s.views)) (sym c.keep_all.ensures.after)
    (subst (λ (m : Mark). IsAhead s m [] (record s { log = keeping_all s.log })) is (marked_ahead s c.self.invariant idle c.number.ensures.sound few)))

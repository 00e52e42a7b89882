use Rattle.std.proofs.Common.{◌≡◌, ◌≤◌, ◌+◌, ◌∙◌, ℕ, ap, sym, subst, arith, length}
use Rattle.mt_types.specs.Numbers.{greatest_number}
use Rattle.mt_promise.specs.History.{History, moment, rows}
use Rattle.mt_undo.specs.Removing.{AreThere}
use Rattle.mt_index.specs.Alone.{IsIdle}
use Rattle.mt_index.specs.Calls.{CallsView}
use Rattle.mt_index.specs.Marks.{KeepsAll}
use Rattle.mt_index.specs.Stands.{MachineView, Stands}
use Rattle.mt_index.proofs.LaterStands.{seen}
use Rattle.mt_index.proofs.RemovingStands.{can_remove, goes, removed_keeps, removed_stands}
use Rattle.mt_index.proofs.machine.Machine.remove_rows.Goals as goal

pub remove_all-requires-clause-can : goal.remove_all-requires-clause-can
remove_all-requires-clause-can c =
    let s : MachineView = seen c.self.inside.columns c.self.inside.epoch c.self.inside.tree c.self.inside.log c.self.inside.calls c.self.inside.views in
    let (h, st) = c.self.invariant in
    let idle : IsIdle s = subst IsIdle (sym c.self.view_is) c.requires.idle in
    let base : s.log.base ≡ s.log.held_after = subst (λ (t : MachineView). t.log.base ≡ t.log.held_after) (sym c.self.view_is) c.requires.keeps in
    let retention : s.log.retention ≡ greatest_number = subst (λ (t : MachineView). t.log.retention ≡ greatest_number) (sym c.self.view_is) c.requires.retention in
    let there = subst (λ (t : MachineView). (h : History) → Stands t h → AreThere (rows t.columns (moment h)) c.args.taken.items) (sym c.self.view_is) c.requires.there h st in
    let many : c.len-count.result ≡ length c.args.taken.items = (let is = c.len-count.ensures in let ok = c.args.taken.ok.0 in omega (arith, is, ok)) in
    let begun = c.begun-begun.ensures in
    let left = c.if-begun-count.false in
    let few : s.calls.begun + length c.args.taken.items ≤ greatest_number = omega (arith, many, begun, left) in
    let room : c.reserve_all.new.log ≡ record s.log { reserved = s.log.reserved + length c.args.taken.items } = c.in_ok-reserve_all.ensures.ok ∙ ap (λ (n : ℕ). record s.log { reserved = s.log.reserved + n }) many in
    (s.columns, (moment h).commits, can_remove s h st idle base retention c.args.taken.items there c.requires.apart c.requires.fit few c.reserve_all.new.log room)

pub invariant_of-self-2 : goal.invariant_of-self-2
invariant_of-self-2 c =
    let s : MachineView = seen c.self.inside.columns c.self.inside.epoch c.self.inside.tree c.self.inside.log c.self.inside.calls c.self.inside.views in
    let (h, st) = c.self.invariant in
    let idle : IsIdle s = subst IsIdle (sym c.self.view_is) c.requires.idle in
    let base : s.log.base ≡ s.log.held_after = subst (λ (t : MachineView). t.log.base ≡ t.log.held_after) (sym c.self.view_is) c.requires.keeps in
    let retention : s.log.retention ≡ greatest_number = subst (λ (t : MachineView). t.log.retention ≡ greatest_number) (sym c.self.view_is) c.requires.retention in
    let there = subst (λ (t : MachineView). (h : History) → Stands t h → AreThere (rows t.columns (moment h)) c.args.taken.items) (sym c.self.view_is) c.requires.there h st in
    let many : c.len-count.result ≡ length c.args.taken.items = (let is = c.len-count.ensures in let ok = c.args.taken.ok.0 in omega (arith, is, ok)) in
    let begun = c.begun-begun.ensures in
    let left = c.if-begun-count.false in
    let few : s.calls.begun + length c.args.taken.items ≤ greatest_number = omega (arith, many, begun, left) in
    let room : c.reserve_all.new.log ≡ record s.log { reserved = s.log.reserved + length c.args.taken.items } = c.in_ok-reserve_all.ensures.ok ∙ ap (λ (n : ℕ). record s.log { reserved = s.log.reserved + n }) many in
    let counted : c.begin_after.new.self ≡ record s.calls { begun = s.calls.begun + length c.args.taken.items } = c.begin_after.ensures ∙ ap (λ (n : ℕ). record s.calls { begun = n }) (let e : c.begun-begun.result + c.len-count.result ≡ s.calls.begun + length c.args.taken.items = omega (arith, many, begun) in e) in (
      (goes s h st idle base retention c.args.taken.items there c.requires.apart c.requires.fit few c.reserve_all.new.log room).ahead,
      subst (λ (calls : CallsView). Stands (seen s.columns s.epoch c.remove_all.new.tree c.remove_all.new.log calls s.views) (goes s h st idle base retention c.args.taken.items there c.requires.apart c.requires.fit few c.reserve_all.new.log room).ahead) (sym counted)
          (removed_stands s h st idle base retention c.args.taken.items there c.requires.apart c.requires.fit few c.reserve_all.new.log room c.remove_all.new.tree c.remove_all.new.log c.number-sound.ensures.sound c.remove_all.ensures.removed),
    )

pub returns-clause-ok : goal.returns-clause-ok
returns-clause-ok c h given =
    let s : MachineView = seen c.self.inside.columns c.self.inside.epoch c.self.inside.tree c.self.inside.log c.self.inside.calls c.self.inside.views in
    let st : Stands s h = subst (λ (t : MachineView). Stands t h) (sym c.self.view_is) given in
    let idle : IsIdle s = subst IsIdle (sym c.self.view_is) c.requires.idle in
    let base : s.log.base ≡ s.log.held_after = subst (λ (t : MachineView). t.log.base ≡ t.log.held_after) (sym c.self.view_is) c.requires.keeps in
    let retention : s.log.retention ≡ greatest_number = subst (λ (t : MachineView). t.log.retention ≡ greatest_number) (sym c.self.view_is) c.requires.retention in
    let there = subst (λ (t : MachineView). (h : History) → Stands t h → AreThere (rows t.columns (moment h)) c.args.taken.items) (sym c.self.view_is) c.requires.there h st in
    let many : c.len-count.result ≡ length c.args.taken.items = (let is = c.len-count.ensures in let ok = c.args.taken.ok.0 in omega (arith, is, ok)) in
    let begun = c.begun-begun.ensures in
    let left = c.if-begun-count.false in
    let few : s.calls.begun + length c.args.taken.items ≤ greatest_number = omega (arith, many, begun, left) in
    let room : c.reserve_all.new.log ≡ record s.log { reserved = s.log.reserved + length c.args.taken.items } = c.in_ok-reserve_all.ensures.ok ∙ ap (λ (n : ℕ). record s.log { reserved = s.log.reserved + n }) many in
    let counted : c.begin_after.new.self ≡ record s.calls { begun = s.calls.begun + length c.args.taken.items } = c.begin_after.ensures ∙ ap (λ (n : ℕ). record s.calls { begun = n }) (let e : c.begun-begun.result + c.len-count.result ≡ s.calls.begun + length c.args.taken.items = omega (arith, many, begun) in e) in
    let there_is = goes s h st idle base retention c.args.taken.items there c.requires.apart c.requires.fit few c.reserve_all.new.log room in (
      there_is.ahead,
      subst (λ (calls : CallsView). Stands (seen s.columns s.epoch c.remove_all.new.tree c.remove_all.new.log calls s.views) there_is.ahead) (sym counted)
          (removed_stands s h st idle base retention c.args.taken.items there c.requires.apart c.requires.fit few c.reserve_all.new.log room c.remove_all.new.tree c.remove_all.new.log c.number-sound.ensures.sound c.remove_all.ensures.removed),
      there_is.on,
    )

pub returns-clause-keeps : goal.returns-clause-keeps
returns-clause-keeps c =
    let s : MachineView = seen c.self.inside.columns c.self.inside.epoch c.self.inside.tree c.self.inside.log c.self.inside.calls c.self.inside.views in
    let (h, st) = c.self.invariant in
    let idle : IsIdle s = subst IsIdle (sym c.self.view_is) c.requires.idle in
    let base : s.log.base ≡ s.log.held_after = subst (λ (t : MachineView). t.log.base ≡ t.log.held_after) (sym c.self.view_is) c.requires.keeps in
    let retention : s.log.retention ≡ greatest_number = subst (λ (t : MachineView). t.log.retention ≡ greatest_number) (sym c.self.view_is) c.requires.retention in
    let there = subst (λ (t : MachineView). (h : History) → Stands t h → AreThere (rows t.columns (moment h)) c.args.taken.items) (sym c.self.view_is) c.requires.there h st in
    let many : c.len-count.result ≡ length c.args.taken.items = (let is = c.len-count.ensures in let ok = c.args.taken.ok.0 in omega (arith, is, ok)) in
    let begun = c.begun-begun.ensures in
    let left = c.if-begun-count.false in
    let few : s.calls.begun + length c.args.taken.items ≤ greatest_number = omega (arith, many, begun, left) in
    let room : c.reserve_all.new.log ≡ record s.log { reserved = s.log.reserved + length c.args.taken.items } = c.in_ok-reserve_all.ensures.ok ∙ ap (λ (n : ℕ). record s.log { reserved = s.log.reserved + n }) many in
    let counted : c.begin_after.new.self ≡ record s.calls { begun = s.calls.begun + length c.args.taken.items } = c.begin_after.ensures ∙ ap (λ (n : ℕ). record s.calls { begun = n }) (let e : c.begun-begun.result + c.len-count.result ≡ s.calls.begun + length c.args.taken.items = omega (arith, many, begun) in e) in
    subst (λ (t : MachineView). KeepsAll t (seen s.columns s.epoch c.remove_all.new.tree c.remove_all.new.log c.begin_after.new.self s.views)) c.self.view_is
    (subst (λ (calls : CallsView). KeepsAll s (seen s.columns s.epoch c.remove_all.new.tree c.remove_all.new.log calls s.views)) (sym counted)
    (removed_keeps s h st idle base retention c.args.taken.items there c.requires.apart c.requires.fit few c.reserve_all.new.log room c.remove_all.new.tree c.remove_all.new.log c.number-sound.ensures.sound c.remove_all.ensures.removed))

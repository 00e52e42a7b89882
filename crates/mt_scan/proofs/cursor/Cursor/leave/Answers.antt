use Rattle.std.proofs.Common.{arith, subst, sym, List, ℕ}
use Rattle.mt_scan.specs.Cursor.{Leaves, cursor_view}
use Rattle.std.proofs.Common.{true}
use Rattle.mt_scan.proofs.CursorLemmas.{leaves}
use Rattle.mt_scan.proofs.cursor.Cursor.leave.Goals as goal

pub returns : goal.returns
returns c =
    let some = c.if-self-eq0.false in
    subst (λ (s : List ℕ). Leaves c.args.self.now true (cursor_view s 10 0)) (sym c.truncate.ensures.items)
    (leaves c.self.inside.slices.items c.self.inside.class c.self.inside.depth c.args.self.now c.self.invariant.within c.self.view_is (omega arith))

use Rattle.std.proofs.Common.{sym, ◌∙◌}
use Rattle.mt_scan.proofs.CursorLemmas.{entered_inside}
use Rattle.mt_scan.proofs.cursor.Cursor.enter.Goals as goal

pub invariant_of-self : goal.invariant_of-self
invariant_of-self c =
    let i = c.self.invariant in
    record {
      within = (entered_inside c.self.inside.slices.items c.self.inside.class c.self.inside.depth i.within c.args.slice c.args.self.now c.self.view_is (sym c.is_inside.ensures ∙ c.if-is_inside.true)).0;
      class_fits = i.class_fits;
      no_long = i.no_long;
    }

pub returns-then-is_inside : goal.returns-then-is_inside
returns-then-is_inside c =
    (entered_inside c.self.inside.slices.items c.self.inside.class c.self.inside.depth c.self.invariant.within c.args.slice c.args.self.now c.self.view_is (sym c.is_inside.ensures ∙ c.if-is_inside.true)).1

use Rattle.std.proofs.Common.{◌≡◌, length, arith, ◌∙◌}
use Rattle.std.proofs.lemmas.Bool.{le-ltb}
use Rattle.mt_scan.proofs.CursorLemmas.{inside-no, inside-here}
use Rattle.mt_scan.proofs.cursor.Cursor.is_inside.Goals as goal

pub returns-else-self-len : goal.returns-else-self-len
returns-else-self-len c =
    let len : c.len.result ≡ length c.self.inside.slices.items = c.len.ensures ∙ c.self.inside.slices.ok.0 in
    let few = c.if-self-len.false in
    le-ltb _ _ few ∙ inside-no c.self.inside.slices.items c.self.inside.class c.self.inside.depth c.args.slice c.args.self.now c.self.invariant.within c.self.view_is (omega (arith, len, few))

pub returns-then-self-len : goal.returns-then-self-len
returns-then-self-len c =
    let len : c.len.result ≡ length c.self.inside.slices.items = c.len.ensures ∙ c.self.inside.slices.ok.0 in
    let more = c.if-self-len.true in
    inside-here c.self.inside.slices.items c.self.inside.class c.self.inside.depth c.args.slice c.args.self.now c.self.invariant.within c.self.view_is c.index.result.now (omega (arith, len, more)) c.index.ensures

use Rattle.mt_scan.proofs.CursorLemmas.{restarted}
use Rattle.mt_scan.proofs.cursor.Cursor.restart.Goals as goal

pub returns : goal.returns
returns c = restarted c.self.inside.slices.items c.self.inside.class c.self.inside.depth c.self.invariant.within c.args.self.now c.self.view_is

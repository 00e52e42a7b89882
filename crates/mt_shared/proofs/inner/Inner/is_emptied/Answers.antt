use Rattle.std.proofs.Common.{rules, subst, sym}
use Rattle.mt_steps.specs.Lone.{IsLoneTree}
use Rattle.mt_index.specs.Alone.{IsQuiet}
use Rattle.mt_index.proofs.QuietStands.{quiet_tree}
use Rattle.mt_shared.proofs.inner.Inner.is_emptied.Goals as goal

pub is_emptied-requires : goal.is_emptied-requires
is_emptied-requires c =
    let quiet : IsQuiet c.self.inside.machine = search rules in
    record {
      lone = subst IsLoneTree (sym c.tree.ensures) (quiet_tree c.self.inside.machine c.is_idle-stands.ensures.stands.0 c.is_idle-stands.ensures.stands.1 quiet);
    }

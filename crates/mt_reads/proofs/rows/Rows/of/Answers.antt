use Rattle.std.proofs.Common.{subst, sym}
use Rattle.mt_steps.specs.Lone.{IsLoneTree}
use Rattle.mt_index.proofs.QuietStands.{quiet_tree}
use Rattle.mt_reads.proofs.WalkLemmas.{starts_at}
use Rattle.mt_reads.proofs.rows.Rows.of.Goals as goal

pub new-requires : goal.new-requires
new-requires c =
    subst IsLoneTree (sym c.tree.ensures) (quiet_tree c.args.machine.now c.is_idle-stands.ensures.stands.0 c.is_idle-stands.ensures.stands.1 c.requires)

pub returns-clause-start : goal.returns-clause-start
returns-clause-start c =
    starts_at c.in_ok-walk.walk.given c.in_ok-walk.walk.key.items c.args.start.now c.in_ok-walk.ensures.stands.bytes c.key_bytes-bytes.ensures.bytes c.in_ok-walk.ensures.at_start

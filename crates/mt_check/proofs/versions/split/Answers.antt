use Rattle.std.proofs.Common.{leb, None, ap, sym, ◌∙◌, rules}
use Rattle.std.proofs.lemmas.List.Sorted.{IsPartitionPoint-from_clause}
use Rattle.mt_check.specs.Versions.{last_row}
use Rattle.mt_check.proofs.VersionLemmas.{rising_parted, parted}
use Rattle.mt_check.proofs.versions.split.Goals as goal

pub returns-clause-standing : goal.returns-clause-standing
returns-clause-standing c =
    let by = rising_parted c.args.versions.now c.args.number c.requires in
    let point = IsPartitionPoint-from_clause (λ v. leb v.number c.args.number) _ _ c.partition_point-count.ensures.partitioned by (λ a r q k. search rules) in
    let parts = parted c.args.number None c.args.versions.now c.partition_point-count.result point c.partition_point-count.ensures.bound in
    c.last_of.ensures ∙ ap (last_row None) c.split_at.ensures.front ∙ sym parts.0

pub returns-clause-later : goal.returns-clause-later
returns-clause-later c =
    let by = rising_parted c.args.versions.now c.args.number c.requires in
    let point = IsPartitionPoint-from_clause (λ v. leb v.number c.args.number) _ _ c.partition_point-count.ensures.partitioned by (λ a r q k. search rules) in
    let parts = parted c.args.number None c.args.versions.now c.partition_point-count.result point c.partition_point-count.ensures.bound in
    c.split_at.ensures.back ∙ sym parts.1

use Rattle.std.proofs.Common.{◌<◌, rules, get_or, ℕ, subst, List}
use Rattle.mt_types.proofs.PackedLemmas.{packable_from_reads}
use Rattle.mt_types.proofs.columns.Columns.len.Goals as goal

pub returns-clause-packable : goal.returns-clause-packable
returns-clause-packable c =
    let reads : (i : ℕ) → get_or c.as_packed-block.result.now i 0 < 256 = search rules in
    packable_from_reads c.args.self.now (subst (λ (block : List ℕ). (i : ℕ) → get_or block i 0 < 256) c.as_packed-block.ensures reads)

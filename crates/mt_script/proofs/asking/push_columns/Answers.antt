use Rattle.std.proofs.Common.{arith, decimal, string_bytes, rules}
use Rattle.mt_script.proofs.JoinLemmas.{joined_more}
use Rattle.mt_script.proofs.asking.push_columns.Goals as goal

pub loop-i-preserved : goal.loop-i-preserved
loop-i-preserved c =
    joined_more decimal c.args.columns.now c.loop-i.i 0 (string_bytes c.args.out.now) (string_bytes c.loop-i.out) (string_bytes c.push_comma.new.out) (string_bytes c.write.new.self)
    (omega arith) c.loop-i.invariant c.in_ok-push_comma.ensures (search rules)

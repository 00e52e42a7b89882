use Rattle.std.proofs.Common.{◌++◌, arith, ap, ◌∙◌, string_bytes}
use Rattle.mt_script.specs.Showing.{set_text}
use Rattle.mt_script.proofs.JoinLemmas.{joined_more}
use Rattle.mt_script.proofs.asking.push_sets.Goals as goal

pub loop-i-preserved : goal.loop-i-preserved
loop-i-preserved c =
    joined_more set_text c.args.sets.now c.loop-i.i c.index-sets-i.result (string_bytes c.args.out.now) (string_bytes c.loop-i.out) (string_bytes c.push_comma.new.out) (string_bytes c.push_set.new.out)
    (omega arith) c.loop-i.invariant c.in_ok-push_comma.ensures (c.in_ok-push_set.ensures ∙ ap (λ b. string_bytes c.push_comma.new.out ++ set_text b) c.index-sets-i.is)

use Rattle.std.proofs.Common.{◌++◌, [], arith, ap, ◌∙◌, string_bytes}
use Rattle.mt_script.specs.Showing.{bytes_text}
use Rattle.mt_script.proofs.JoinLemmas.{joined_more}
use Rattle.mt_script.proofs.showing.push_values.Goals as goal

pub loop-i-preserved : goal.loop-i-preserved
loop-i-preserved c =
    joined_more bytes_text c.args.columns.now c.loop-i.i [] (string_bytes c.args.out.now) (string_bytes c.loop-i.out) (string_bytes c.push_comma.new.out) (string_bytes c.push_bytes.new.out)
    (omega arith) c.loop-i.invariant c.in_ok-push_comma.ensures (c.in_ok-push_bytes.ensures ∙ ap (λ b. string_bytes c.push_comma.new.out ++ bytes_text b) c.get_or_empty.ensures)

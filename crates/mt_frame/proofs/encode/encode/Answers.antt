use Rattle.std.proofs.Common.{◌≡◌, ℕ, ◌-◌, List, ◌++◌, length, ap, ◌∙◌, arith}
use Rattle.mt_frame.specs.Spelling.{escaped, text_of}
use Rattle.mt_frame.proofs.Framing.{blank, framed_by}
use Rattle.mt_frame.proofs.encode.encode.Goals as goal

pub returns-clause-value : goal.returns-clause-value
returns-clause-value c =
    let start : c.extend_from_slice.new.self.items ≡ blank = c.in_ok-extend_from_slice.ensures.items ∙ ap (λ (l : List ℕ). l ++ blank) c.new-frame.ensures.items in
    let text : c.push_escaped.new.out.items ≡ blank ++ text_of c.args.generation c.args.place c.args.entry.now =
    c.in_ok-push_escaped.ensures ∙ ap (λ (l : List ℕ). l ++ escaped c.deref.result.now) start ∙ ap (λ (l : List ℕ). blank ++ escaped l) (c.deref.ensures.value ∙ c.in_ok-body.ensures.value) in
    let size : c.len-count.result - 5 ≡ length c.push_escaped.new.out.items - 5 = omega arith in
    c.put_length.ensures ∙ framed_by (text_of c.args.generation c.args.place c.args.entry.now) c.push_escaped.new.out.items (c.len-count.result - 5) text size

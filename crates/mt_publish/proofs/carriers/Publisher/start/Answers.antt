use Rattle.std.proofs.Common.{rules, ◌≡◌, List, [], ◌∷◌, ◌++◌, All, sym, subst, ◌∙◌}
use Rattle.mt_publish.specs.declared.carriers.ViewReader.{ViewReader}
use Rattle.mt_publish.specs.Carried.{IsReaderOf, source_of}
use Rattle.mt_publish.proofs.Handed.{all_more}
use Rattle.mt_publish.proofs.carriers.Publisher.start.Goals as goal

pub loop-preserved : goal.loop-preserved
loop-preserved g c = let kept = c.hand_out.ensures.kept in let was = c.loop.invariant in
    let items : c.push.new.self.items ≡ c.loop.handed.items ++ c.in_ok-hand_out.field-0 ∷ [] = search rules in
    let of : ViewReader → Type 0 = IsReaderOf (source_of c.in_ok-publisher.publisher) c.args.state in
    let one : of c.in_ok-hand_out.field-0 = subst (λ s. IsReaderOf s c.args.state c.in_ok-hand_out.field-0) was.same (c.in_ok-hand_out.ensures.reader c.args.state was.began.0) in
    record {
      began = (kept.0.0 ∙ was.began.0, kept.0.1 ∙ was.began.1, kept.0.2 ∙ was.began.2);
      none = kept.1 ∙ was.none;
      same = kept.0.3 ∙ was.same;
      many = search rules;
      each = subst (λ (rs : List ViewReader). All of rs) (sym items) (all_more of c.loop.handed.items c.in_ok-hand_out.field-0 was.each one);
    }

use Rattle.std.proofs.Common.{◌≡◌, ◌∙◌, ◌≤◌, ◌*◌, ℕ, sym, subst, arith}
use Rattle.std.specs.Prelude.{All}
use Rattle.mt_shared.specs.declared.counters.Counters.{Counters}
use Rattle.mt_shared.proofs.LoadLemmas.{is_untraced}
use Rattle.mt_shared.proofs.inner.Inner.load.Goals as goal

pub invariant_of-result : goal.invariant_of-result
invariant_of-result c =
    let at = c.in_ok-machine.ensures.loaded in
    let newest_is = at.stands.commits ∙ at.closed.commits in
    let three : c.in-Some.events ≡ 3 * c.args.commits = let is = c.in-Some.ensures in omega (arith, is) in
    record {
      stands = (at.h, at.stands, at.long ∙ sym three, is_untraced c.new.result at.h c.new.ensures);
      events = c.in-Ok.ensures.events ∙ sym three;
      commits = c.in-Ok.ensures.commits ∙ sym newest_is;
      seen = subst (λ (n : ℕ). All (λ (own : Counters). own.seen ≤ n) c.in-Ok.counters.items) (sym newest_is) c.in-Ok.ensures.seen;
    }

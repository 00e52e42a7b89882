use Rattle.std.proofs.Common.{◌≡◌, ℕ, List, length, ap, sym, subst, ◌∙◌}
use Rattle.std.specs.Prelude.{nat_le}
use Rattle.std.specs.Global.{Vec}
use Rattle.mt_check.specs.declared.versions.Version.{Version}
use Rattle.mt_check.specs.Ranges.{walks, lacks_in, shows_in, entries_from, AllRise}
use Rattle.mt_check.proofs.EntryLemmas.{entries_rise}
use Rattle.mt_check.proofs.ranges.walk.Goals as goal

pub loop-key-init : goal.loop-key-init
loop-key-init c =
    let same : c.into_iter-key-iterator.result ≡ entries_from c.args.asked.now.start.now c.args.versions.now = c.into_iter-key-iterator.ensures.into_iter_gives ∙ c.from_key-key-items.ensures.items in
    record {
      walked = ap (λ (es : List (List ℕ × Vec Version)).
          walks (lacks_in c.args.span.from c.args.span.to) (shows_in c.args.asked.now.columns.now c.args.span.from c.args.span.to) (nat_le c.args.asked.now.limit (length c.args.pairs.now)) es c.args.pairs.now) same;
      rise = subst AllRise (sym same) (entries_rise c.args.versions.now c.args.asked.now.start.now c.from_key-key-items.ensures.ordered c.requires);
    }

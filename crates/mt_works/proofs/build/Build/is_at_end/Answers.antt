use Rattle.std.proofs.Common.{ℕ, List, Option, subst}
use Rattle.std.specs.Prelude.{IsTrue}
use Rattle.mt_types.specs.Views.{is_before}
use Rattle.mt_slice.specs.Place.{AreBytes, place_of, under}
use Rattle.mt_chart.specs.Scan.{AtMost}
use Rattle.mt_works.specs.Build.{IsBehindAll}
use Rattle.mt_works.specs.BuildFields.{build_of}
use Rattle.mt_works.proofs.PrefixLemmas.{behind_all}
use Rattle.mt_works.proofs.build.Build.is_at_end.Goals as goal

pub returns-in-Some : goal.returns-in-Some
returns-in-Some c = λ yes.
    let same = c.as_slice.ensures in
    subst IsBehindAll c.self.view_is
    (behind_all (build_of c.self.inside) c.in-Some.end (subst AreBytes same c.is_from.ensures.bytes)
    (λ key within. subst (λ (e : Option (List ℕ)). IsTrue (is_before key e)) c.in-Some.is (c.self.invariant.ends key within))
    (subst (λ (e : List ℕ). AtMost (place_of e) (under c.self.inside.scan.prefix c.self.inside.scan.at)) same (c.is_from.ensures.value.0 yes)))

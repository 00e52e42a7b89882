use Rattle.std.proofs.Common.{ap, ◌∙◌}
use Rattle.std.specs.Ordering.{is_some_and, is_lt}
use Rattle.mt_view.proofs.MemberLemmas.{partial-total}
use Rattle.mt_view.proofs.members.is_before.Goals as goal

pub returns-in-Some : goal.returns-in-Some
returns-in-Some c =
    rw (c.in-Some.is, ← c.as_slice.ensures.value, ← c.as_slice-in-Some.ensures)
    (c.lt.ensures ∙ ap (is_some_and is_lt) (partial-total c.as_slice.result.now c.as_slice-in-Some.result.now))

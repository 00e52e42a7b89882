use Rattle.std.proofs.Common.{ap, ◌∙◌}
use Rattle.std.specs.Ordering.{is_some_and, is_ge}
use Rattle.mt_view.proofs.MemberLemmas.{partial-total}
use Rattle.mt_view.proofs.members.is_from.Goals as goal

pub returns : goal.returns
returns c =
    c.ge.ensures ∙ ap (is_some_and is_ge) (partial-total c.as_slice.result.now c.as_slice-2.result.now)
    ∙ rw (c.as_slice.ensures.value, c.as_slice-2.ensures)

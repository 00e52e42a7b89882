use Rattle.std.proofs.Common.{ℕ, ◌++◌, List, false, sym, ap, subst, ◌∙◌}
use Rattle.mt_walk.specs.Walk.{course_of, walk_of}
use Rattle.mt_walk.specs.Steps.{Begins}
use Rattle.mt_walk.proofs.walk.Walk.new.Goals as goal

-- the buffer has the key
pub returns : goal.returns
returns c =
    subst (λ (key : List ℕ). Begins c.args.tree.now c.args.start.now (walk_of (course_of c.in_ok-course.course) key false))
    (sym (c.in_ok-extend_from_slice.ensures.items ∙ ap (λ (bytes : List ℕ). bytes ++ c.key_bytes.result.now) c.new-key.ensures.items ∙ c.key_bytes.ensures.value))
    c.in_ok-course.ensures

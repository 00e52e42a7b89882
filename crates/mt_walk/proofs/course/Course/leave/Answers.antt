use Rattle.std.proofs.Common.{ℕ, ◌≡◌, ◌-◌, List, [], ◌++◌, take, subst, sym, ap, ◌∙◌}
use Rattle.mt_walk.specs.Walk.{CourseView, WalkView, course_of, walk_of}
use Rattle.mt_walk.specs.Steps.{GoesBy}
use Rattle.mt_walk.specs.declared.course.Step.TheVariants.{On}
use Rattle.mt_walk.specs.declared.course.Stop.{Stop}
use Rattle.mt_walk.proofs.Moves.{walk_has_right, walk_goes_right, walk_has_above, walk_leaves, walk_ends}
use Rattle.mt_walk.proofs.course.Course.leave.Goals as goal
use Rattle.mt_walk.proofs.course.Course.leave.Goals.{In-None}

pub come_to-requires : goal.come_to-requires
come_to-requires c = let (key, given, stands) = c.requires.stands in walk_has_right (walk_of (course_of c.args.self.now) key given) stands c.args.right c.requires.ends c.in-Some.link c.in-Some.is

pub returns-in-Some : goal.returns-in-Some
returns-in-Some c = λ key given stands. (let comes = c.come_to.ensures in
    subst (λ (new : CourseView). GoesBy (walk_of (course_of c.args.self.now) key given) On (walk_of new key given)) (sym comes.2)
    (walk_goes_right (walk_of (course_of c.args.self.now) key given) stands c.args.right c.requires.ends c.in-Some.link c.in-Some.is comes.0 comes.1))

pub come_to-requires-in-Some-pop : goal.come_to-requires-in-Some-pop
come_to-requires-in-Some-pop c = let (key, given, stands) = c.requires.stands in
    walk_has_above (walk_of (course_of c.args.self.now) key given) stands c.args.right c.requires.ends c.in_default.is c.pop.new.self.items c.in-Some-pop.above c.in-Some-pop.ensures.items

pub returns-in-Some-pop : goal.returns-in-Some-pop
returns-in-Some-pop c = λ key given stands. (let comes = c.come_to-in-Some-pop.ensures in
    subst (λ (new : CourseView). GoesBy (walk_of (course_of c.args.self.now) key given) On (walk_of new key given)) (sym comes.2)
    (walk_leaves (walk_of (course_of c.args.self.now) key given) stands c.args.right c.requires.ends c.in_default.is c.pop.new.self.items c.in-Some-pop.above c.in-Some-pop.ensures.items comes.0 comes.1))

-- there is no stop
none_then : (c : In-None) → c.pop.new.self.items ≡ []
none_then c = c.in-None.ensures.rest ∙ ap (λ (n : ℕ). take (n - 1) c.args.self.now.path.items) c.in-None.ensures.cases.0

none : (c : In-None) → c.args.self.now.path.items ≡ []
none c = c.in-None.ensures.items ∙ ap (λ (stops : List Stop). stops ++ []) (none_then c)

pub returns-in-None : goal.returns-in-None
returns-in-None c = λ key given stands. (
  ap (λ (stops : List Stop). let v : WalkView = record (walk_of (course_of c.args.self.now) key given) { path = stops } in v) (none_then c ∙ sym (none c)),
  walk_ends (walk_of (course_of c.args.self.now) key given) stands c.args.right c.requires.ends c.in_default.is (none c),
)

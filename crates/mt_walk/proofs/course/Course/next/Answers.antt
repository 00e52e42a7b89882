use Rattle.std.proofs.Common.{None, subst, sym}
use Rattle.mt_walk.specs.Walk.{WalkView, course_of, walk_of, GivesRow}
use Rattle.mt_walk.specs.Steps.{StandsOn, Goes}
use Rattle.mt_walk.specs.declared.course.Step.{Step}
use Rattle.mt_walk.specs.declared.course.Step.TheVariants.{On, Past, End}
use Rattle.mt_walk.proofs.Moves.{walk_begins, walk_goes_on, gives_from}
use Rattle.mt_walk.proofs.course.Course.next.Goals as goal
use Rattle.mt_walk.proofs.course.Course.next.Goals.{In-On, In-Past, In-End}

pub loop-entry-init : goal.loop-entry-init
loop-entry-init c = λ key given stands. walk_begins (walk_of (course_of c.args.self.now) key given) stands

pub step-requires : goal.step-requires
step-requires c = let (key, given, stands) = c.requires in (key, given, (c.loop-entry.invariant key given stands).on.stands)

goes : (c : In-On) → Goes (course_of c.loop-entry.self) On (course_of c.step.new.self)
goes c = subst (λ (s : Step). Goes (course_of c.loop-entry.self) s (course_of c.step.new.self)) c.in-On.is c.in_ok-step.ensures

pub loop-entry-smaller : goal.loop-entry-smaller
loop-entry-smaller c =
    let (key, given, stands) = c.requires in
    let so_far = c.loop-entry.invariant key given stands in
    (walk_goes_on (walk_of (course_of c.args.self.now) key given) (walk_of (course_of c.loop-entry.self) key given) (walk_of (course_of c.step.new.self) key given) so_far (goes c key given so_far.on.stands)).1

pub loop-entry-preserved : goal.loop-entry-preserved
loop-entry-preserved c = λ key given stands. (let so_far = c.loop-entry.invariant key given stands in
    (walk_goes_on (walk_of (course_of c.args.self.now) key given) (walk_of (course_of c.loop-entry.self) key given) (walk_of (course_of c.step.new.self) key given) so_far (goes c key given so_far.on.stands)).0)

past : (c : In-Past) → Goes (course_of c.loop-entry.self) (Past c.in-Past.entry c.in-Past.row) (course_of c.step.new.self)
past c = subst (λ (s : Step). Goes (course_of c.loop-entry.self) s (course_of c.step.new.self)) c.in-Past.is c.in_ok-step.ensures

pub returns-in-Past : goal.returns-in-Past
returns-in-Past c = λ key given stands. (let so_far = c.loop-entry.invariant key given stands in (walk_of (course_of c.loop-entry.self) key given, so_far, past c key given so_far.on.stands))

ends : (c : In-End) → Goes (course_of c.loop-entry.self) End (course_of c.step.new.self)
ends c = subst (λ (s : Step). Goes (course_of c.loop-entry.self) s (course_of c.step.new.self)) c.in-End.is c.in_ok-step.ensures

pub returns-in-End : goal.returns-in-End
returns-in-End c = λ key given stands. (
    let begun : WalkView = walk_of (course_of c.args.self.now) key given in
    let walk : WalkView = walk_of (course_of c.loop-entry.self) key given in
    let so_far = c.loop-entry.invariant key given stands in
    let stays = ends c key given so_far.on.stands in
    subst (λ (n : WalkView). StandsOn begun n × GivesRow begun None n) (sym stays.0) (so_far.on, gives_from begun walk walk None so_far stays.1))

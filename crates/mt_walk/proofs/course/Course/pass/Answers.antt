use Rattle.std.proofs.Common.{refl, ap, subst, sym}
use Rattle.mt_border.specs.Entry.{content_row}
use Rattle.mt_walk.specs.Walk.{CourseView, course_of, walk_of}
use Rattle.mt_walk.specs.Steps.{GoesBy}
use Rattle.mt_walk.specs.declared.course.Step.TheVariants.{On}
use Rattle.mt_walk.proofs.Moves.{walk_enters, walk_may_seek, walk_room}
use Rattle.mt_walk.proofs.course.Course.pass.Goals as goal

pub enter-requires-clause-seeks : goal.enter-requires-clause-seeks
enter-requires-clause-seeks c = let (key, given, stands) = c.requires.stands in walk_may_seek (walk_of (course_of c.args.self.now) key given) stands c.args.entry.now c.requires.there c.in-Link.head c.in-Link.is 0

pub enter-requires-clause-room : goal.enter-requires-clause-room
enter-requires-clause-room c = let (key, given, stands) = c.requires.stands in walk_room (walk_of (course_of c.args.self.now) key given) stands c.args.entry.now c.requires.there

pub returns-in_ok-enter-in-Link : goal.returns-in_ok-enter-in-Link
returns-in_ok-enter-in-Link c = λ key given stands. (let enters = c.in_ok-enter-in-Link.ensures in
    subst (λ (new : CourseView). GoesBy (walk_of (course_of c.args.self.now) key given) On (walk_of new key given)) (sym enters.2.2)
    (walk_enters (walk_of (course_of c.args.self.now) key given) stands c.args.entry.now c.requires.there c.in-Link.head c.in-Link.is enters.0 enters.1 enters.2.0 enters.2.1))

pub returns-in-Short : goal.returns-in-Short
returns-in-Short c = λ key given stands. record { there = c.requires.there; has = ap content_row c.in-Short.is; passed = refl }

pub returns-in-Long : goal.returns-in-Long
returns-in-Long c = λ key given stands. record { there = c.requires.there; has = ap content_row c.in-Long.is; passed = refl }

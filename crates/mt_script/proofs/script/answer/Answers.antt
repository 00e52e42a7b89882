use Rattle.std.proofs.Common.{refl}
use Rattle.mt_script.proofs.script.answer.Goals as goal

pub returns-in-Ok-Once-clause-stands : goal.returns-in-Ok-Once-clause-stands
returns-in-Ok-Once-clause-stands c = λ past stands. rw (c.in-Ok-Once.ensures, c.in-Ok-Once.field-0-is) (c.ask.ensures.stands past stands)

pub returns-in-Ok-Finish-clause-stands : goal.returns-in-Ok-Finish-clause-stands
returns-in-Ok-Finish-clause-stands c = λ past stands. rw (c.in-Ok-Finish.ensures, c.in-Ok-Finish.field-0-is) (c.finish.ensures.stands past stands)

pub returns-in-Ok-Feed-clause-stands : goal.returns-in-Ok-Feed-clause-stands
returns-in-Ok-Feed-clause-stands c = λ past stands. (past, rw (c.in-Ok-Feed.ensures, c.in-Ok-Feed.field-0-is) (c.feed.ensures past stands, refl), stands)

pub returns-in-Ok-Read-clause-stands : goal.returns-in-Ok-Read-clause-stands
returns-in-Ok-Read-clause-stands c = λ past stands. (past, rw (c.in-Ok-Read.ensures, c.in-Ok-Read.field-0-is) (c.read.ensures past stands.0, refl), stands)

pub returns-in-Ok-Alone-clause-stands : goal.returns-in-Ok-Alone-clause-stands
returns-in-Ok-Alone-clause-stands c = λ past stands. rw (c.in-Ok-Alone.ensures, c.in-Ok-Alone.field-0-is) (c.alone.ensures.stands past stands)

pub returns-in-Ok-Len-clause-stands : goal.returns-in-Ok-Len-clause-stands
returns-in-Ok-Len-clause-stands c = λ past stands. (past, rw (c.in-Ok-Len.ensures, c.in-Ok-Len.field-0-is) (c.len.ensures past stands.0, refl), stands)

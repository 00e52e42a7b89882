use Rattle.mt_serve.proofs.plain.sessions_alone_are_plain.Goals as goal
use Rattle.mt_serve.proofs.ReadLemmas.{reads_at_once}
use Rattle.mt_serve.proofs.PlainLemmas.{alone_answers, alone_answers_frames, alone_serves, alone_breaks, fresh_is_alone}

pub returns-clause-fresh : goal.returns-clause-fresh
returns-clause-fresh c = fresh_is_alone

pub returns-clause-reads : goal.returns-clause-reads
returns-clause-reads c = reads_at_once

pub returns-clause-queries : goal.returns-clause-queries
returns-clause-queries c = alone_answers

pub returns-clause-frames : goal.returns-clause-frames
returns-clause-frames c = alone_answers_frames

pub returns-clause-served : goal.returns-clause-served
returns-clause-served c = alone_serves

pub returns-clause-broken : goal.returns-clause-broken
returns-clause-broken c = alone_breaks

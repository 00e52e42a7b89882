-- What the wire tells of a reply: its pass and its call stay with the server.
use Rattle.mt_types.specs.declared.event.Answer.{Answer}
use Rattle.mt_types.specs.declared.event.Answer.TheVariants as answers
use Rattle.mt_types.specs.declared.event.Reply.{Reply}
use Rattle.mt_wire.specs.declared.response.Response.{Response}
use Rattle.mt_wire.specs.declared.response.Response.TheVariants.{Done}
use Rattle.mt_wire.specs.declared.response.End.{End}
use Rattle.mt_wire.specs.declared.response.End.TheVariants.{Absent, Found, Committed, Rows, Tidied, Built}

abbrev pub end_of : Answer → End
end_of answers.Absent = Absent
end_of (answers.Found row) = Found row
end_of (answers.Stored number) = Committed number
end_of (answers.Removed number) = Committed number
end_of (answers.Rows pairs) = Rows pairs
end_of (answers.Tidied rule) = Tidied rule
end_of (answers.Built view) = Built view

abbrev pub response_of : Reply → Response
response_of reply = Done reply.from reply.to (end_of reply.answer)

-- What a line of input gives.
use Rattle.std.specs.Prelude.{ℕ, List, Option, Some, None}
use Rattle.mt_types.specs.Limits.{request_fault}
use Rattle.mt_types.specs.RefusalNumbers.{refusal_number}
use Rattle.mt_types.specs.declared.refusal.Refusal.{Refusal}
use Rattle.mt_types.specs.declared.row.Change.TheVariants.{Put as PutChange, Drop as DropChange}
use Rattle.mt_types.specs.declared.event.Request.{Request}
use Rattle.mt_types.specs.declared.event.Request.TheVariants.{Get, Put, PutIf, Remove, Range, Tidy, Build}
use Rattle.mt_script.specs.Reading.{request_of}
use Rattle.mtrows.specs.declared.Line.{Line}
use Rattle.mtrows.specs.declared.Line.TheVariants.{Says, Refused, Bad}

-- the change that a request asks for: only puts and removes do; what a conditional put does depends on the rows
abbrev pub change_said : Request → Line
change_said (Put key sets) = Says (PutChange key sets)
change_said (Remove key) = Says (DropChange key)
change_said (Get key columns) = Bad
change_said (PutIf key sets version) = Bad
change_said (Range start limit columns) = Bad
change_said (Tidy key) = Bad
change_said (Build spec) = Bad

-- a request that breaks a limit is refused
abbrev pub said_within : Request → Option Refusal → Line
said_within request None = change_said request
said_within request (Some refusal) = Refused (refusal_number refusal)

abbrev pub request_said : ℕ → Option Request → Line
request_said C None = Bad
request_said C (Some request) = said_within request (request_fault C request)

-- what a line gives on an index of C columns
abbrev pub line_said : ℕ → List ℕ → Line
line_said C text = request_said C (request_of text)

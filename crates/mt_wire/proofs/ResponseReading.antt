-- Reading answers from left to right, as Reading.antt does queries: the laws need it, and no code does it.
use Rattle.std.specs.Prelude.{ℕ, zero, suc, ◌+◌, ◌*◌, ◌^◌, List, length, Option, Some, None, nat_lt, ◌==◌, if◌then◌else◌}
use Rattle.std.specs.Int.{w32, w64}
use Rattle.mt_types.specs.declared.row.Row.{Row}
use Rattle.mt_types.specs.declared.limits.TheConstants.{MAX_KEY_BYTES}
use Rattle.mt_types.specs.declared.event.TidyRule.{TidyRule}
use Rattle.mt_types.specs.TidyNumbers.{tidy_of}
use Rattle.mt_types.specs.declared.refusal.Refusal.{Refusal}
use Rattle.mt_types.specs.RefusalNumbers.{refusal_of}
use Rattle.mt_wire.specs.declared.response.Response.{Response}
use Rattle.mt_wire.specs.declared.response.Response.TheVariants.{Refused, Done, View, Dropped, FoundAll, Server as Served}
use Rattle.mt_wire.specs.declared.server.ServerRefusal.{ServerRefusal}
use Rattle.mt_wire.specs.declared.server.ServerRefusal.TheVariants.{DiskFailed, DiskFull, InMemory, NotAllowed, TooMuchAtOnce}
use Rattle.mt_wire.specs.declared.server.Role.{Role}
use Rattle.mt_wire.specs.declared.server.Role.TheVariants.{Read, Write, All}
use Rattle.mt_wire.specs.declared.server.Count.{Count}
use Rattle.mt_wire.specs.declared.server.ListedView.{ListedView}
use Rattle.mt_wire.specs.declared.server.ServerResponse.{ServerResponse}
use Rattle.mt_wire.specs.declared.server.ServerResponse.TheVariants.{Refused as OfServer, Hello, Ping, Info, Views, Waited, Stopped}
use Rattle.mt_wire.specs.declared.response.End.TheVariants.{Absent, Found, Committed, Rows, Tidied, Built, Counted}
use Rattle.mt_wire.specs.Reading.{Reader, ◌>>=◌, both, made, nothing_at, byte_at, number_at, key_at, short_at, counted_at, counted16_at, kind_at, spec_rest}
use Rattle.mt_wire.specs.ServerReading.{flag_rest}

unfoldable pub sum_at : Reader ℕ
sum_at = made (λ x. x.0 * 2 ^ 64 + x.1) (both (number_at w64) (number_at w64))

unfoldable pub row_at : Reader Row
row_at = made (λ x. record { version = x.0; columns = x.1 }) (both (number_at w64) (counted_at short_at))

-- a key that is not too long
unfoldable pub index_key_at : Reader (List ℕ)
index_key_at bytes = do
  key ← key_at bytes
  if nat_lt MAX_KEY_BYTES (length key.0) then None else Some (key.0, key.1)

unfoldable pub pair_at : Reader (List ℕ × Row)
pair_at = both index_key_at row_at

-- the refusal of this number, with its detail, which is in the next eight bytes
unfoldable pub refusal_rest : ℕ → Reader Refusal
refusal_rest kind bytes = do
  detail ← number_at w64 bytes
  refusal ← refusal_of kind detail.0
  Some (refusal, detail.1)

-- the rule of this number, without more bytes
unfoldable pub rule_rest : ℕ → Reader TidyRule
rule_rest kind bytes = do
  rule ← tidy_of kind
  Some (rule, bytes)

-- the numbers of commits at the begin and at the end of a call, and how it ended
abbrev pub span_at : Reader (ℕ × ℕ)
span_at = both (number_at w64) (number_at w64)

unfoldable pub absent_at : Reader Response
absent_at = made (λ x. Done x.0 x.1 Absent) span_at

unfoldable pub found_at : Reader Response
found_at = made (λ x. Done x.0.0 x.0.1 (Found x.1)) (both span_at row_at)

unfoldable pub committed_at : Reader Response
committed_at = made (λ x. Done x.0.0 x.0.1 (Committed x.1)) (both span_at (number_at w64))

unfoldable pub rows_at : Reader Response
rows_at = made (λ x. Done x.0.0 x.0.1 (Rows x.1)) (both span_at (counted16_at pair_at))

unfoldable pub tidied_at : Reader Response
tidied_at = made (λ x. Done x.0.0 x.0.1 (Tidied x.1)) (both span_at (kind_at rule_rest))

unfoldable pub built_at : Reader Response
built_at = made (λ x. Done x.0.0 x.0.1 (Built (record { 0 = x.1 }))) (both span_at (number_at w64))

unfoldable pub view_at : Reader Response
view_at =
    made (λ x. View (record { at = x.0.0.0; count = x.0.0.1; sums = x.0.1; rows = x.1 }))
    (both (both (both (number_at w64) (number_at w64)) (counted_at sum_at)) (counted16_at pair_at))

unfoldable pub ended_rest : ℕ → Reader Response
ended_rest zero = λ bytes. None
ended_rest (suc zero) = absent_at
ended_rest (suc (suc zero)) = found_at
ended_rest (suc (suc (suc zero))) = committed_at
ended_rest (suc (suc (suc (suc zero)))) = rows_at
ended_rest (suc (suc (suc (suc (suc zero))))) = tidied_at
ended_rest (suc (suc (suc (suc (suc (suc zero)))))) = built_at
ended_rest (suc (suc (suc (suc (suc (suc (suc zero))))))) = view_at
ended_rest (suc (suc (suc (suc (suc (suc (suc (suc zero)))))))) = made (λ _. Dropped) nothing_at
ended_rest (suc (suc (suc (suc (suc (suc (suc (suc (suc kind))))))))) = λ bytes. None

-- whether a key has a row, and the row
unfoldable pub found_rest : ℕ → Reader (Option Row)
found_rest zero = made (λ _. None) nothing_at
found_rest (suc zero) = made (λ x. Some x) row_at
found_rest (suc (suc kind)) = λ bytes. None

unfoldable pub found_all_at : Reader Response
found_all_at = made (λ x. FoundAll x.0 x.1) (both (number_at w64) (counted16_at (kind_at found_rest)))

unfoldable pub total_at : Reader Response
total_at = made (λ x. Done x.0.0 x.0.1 (Counted x.1)) (both span_at (number_at w32))

-- the number 0, and nothing else
unfoldable pub zero_at : Reader (Unit {0})
zero_at bytes = do
  number ← number_at w64 bytes
  if number.0 == 0 then Some (tt, number.1) else None

unfoldable pub turned_rest : ℕ → Reader ServerRefusal
turned_rest kind =
    if kind == 19 then made (λ x. DiskFailed x) (number_at w64)
    else if kind == 20 then made (λ _. DiskFull) zero_at
    else if kind == 21 then made (λ _. InMemory) zero_at
    else if kind == 24 then made (λ _. NotAllowed) zero_at
    else if kind == 25 then made (λ _. TooMuchAtOnce) zero_at
    else λ bytes. None

-- a refusal: from 19 on it is the server's
unfoldable pub refused_rest : ℕ → Reader Response
refused_rest kind =
    if nat_lt kind 19 then made (λ x. Refused x) (refusal_rest kind)
    else made (λ x. Served (OfServer x)) (turned_rest kind)

-- a role, without more bytes
unfoldable pub role_rest : ℕ → Reader Role
role_rest zero = λ bytes. None
role_rest (suc zero) = made (λ _. Read) nothing_at
role_rest (suc (suc zero)) = made (λ _. Write) nothing_at
role_rest (suc (suc (suc zero))) = made (λ _. All) nothing_at
role_rest (suc (suc (suc (suc kind)))) = λ bytes. None

unfoldable pub hello_at : Reader ServerResponse
hello_at =
    made (λ x. Hello x.0.0.0.0.0 x.0.0.0.0.1 x.0.0.0.1 x.0.0.1 x.0.1 x.1)
    (both (both (both (both (both byte_at (kind_at role_rest)) byte_at) sum_at) (number_at w64)) (number_at w64))

unfoldable pub ping_at : Reader ServerResponse
ping_at = made (λ x. Ping x.0 x.1) (both (number_at w64) (number_at w64))

unfoldable pub count_at : Reader Count
count_at = made (λ x. record { name = x.0; number = x.1 }) (both key_at (number_at w64))

unfoldable pub info_at : Reader ServerResponse
info_at = made (λ x. Info x) (counted16_at count_at)

unfoldable pub listed_at : Reader ListedView
listed_at =
    made (λ x. record { number = record { 0 = x.0.0.0 }; at = x.0.0.1; rows = x.0.1; spec = x.1 })
    (both (both (both (number_at w64) (number_at w64)) (number_at w64)) (kind_at spec_rest))

unfoldable pub views_at : Reader ServerResponse
views_at = made (λ x. Views x.0 x.1) (both (number_at w64) (counted_at listed_at))

unfoldable pub waited_at : Reader ServerResponse
waited_at = made (λ x. Waited x.0.0 x.0.1 x.1) (both (both (kind_at flag_rest) (number_at w64)) (number_at w64))

unfoldable pub stopped_at : Reader ServerResponse
stopped_at = made (λ x. Stopped x) (number_at w64)

unfoldable pub served_rest : ℕ → Reader ServerResponse
served_rest kind =
    if kind == 16 then hello_at
    else if kind == 17 then ping_at
    else if kind == 18 then info_at
    else if kind == 19 then views_at
    else if kind == 20 then waited_at
    else if kind == 21 then stopped_at
    else λ bytes. None

-- from 16 on answers are the server's, and 13 and 14 answer reads of one moment
unfoldable pub response_rest : ℕ → Reader Response
response_rest kind =
    if kind == 0 then kind_at refused_rest
    else if kind == 13 then found_all_at
    else if kind == 14 then total_at
    else if nat_lt kind 16 then ended_rest kind
    else made (λ x. Served x) (served_rest kind)

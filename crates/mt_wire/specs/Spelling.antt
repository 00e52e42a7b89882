-- The bytes that spell each message, and a frame of them. Numbers have the highest byte first.
use Rattle.std.specs.Prelude.{ℕ, ◌/◌, ◌%◌, ◌^◌, List, [], ◌∷◌, ◌++◌, length, Option, Some, None, unwrap_or, Bool, true, false}
use Rattle.std.specs.List.{flat_map}
use Rattle.std.specs.Int.{w16, w32, w64, to_be_bytes}
use Rattle.mt_types.specs.declared.event.Request.TheVariants.{Get, Put, PutIf, Remove, Range, Tidy, Build}
use Rattle.mt_types.specs.declared.view.ViewSpec.{ViewSpec}
use Rattle.mt_types.specs.declared.view.ViewSpec.TheVariants.{Range as RangeOf, Prefix as PrefixOf}
use Rattle.mt_types.specs.declared.view.RowTest.{RowTest}
use Rattle.mt_types.specs.declared.view.RowTest.TheVariants.{Any, Equals, AtLeast}
use Rattle.mt_wire.specs.declared.query.Query.{Query}
use Rattle.mt_types.specs.declared.row.Row.{Row}
use Rattle.mt_types.specs.declared.event.TidyRule.{TidyRule}
use Rattle.mt_types.specs.TidyNumbers.{tidy_number}
use Rattle.mt_types.specs.declared.refusal.Refusal.{Refusal}
use Rattle.mt_types.specs.RefusalNumbers.{refusal_number, refusal_detail}
use Rattle.mt_wire.specs.declared.query.Query.{Query}
use Rattle.mt_wire.specs.declared.query.Query.TheVariants.{Call, ViewRead, ViewDrop, Read, Server}
use Rattle.mt_wire.specs.declared.read.ReadQuery.{ReadQuery}
use Rattle.mt_wire.specs.declared.read.ReadQuery.TheVariants as reads
use Rattle.mt_wire.specs.declared.response.Response.{Response}
use Rattle.mt_wire.specs.declared.response.Response.TheVariants.{Refused, Done, View, Dropped, FoundAll, Server as Served}
use Rattle.mt_wire.specs.declared.response.End.TheVariants.{Absent, Found, Committed, Rows, Tidied, Built, Counted}
use Rattle.mt_wire.specs.declared.server.ServerQuery.{ServerQuery}
use Rattle.mt_wire.specs.declared.server.ServerQuery.TheVariants as asks
use Rattle.mt_wire.specs.declared.server.ServerResponse.{ServerResponse}
use Rattle.mt_wire.specs.declared.server.ServerResponse.TheVariants.{Refused as OfServer, Hello, Ping, Info, Views, Waited, Stopped}
use Rattle.mt_wire.specs.declared.server.Awaited.{Awaited}
use Rattle.mt_wire.specs.declared.server.Awaited.TheVariants as awaits
use Rattle.mt_wire.specs.declared.server.Count.{Count}
use Rattle.mt_wire.specs.declared.server.ListedView.{ListedView}
use Rattle.mt_wire.specs.ServerNumbers.{role_number, server_refusal_detail, server_refusal_number}
use Rattle.mt_wire.specs.declared.version.WireVersion.{WireVersion}
use Rattle.mt_wire.specs.declared.frame.Frame.{Frame}
use Rattle.mt_wire.specs.Versions.{version_byte}

-- a key: two bytes of length, then its bytes
abbrev pub key_spelling : List ℕ → List ℕ
key_spelling key = to_be_bytes w16 (length key) ++ key

-- the bytes of a column, or numbers of columns: one byte of length, then as many bytes
abbrev pub short_spelling : List ℕ → List ℕ
short_spelling bytes = length bytes ∷ bytes

-- a column that is set: its number, and its bytes
abbrev pub set_spelling : ℕ × List ℕ → List ℕ
set_spelling set = set.0 ∷ short_spelling set.1

-- one byte that counts them, then the items
abbrev pub counted : {A : Type 0} → (A → List ℕ) → List A → List ℕ
counted item items = length items ∷ flat_map item items

-- two bytes that count them, then the items
abbrev pub counted16 : {A : Type 0} → (A → List ℕ) → List A → List ℕ
counted16 item items = to_be_bytes w16 (length items) ++ flat_map item items

abbrev pub test_spelling : RowTest → List ℕ
test_spelling Any = 0 ∷ []
test_spelling (Equals column bytes) = 1 ∷ column ∷ short_spelling bytes
test_spelling (AtLeast column least) = 2 ∷ column ∷ to_be_bytes w64 least

-- the end of a range, if it has one
abbrev pub end_spelling : Option (List ℕ) → List ℕ
end_spelling None = 0 ∷ []
end_spelling (Some hi) = 1 ∷ key_spelling hi

abbrev pub spec_spelling : ViewSpec → List ℕ
spec_spelling (RangeOf lo hi test) = 0 ∷ (key_spelling lo ++ end_spelling hi ++ test_spelling test)
spec_spelling (PrefixOf key test) = 1 ∷ (key_spelling key ++ test_spelling test)

abbrev pub flag_spelling : Bool → List ℕ
flag_spelling false = 0 ∷ []
flag_spelling true = 1 ∷ []

-- what is waited for: the commits, or a view of this number
abbrev pub awaited_spelling : Awaited → List ℕ
awaited_spelling awaits.Commits = 0 ∷ []
awaited_spelling (awaits.View view) = 1 ∷ to_be_bytes w64 view.0
awaited_spelling awaits.Durable = 2 ∷ []

abbrev pub server_spelling : ServerQuery → List ℕ
server_spelling (asks.Hello newest secret name) = 16 ∷ newest ∷ (key_spelling secret ++ key_spelling name)
server_spelling (asks.Ping number) = 17 ∷ to_be_bytes w64 number
server_spelling asks.Info = 18 ∷ []
server_spelling asks.Views = 19 ∷ []
server_spelling (asks.Wait of number milliseconds) =
    20 ∷ (awaited_spelling of ++ to_be_bytes w64 number ++ to_be_bytes w32 milliseconds)
server_spelling (asks.Stop is_at_once) = 21 ∷ flag_spelling is_at_once

-- reads of one moment: the keys; the key before which a range begins, or none; the keys between which rows are counted
abbrev pub read_spelling : ReadQuery → List ℕ
read_spelling (reads.Gets keys columns) = 13 ∷ (counted16 key_spelling keys ++ short_spelling columns)
read_spelling (reads.RangeBack before limit columns) =
    14 ∷ (end_spelling before ++ to_be_bytes w16 limit ++ short_spelling columns)
read_spelling (reads.Count start stop most) = 15 ∷ (key_spelling start ++ end_spelling stop ++ to_be_bytes w32 most)

abbrev pub query_spelling : Query → List ℕ
query_spelling (Call (Get key columns)) = 1 ∷ (key_spelling key ++ short_spelling columns)
query_spelling (Call (Put key sets)) = 2 ∷ (key_spelling key ++ counted set_spelling sets)
query_spelling (Call (Remove key)) = 3 ∷ key_spelling key
query_spelling (Call (Range start limit columns)) =
    4 ∷ (key_spelling start ++ to_be_bytes w16 limit ++ short_spelling columns)
query_spelling (Call (Tidy key)) = 5 ∷ key_spelling key
query_spelling (Call (Build spec)) = 6 ∷ spec_spelling spec
query_spelling (ViewRead view floor start limit) =
    7 ∷ (to_be_bytes w64 view.0 ++ to_be_bytes w64 floor ++ key_spelling start ++ to_be_bytes w16 limit)
query_spelling (ViewDrop view) = 8 ∷ to_be_bytes w64 view.0
query_spelling (Call (PutIf key sets version)) =
    9 ∷ (key_spelling key ++ to_be_bytes w64 version ++ counted set_spelling sets)
query_spelling (Read query) = read_spelling query
query_spelling (Server query) = server_spelling query

-- a number of up to 128 bits: sixteen bytes
abbrev pub sum_spelling : ℕ → List ℕ
sum_spelling sum = to_be_bytes w64 (sum / 2 ^ 64) ++ to_be_bytes w64 (sum % 2 ^ 64)

-- the columns of a row
abbrev pub columns_spelling : List (List ℕ) → List ℕ
columns_spelling columns = counted short_spelling columns

abbrev pub row_spelling : Row → List ℕ
row_spelling row = to_be_bytes w64 row.version ++ columns_spelling row.columns

abbrev pub pair_spelling : List ℕ × Row → List ℕ
pair_spelling pair = key_spelling pair.0 ++ row_spelling pair.1

-- rows with their keys
abbrev pub pairs_spelling : List (List ℕ × Row) → List ℕ
pairs_spelling pairs = counted16 pair_spelling pairs

-- the row of a key, if it has one
abbrev pub found_spelling : Option Row → List ℕ
found_spelling None = 0 ∷ []
found_spelling (Some row) = 1 ∷ row_spelling row

-- the number of a refusal, and what goes with it, or 0
abbrev pub refusal_spelling : Refusal → List ℕ
refusal_spelling refusal = refusal_number refusal ∷ to_be_bytes w64 (unwrap_or (refusal_detail refusal) 0)

-- the number of what a tidy did
abbrev pub rule_spelling : TidyRule → List ℕ
rule_spelling rule = tidy_number rule ∷ []

-- the numbers of commits at the begin and at the end of a call
abbrev pub span_spelling : ℕ → ℕ → List ℕ
span_spelling start stop = to_be_bytes w64 start ++ to_be_bytes w64 stop

-- what a server counts: a name, and a number
abbrev pub count_spelling : Count → List ℕ
count_spelling count = key_spelling count.name ++ to_be_bytes w64 count.number

-- a view of a list: its number, the number of commits at which it is, how many rows it holds, and its specification
abbrev pub listed_spelling : ListedView → List ℕ
listed_spelling view =
    to_be_bytes w64 view.number.0 ++ to_be_bytes w64 view.at ++ to_be_bytes w64 view.rows ++ spec_spelling view.spec

abbrev pub served_spelling : ServerResponse → List ℕ
served_spelling (OfServer refusal) = 0 ∷ server_refusal_number refusal ∷ to_be_bytes w64 (server_refusal_detail refusal)
served_spelling (Hello version role columns run commits logged) =
    16 ∷ version ∷ role_number role ∷ columns
    ∷ (sum_spelling run ++ to_be_bytes w64 commits ++ to_be_bytes w64 logged)
served_spelling (Ping number commits) = 17 ∷ (to_be_bytes w64 number ++ to_be_bytes w64 commits)
served_spelling (Info counts) = 18 ∷ counted16 count_spelling counts
served_spelling (Views commits views) = 19 ∷ (to_be_bytes w64 commits ++ counted listed_spelling views)
served_spelling (Waited is_reached commits view) =
    20 ∷ (flag_spelling is_reached ++ to_be_bytes w64 commits ++ to_be_bytes w64 view)
served_spelling (Stopped commits) = 21 ∷ to_be_bytes w64 commits

abbrev pub response_spelling : Response → List ℕ
response_spelling (Refused refusal) = 0 ∷ refusal_spelling refusal
response_spelling (Done start stop Absent) = 1 ∷ span_spelling start stop
response_spelling (Done start stop (Found row)) = 2 ∷ (span_spelling start stop ++ row_spelling row)
response_spelling (Done start stop (Committed number)) = 3 ∷ (span_spelling start stop ++ to_be_bytes w64 number)
response_spelling (Done start stop (Rows pairs)) = 4 ∷ (span_spelling start stop ++ pairs_spelling pairs)
response_spelling (Done start stop (Tidied rule)) = 5 ∷ (span_spelling start stop ++ rule_spelling rule)
response_spelling (Done start stop (Built view)) = 6 ∷ (span_spelling start stop ++ to_be_bytes w64 view.0)
response_spelling (Done start stop (Counted number)) = 14 ∷ (span_spelling start stop ++ to_be_bytes w32 number)
response_spelling (View page) =
    7 ∷ (to_be_bytes w64 page.at ++ to_be_bytes w64 page.count ++ counted sum_spelling page.sums
    ++ pairs_spelling page.rows)
response_spelling Dropped = 8 ∷ []
response_spelling (FoundAll at rows) = 13 ∷ (to_be_bytes w64 at ++ counted16 found_spelling rows)
response_spelling (Served response) = served_spelling response

-- these messages, in a frame of this version
abbrev pub framed : {A : Type 0} → WireVersion → List A → Frame A
framed version messages = record { version = version; messages = messages }

-- a body: the version, and the messages
abbrev pub body_of : {A : Type 0} → (A → List ℕ) → Frame A → List ℕ
body_of message frame = version_byte frame.version ∷ counted message frame.messages

-- a frame: four bytes of length, then the body
abbrev pub frame_of : {A : Type 0} → (A → List ℕ) → Frame A → List ℕ
frame_of message frame = to_be_bytes w32 (length (body_of message frame)) ++ body_of message frame

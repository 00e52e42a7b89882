-- Which messages have a spelling that can be read again: their lengths and numbers fit their fields.
use Rattle.std.specs.Prelude.{ℕ, ◌<◌, ◌≤◌, ◌^◌, List, length, Option, Some, None, IfSome}
use Rattle.std.specs.List.{AllByRecursion}
use Rattle.mt_types.specs.declared.event.Request.TheVariants.{Get, Put, PutIf, Remove, Range, Tidy, Build}
use Rattle.mt_types.specs.declared.view.ViewSpec.{ViewSpec}
use Rattle.mt_types.specs.declared.view.ViewSpec.TheVariants.{Range as RangeOf, Prefix as PrefixOf}
use Rattle.mt_types.specs.declared.view.RowTest.{RowTest}
use Rattle.mt_types.specs.declared.view.RowTest.TheVariants.{Any, Equals, AtLeast}
use Rattle.mt_wire.specs.declared.query.Query.{Query}
use Rattle.mt_types.specs.declared.row.Row.{Row}
use Rattle.mt_types.specs.declared.limits.TheConstants.{MAX_KEY_BYTES}
use Rattle.mt_types.specs.declared.refusal.Refusal.{Refusal}
use Rattle.mt_types.specs.declared.refusal.Refusal.TheVariants.{FeedFull, Behind, OtherVersion}
use Rattle.mt_wire.specs.declared.query.Query.{Query}
use Rattle.mt_wire.specs.declared.query.Query.TheVariants.{Call, ViewRead, ViewDrop, Read, Server}
use Rattle.mt_wire.specs.declared.read.ReadQuery.{ReadQuery}
use Rattle.mt_wire.specs.declared.read.ReadQuery.TheVariants as reads
use Rattle.mt_wire.specs.declared.response.Response.{Response}
use Rattle.mt_wire.specs.declared.response.Response.TheVariants.{Refused, Done, View, Dropped, FoundAll, Server as Served}
use Rattle.mt_wire.specs.declared.server.Awaited.{Awaited}
use Rattle.mt_wire.specs.declared.server.Awaited.TheVariants as awaits
use Rattle.mt_wire.specs.declared.server.ServerRefusal.{ServerRefusal}
use Rattle.mt_wire.specs.declared.server.ServerRefusal.TheVariants.{DiskFailed}
use Rattle.mt_wire.specs.declared.server.ListedView.{ListedView}
use Rattle.mt_wire.specs.declared.server.ServerQuery.{ServerQuery}
use Rattle.mt_wire.specs.declared.server.ServerQuery.TheVariants as asks
use Rattle.mt_wire.specs.declared.server.ServerResponse.{ServerResponse}
use Rattle.mt_wire.specs.declared.server.ServerResponse.TheVariants.{Refused as OfServer, Hello, Ping, Info, Views, Waited, Stopped}
use Rattle.mt_wire.specs.declared.response.End.{End}
use Rattle.mt_wire.specs.declared.response.End.TheVariants.{Absent, Found, Committed, Rows, Tidied, Built, Counted}

-- ---- lengths, and counts

abbrev pub KeyFits : List ℕ → Type 0
KeyFits key = length key < 2 ^ 16

abbrev pub ShortFits : List ℕ → Type 0
ShortFits bytes = length bytes < 2 ^ 8

-- items that a byte counts
abbrev pub CountedFits : {A : Type 0} → (A → Type 0) → List A → Type 0
CountedFits Fits items = (length items < 2 ^ 8) × AllByRecursion Fits items

-- items that two bytes count
abbrev pub Counted16Fits : {A : Type 0} → (A → Type 0) → List A → Type 0
Counted16Fits Fits items = (length items < 2 ^ 16) × AllByRecursion Fits items

abbrev pub TestLengths : RowTest → Type 0
TestLengths Any = Unit {0}
TestLengths (Equals column bytes) = ShortFits bytes
TestLengths (AtLeast column least) = Unit {0}

abbrev pub EndLengths : Option (List ℕ) → Type 0
EndLengths None = Unit {0}
EndLengths (Some hi) = KeyFits hi

abbrev pub SpecLengths : ViewSpec → Type 0
SpecLengths (RangeOf lo hi test) = KeyFits lo × EndLengths hi × TestLengths test
SpecLengths (PrefixOf key test) = KeyFits key × TestLengths test

abbrev pub ServerLengths : ServerQuery → Type 0
ServerLengths (asks.Hello newest secret name) = KeyFits secret × KeyFits name
ServerLengths _ = Unit {0}

abbrev pub ReadLengths : ReadQuery → Type 0
ReadLengths (reads.Gets keys columns) = Counted16Fits KeyFits keys × ShortFits columns
ReadLengths (reads.RangeBack before limit columns) = EndLengths before × ShortFits columns
ReadLengths (reads.Count start stop most) = KeyFits start × EndLengths stop

abbrev pub QueryLengths : Query → Type 0
QueryLengths (Call (Get key columns)) = KeyFits key × ShortFits columns
QueryLengths (Call (Put key sets)) = KeyFits key × CountedFits (λ set. ShortFits set.1) sets
QueryLengths (Call (PutIf key sets version)) = KeyFits key × CountedFits (λ set. ShortFits set.1) sets
QueryLengths (Call (Remove key)) = KeyFits key
QueryLengths (Call (Range start limit columns)) = KeyFits start × ShortFits columns
QueryLengths (Call (Tidy key)) = KeyFits key
QueryLengths (Call (Build spec)) = SpecLengths spec
QueryLengths (ViewRead view floor start limit) = KeyFits start
QueryLengths (ViewDrop view) = Unit {0}
QueryLengths (Read query) = ReadLengths query
QueryLengths (Server query) = ServerLengths query

abbrev pub RowLengths : Row → Type 0
RowLengths row = CountedFits ShortFits row.columns

abbrev pub PairsLengths : List (List ℕ × Row) → Type 0
PairsLengths pairs = Counted16Fits (λ pair. RowLengths pair.1) pairs

abbrev pub EndLengthsOf : End → Type 0
EndLengthsOf (Found row) = RowLengths row
EndLengthsOf (Rows pairs) = PairsLengths pairs
EndLengthsOf _ = Unit {0}

abbrev pub ServedLengths : ServerResponse → Type 0
ServedLengths (Info counts) = Counted16Fits (λ count. KeyFits count.name) counts
ServedLengths (Views commits views) = CountedFits (λ view. SpecLengths view.spec) views
ServedLengths _ = Unit {0}

abbrev pub ResponseLengths : Response → Type 0
ResponseLengths (Refused refusal) = Unit {0}
ResponseLengths (Done start stop end) = EndLengthsOf end
ResponseLengths (View page) = (length page.sums < 2 ^ 8) × PairsLengths page.rows
ResponseLengths Dropped = Unit {0}
ResponseLengths (FoundAll at rows) = Counted16Fits (λ found. IfSome found RowLengths) rows
ResponseLengths (Served response) = ServedLengths response

-- ---- numbers and keys, as their types keep them

abbrev pub TestNumbers : RowTest → Type 0
TestNumbers Any = Unit {0}
TestNumbers (Equals column bytes) = Unit {0}
TestNumbers (AtLeast column least) = least < 2 ^ 64

abbrev pub SpecNumbers : ViewSpec → Type 0
SpecNumbers (RangeOf lo hi test) = TestNumbers test
SpecNumbers (PrefixOf key test) = TestNumbers test

abbrev pub AwaitedNumbers : Awaited → Type 0
AwaitedNumbers awaits.Commits = Unit {0}
AwaitedNumbers (awaits.View view) = view.0 < 2 ^ 64
AwaitedNumbers awaits.Durable = Unit {0}

abbrev pub ServerNumbers : ServerQuery → Type 0
ServerNumbers (asks.Ping number) = number < 2 ^ 64
ServerNumbers (asks.Wait of number milliseconds) =
    AwaitedNumbers of × (number < 2 ^ 64) × (milliseconds < 2 ^ 32)
ServerNumbers _ = Unit {0}

abbrev pub ReadNumbers : ReadQuery → Type 0
ReadNumbers (reads.Gets keys columns) = Unit {0}
ReadNumbers (reads.RangeBack before limit columns) = limit < 2 ^ 16
ReadNumbers (reads.Count start stop most) = most < 2 ^ 32

abbrev pub QueryNumbers : Query → Type 0
QueryNumbers (Call (PutIf key sets version)) = version < 2 ^ 64
QueryNumbers (Call (Range start limit columns)) = limit < 2 ^ 16
QueryNumbers (Call (Build spec)) = SpecNumbers spec
QueryNumbers (Call request) = Unit {0}
QueryNumbers (ViewRead view floor start limit) = (view.0 < 2 ^ 64) × (floor < 2 ^ 64) × (limit < 2 ^ 16)
QueryNumbers (ViewDrop view) = view.0 < 2 ^ 64
QueryNumbers (Read query) = ReadNumbers query
QueryNumbers (Server query) = ServerNumbers query

abbrev pub QueryFits : Query → Type 0
QueryFits query = QueryLengths query × QueryNumbers query

abbrev pub RefusalNumbers : Refusal → Type 0
RefusalNumbers (FeedFull held_from) = held_from < 2 ^ 64
RefusalNumbers (Behind at) = at < 2 ^ 64
RefusalNumbers (OtherVersion found) = found < 2 ^ 64
RefusalNumbers _ = Unit {0}

abbrev pub PairNumbers : List ℕ × Row → Type 0
PairNumbers pair = (length pair.0 ≤ MAX_KEY_BYTES) × (pair.1.version < 2 ^ 64)

abbrev pub EndNumbers : End → Type 0
EndNumbers Absent = Unit {0}
EndNumbers (Found row) = row.version < 2 ^ 64
EndNumbers (Committed number) = number < 2 ^ 64
EndNumbers (Rows pairs) = AllByRecursion PairNumbers pairs
EndNumbers (Tidied rule) = Unit {0}
EndNumbers (Built view) = view.0 < 2 ^ 64
EndNumbers (Counted number) = number < 2 ^ 32

abbrev pub ListedNumbers : ListedView → Type 0
ListedNumbers view =
    (view.number.0 < 2 ^ 64) × (view.at < 2 ^ 64) × (view.rows < 2 ^ 64) × SpecNumbers view.spec

abbrev pub ServerRefusalNumbers : ServerRefusal → Type 0
ServerRefusalNumbers (DiskFailed durable) = durable < 2 ^ 64
ServerRefusalNumbers _ = Unit {0}

abbrev pub ServedNumbers : ServerResponse → Type 0
ServedNumbers (OfServer refusal) = ServerRefusalNumbers refusal
ServedNumbers (Hello version role columns run commits logged) =
    (run < 2 ^ 128) × (commits < 2 ^ 64) × (logged < 2 ^ 64)
ServedNumbers (Ping number commits) = (number < 2 ^ 64) × (commits < 2 ^ 64)
ServedNumbers (Info counts) = AllByRecursion (λ count. count.number < 2 ^ 64) counts
ServedNumbers (Views commits views) = (commits < 2 ^ 64) × AllByRecursion ListedNumbers views
ServedNumbers (Waited is_reached commits view) = (commits < 2 ^ 64) × (view < 2 ^ 64)
ServedNumbers (Stopped commits) = commits < 2 ^ 64

abbrev pub ResponseNumbers : Response → Type 0
ResponseNumbers (Refused refusal) = RefusalNumbers refusal
ResponseNumbers (Done start stop end) = (start < 2 ^ 64) × (stop < 2 ^ 64) × EndNumbers end
ResponseNumbers (View page) =
    (page.at < 2 ^ 64) × (page.count < 2 ^ 64) × AllByRecursion (λ sum. sum < 2 ^ 128) page.sums
    × AllByRecursion PairNumbers page.rows
ResponseNumbers Dropped = Unit {0}
ResponseNumbers (FoundAll at rows) =
    (at < 2 ^ 64) × AllByRecursion (λ found. IfSome found (λ row. row.version < 2 ^ 64)) rows
ResponseNumbers (Served response) = ServedNumbers response

abbrev pub ResponseFits : Response → Type 0
ResponseFits response = ResponseLengths response × ResponseNumbers response

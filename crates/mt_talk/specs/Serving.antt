-- WHAT A SERVER ANSWERS WITHOUT ITS INDEX, around what answers the queries of its index: what each role may ask, and its
-- own queries.
use Rattle.std.specs.Prelude.{◌≡◌, ℕ, Bool, true, false, MatchBool, MatchOption, List, [], ◌∷◌, map, Option, Some, None, nat_le, nat_lt, not, if◌then◌else◌, unwrap_or}
use Rattle.std.specs.List.{list_any}
use Rattle.sha2.specs.Sha256.{sha256}
use Rattle.mt_types.specs.declared.event.Request.TheVariants.{Get, Put, PutIf, Remove, Range}
use Rattle.mt_wire.specs.declared.query.Query.{Query}
use Rattle.mt_wire.specs.declared.query.Query.TheVariants.{Call, ViewRead, Read as OfMoment, Server}
use Rattle.mt_wire.specs.declared.response.Response.{Response}
use Rattle.mt_wire.specs.declared.response.Response.TheVariants.{Refused, Server as Served}
use Rattle.mt_types.specs.declared.refusal.Refusal.TheVariants.{NoSuchView}
use Rattle.mt_wire.specs.declared.server.Role.{Role}
use Rattle.mt_wire.specs.declared.server.Role.TheVariants.{Read, Write, All}
use Rattle.mt_wire.specs.declared.server.ServerRefusal.{ServerRefusal}
use Rattle.mt_wire.specs.declared.server.ServerRefusal.TheVariants.{InMemory, NotAllowed}
use Rattle.mt_wire.specs.declared.server.Awaited.{Awaited}
use Rattle.mt_wire.specs.declared.server.Awaited.TheVariants.{Commits, View, Durable}
use Rattle.mt_wire.specs.declared.server.Count.{Count}
use Rattle.mt_wire.specs.declared.server.ListedView.{ListedView}
use Rattle.mt_wire.specs.declared.server.ServerQuery.{ServerQuery}
use Rattle.mt_wire.specs.declared.server.ServerQuery.TheVariants.{Hello, Ping, Info, Views, Wait, Stop}
use Rattle.mt_wire.specs.declared.server.ServerResponse.TheVariants.{Refused as OfServer, Hello as Greeting, Ping as Ponged, Info as Counted, Views as Listed, Waited, Stopped}
use Rattle.mt_talk.specs.declared.facts.Facts.{Facts}
use Rattle.mt_talk.specs.declared.server.Keeper.{Keeper}
use Rattle.mt_talk.specs.Growing.{within_memory}
use Rattle.mt_talk.specs.Tokens.{Admits}

-- ---- what each role may ask

-- gets, ranges, reads of one moment, pages of views, and what the server counts, lists and waits for
abbrev pub reads : Query → Bool
reads (Call (Get key columns)) = true
reads (Call (Range start limit columns)) = true
reads (ViewRead view floor start limit) = true
reads (OfMoment query) = true
reads (Server (Ping number)) = true
reads (Server Info) = true
reads (Server Views) = true
reads (Server (Wait of number milliseconds)) = true
reads _ = false

-- all but the end of the server
abbrev pub writes : Query → Bool
writes (Server (Stop is_at_once)) = false
writes _ = true

abbrev pub may : Role → Query → Bool
may Read query = reads query
may Write query = writes query
may All query = true

abbrev pub may_all : Role → List Query → Bool
may_all role queries = not (list_any (λ query. not (may role query)) queries)

-- ---- while rows can't be changed

-- puts and removes
abbrev pub changes_row : Query → Bool
changes_row (Call (Put key sets)) = true
changes_row (Call (PutIf key sets version)) = true
changes_row (Call (Remove key)) = true
changes_row _ = false

abbrev pub changes_rows : List Query → Bool
changes_rows queries = list_any changes_row queries

-- why these queries are refused: since one of them changes a row, and rows can't be changed now
abbrev pub hindered : Option ServerRefusal → List Query → Option ServerRefusal
hindered None queries = None
hindered (Some refusal) queries = if changes_rows queries then Some refusal else None

-- ---- what is answered

-- each query is refused so, whatever it is
abbrev pub refusals : ServerRefusal → List Query → List Response
refusals refusal queries = map (λ (query : Query). Served (OfServer refusal)) queries

-- the version up to which both know the wire
abbrev pub common_version : ℕ → ℕ
common_version newest = if nat_lt newest 3 then newest else 3

abbrev pub greeting : Facts → ℕ → Role → Response
greeting facts newest role =
    Served (Greeting (common_version newest) role facts.columns facts.run facts.commits facts.logged)

-- what is counted, in the order in which it is named
abbrev pub numbers : Facts → List ℕ
numbers facts =
    facts.commits ∷ facts.rows ∷ facts.nodes ∷ facts.standing ∷ facts.logged ∷ facts.connections ∷ facts.accepted ∷ facts.turned_away
    ∷ facts.frames ∷ facts.queries ∷ facts.faults ∷ facts.input_bytes ∷ facts.output_bytes ∷ unwrap_or facts.durable 0
    ∷ facts.wrong_secrets ∷ facts.buffered_bytes ∷ facts.resident_bytes ∷ facts.milliseconds ∷ []

-- the end of a wait for this number: whether the commits have reached it, or the view
abbrev pub reached : ℕ → ℕ → Option ℕ → Response
reached number commits None = Refused NoSuchView
reached number commits (Some at) = Served (Waited (nat_le number at) commits at)

-- the end of a wait until this number is durable
abbrev pub settled : ℕ → ℕ → Option ℕ → Response
settled number commits None = Served (OfServer InMemory)
settled number commits (Some at) = Served (Waited (nat_le number at) commits at)

abbrev pub waited : Facts → Awaited → ℕ → Response
waited facts Commits number = Served (Waited (nat_le number facts.commits) facts.commits 0)
waited facts (View view) number = reached number facts.commits facts.watched
waited facts Durable number = settled number facts.commits facts.durable

-- the server's answer to one of its queries (a hello doesn't come here)
abbrev pub IsTold : Facts → ServerQuery → Response → Type 0
IsTold facts (Ping number) response = response ≡ Served (Ponged number facts.commits)
IsTold facts Info response =
    (counts : List Count) × (response ≡ Served (Counted counts)) × (map (λ (count : Count). count.number) counts ≡ numbers facts)
IsTold facts Views response =
    (views : List ListedView) × (facts.views ≡ Some views) × (response ≡ Served (Listed facts.commits views))
IsTold facts (Wait of number milliseconds) response = response ≡ waited facts of number
IsTold facts (Stop is_at_once) response = response ≡ Served (Stopped facts.commits)
IsTold facts (Hello newest secret name) response = response ≡ Served (OfServer NotAllowed)

-- the query of the server that is alone in its frame
abbrev pub alone : List Query → Option ServerQuery
alone (Server query ∷ []) = Some query
alone _ = None

-- what is kept of a stop
abbrev pub stop_of : ServerQuery → Option Bool → Option Bool
stop_of (Stop is_at_once) stop = Some is_at_once
stop_of _ stop = stop

-- only these may differ: the role, and the stop that was asked
pub record Becomes (k : Keeper) (role : Option Role) (stop : Option Bool) (l : Keeper) : Type 0 where
  pub role_is : l.role ≡ role
  pub stop_is : l.stop ≡ stop
  pub facts : l.facts ≡ k.facts
  pub tokens : l.tokens.items ≡ k.tokens.items
  pub read_only : l.read_only ≡ k.read_only
  pub is_memory_full : l.is_memory_full ≡ k.is_memory_full

-- each query is refused, and nothing changes
abbrev pub TurnsAway : Keeper → List Query → Option (List Response) → Keeper → Type 0
TurnsAway k queries answered l = (answered ≡ Some (refusals NotAllowed queries)) × Becomes k k.role k.stop l

-- a hello: its secret grants a role, or it is refused
abbrev pub Greets : Keeper → List Query → ℕ → List ℕ → Option (List Response) → Keeper → Type 0
Greets k queries newest secret answered l =
    (found : Option Role) × Admits k.tokens.items (sha256 secret) found
    × MatchOption found (TurnsAway k queries answered l)
    (λ role. (answered ≡ Some (greeting k.facts newest role ∷ [])) × Becomes k (Some role) k.stop l)

-- queries of the index are left to what is inside; or each is refused, since one changes a row and rows can't be changed, or
-- since one grows and the memory is full
abbrev pub leaves : Option ServerRefusal → Bool → List Query → Option (List Response)
leaves None is_memory_full queries = within_memory is_memory_full queries
leaves (Some refusal) is_memory_full queries = Some (refusals refusal queries)

-- queries that the client may ask: one of the server is answered, others are left to what is inside
abbrev pub Allows : Keeper → List Query → Option ServerQuery → Option (List Response) → Keeper → Type 0
Allows k queries None answered l = (answered ≡ leaves (hindered k.read_only queries) k.is_memory_full queries) × Becomes k k.role k.stop l
Allows k queries (Some query) answered l =
    (response : Response) × IsTold k.facts query response × (answered ≡ Some (response ∷ []))
    × Becomes k k.role (stop_of query k.stop) l

abbrev pub Within : Keeper → List Query → Option ServerQuery → Option (List Response) → Keeper → Type 0
Within k queries query answered l =
    MatchOption k.role (TurnsAway k queries answered l) (λ role.
    MatchBool (may_all role queries) (Allows k queries query answered l) (TurnsAway k queries answered l))

abbrev pub KeepsAlone : Keeper → List Query → Option ServerQuery → Option (List Response) → Keeper → Type 0
KeepsAlone k queries (Some (Hello newest secret name)) answered l = Greets k queries newest secret answered l
KeepsAlone k queries (Some (Ping number)) answered l = Within k queries (Some (Ping number)) answered l
KeepsAlone k queries (Some Info) answered l = Within k queries (Some Info) answered l
KeepsAlone k queries (Some Views) answered l = Within k queries (Some Views) answered l
KeepsAlone k queries (Some (Wait of number milliseconds)) answered l =
    Within k queries (Some (Wait of number milliseconds)) answered l
KeepsAlone k queries (Some (Stop is_at_once)) answered l = Within k queries (Some (Stop is_at_once)) answered l
KeepsAlone k queries None answered l = Within k queries None answered l

-- A FRAME OF QUERIES COMES TO THE SERVER: it is answered so, or left to what is inside (None).
abbrev pub Keeps : Keeper → List Query → Option (List Response) → Keeper → Type 0
Keeps k queries answered l = KeepsAlone k queries (alone queries) answered l

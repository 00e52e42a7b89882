-- WHAT A CLIENT CAN REACH in a whole session: one that has no role, and one that may only read.
use Rattle.std.specs.Prelude.{◌≡◌, List, ◌++◌, map, Option, None, Some, IfSome, true}
use Rattle.std.specs.List.{AllByRecursion}
use Rattle.sha2.specs.Sha256.{sha256}
use Rattle.mt_wire.specs.declared.query.Query.{Query}
use Rattle.mt_wire.specs.declared.response.Response.{Response}
use Rattle.mt_wire.specs.declared.server.ServerQuery.{ServerQuery}
use Rattle.mt_wire.specs.declared.server.ServerQuery.TheVariants.{Hello}
use Rattle.mt_wire.specs.declared.server.Role.{Role}
use Rattle.mt_wire.specs.declared.server.Role.TheVariants.{Read}
use Rattle.mt_wire.specs.declared.server.ServerRefusal.TheVariants.{NotAllowed}
use Rattle.mt_wire.specs.declared.frame.Frame.{Frame}
use Rattle.mt_wire.specs.Spelling.{framed}
use Rattle.mt_talk.specs.declared.tokens.Token.{Token}
use Rattle.mt_talk.specs.declared.serving.Server.{Server}
use Rattle.mt_talk.specs.Tokens.{Admits}
use Rattle.mt_talk.specs.Serving.{alone, refusals, may_all}
use Rattle.mt_talk.specs.Frames.{ServesFrame, HasNoKey}
use Rattle.mt_talk.specs.Laws.{Talk, Step, came, went, asked, replies_of}
use Rattle.mt_talk.specs.Sessions.{FrameLaw, fresh, Serves, ServesAmong, HasNoFront}

-- ---- without a role

-- no hello with a right secret is among these frames
abbrev pub HaveNoKey : List Token → List (Frame Query) → Type 0
HaveNoKey tokens frames = AllByRecursion (λ (frame : Frame Query). HasNoKey tokens (alone frame.messages)) frames

-- each query is refused
abbrev pub refused_frame : Frame Query → Frame Response
refused_frame frame = framed frame.version (refusals NotAllowed frame.messages)

-- what went, and then what is to go, are the refusals of these frames, in order
abbrev pub SendsRefusals : List (Frame Query) → List Step → Talk → Type 0
SendsRefusals frames steps w = went steps ++ w.output ≡ replies_of (map refused_frame frames)

-- what is inside answers no frame
abbrev pub silent : {A S P : Type 0} → FrameLaw A S P
silent a s p frame reply b t q = ⊥

-- BEFORE A HELLO WITH A RIGHT SECRET what is inside, what is shared and the pass are as they were at the begin of the
-- session. What it has sent and is to send is a function of the frames that were answered.
abbrev pub ClosedSessionsAreBlind : {A S P : Type 0} → FrameLaw A S P → Type 0
ClosedSessionsAreBlind {A} {S} {P} answers =
    (a b : Server A) (s t : S) (p q : P) (w : Talk) (steps : List Step)
    → Serves (ServesFrame answers) fresh a s p steps w b t q
    → a.keeper.role ≡ None → HaveNoKey a.keeper.tokens.items (asked steps)
    → SendsRefusals (asked steps) steps w × (b.keeper.role ≡ None) × (b.keeper.tokens.items ≡ a.keeper.tokens.items)
    × (b.inner ≡ a.inner) × (t ≡ s) × (q ≡ p)

-- Among other sessions, this one is served as if what is inside answered no frame.
abbrev pub ClosedClientsAreBlind : {A S P : Type 0} → FrameLaw A S P → Type 0
ClosedClientsAreBlind {A} {S} {P} answers =
    (tokens : List Token) (after : Option Role) (w : Talk) (steps : List Step)
    → ServesAmong answers tokens fresh None steps w after → HaveNoKey tokens (asked steps)
    → SendsRefusals (asked steps) steps w × (after ≡ None) × ServesAmong (silent {A = A} {S = S} {P = P}) tokens fresh None steps w after

-- If the same bytes come to two such sessions, and all whole frames are answered, they send the same bytes, whatever is
-- inside their servers and whatever others do.
abbrev pub ClosedClientsAreOne : {A S P B T Q : Type 0} → FrameLaw A S P → FrameLaw B T Q → Type 0
ClosedClientsAreOne answers replies =
    (tokens secrets : List Token) (role after : Option Role) (v w : Talk) (steps others : List Step)
    → ServesAmong answers tokens fresh None steps v role → HaveNoKey tokens (asked steps)
    → ServesAmong replies secrets fresh None others w after → HaveNoKey secrets (asked others)
    → came steps ≡ came others → HasNoFront v.bytes → HasNoFront w.bytes
    → went steps ++ v.output ≡ went others ++ w.output

-- ---- a client that may read

-- if it is a hello, its secret grants no role but this
abbrev pub GrantsOnly : List Token → Role → Option ServerQuery → Type 0
GrantsOnly tokens only (Some (Hello newest secret name)) = (role : Role) → Admits tokens (sha256 secret) (Some role) → role ≡ only
GrantsOnly tokens only query = Unit {0}

abbrev pub GrantOnly : List Token → Role → List (Frame Query) → Type 0
GrantOnly tokens only frames = AllByRecursion (λ (frame : Frame Query). GrantsOnly tokens only (alone frame.messages)) frames

-- it has no role, or this one
abbrev pub HasOnly : Role → Option Role → Type 0
HasOnly only role = IfSome role (λ (granted : Role). granted ≡ only)

-- what is inside answers a frame only if it has gets, ranges, reads of one moment and pages alone
abbrev pub reading : {A S P : Type 0} → FrameLaw A S P → FrameLaw A S P
reading answers a s p frame reply b t q = (may_all Read frame.messages ≡ true) × answers a s p frame reply b t q

-- A CLIENT THAT HAS NO OTHER ROLE THAN `read` is served as if what is inside answered only such frames.
abbrev pub ReadingSessionsRead : {A S P : Type 0} → FrameLaw A S P → Type 0
ReadingSessionsRead {A} {S} {P} answers =
    (a b : Server A) (s t : S) (p q : P) (v w : Talk) (steps : List Step)
    → Serves (ServesFrame answers) v a s p steps w b t q
    → HasOnly Read a.keeper.role → GrantOnly a.keeper.tokens.items Read (asked steps)
    → HasOnly Read b.keeper.role × Serves (ServesFrame (reading answers)) v a s p steps w b t q

abbrev pub ReadingClientsRead : {A S P : Type 0} → FrameLaw A S P → Type 0
ReadingClientsRead answers =
    (tokens : List Token) (role after : Option Role) (v w : Talk) (steps : List Step)
    → ServesAmong answers tokens v role steps w after
    → HasOnly Read role → GrantOnly tokens Read (asked steps)
    → HasOnly Read after × ServesAmong (reading answers) tokens v role steps w after

-- A FRAME COMES TO A SERVER, around what answers the queries of its index.
use Rattle.std.specs.Prelude.{◌≡◌, ◌⊎◌, List, Option, Some, None, MatchOption, true, false}
use Rattle.sha2.specs.Sha256.{sha256}
use Rattle.mt_wire.specs.declared.query.Query.{Query}
use Rattle.mt_wire.specs.declared.response.Response.{Response}
use Rattle.mt_wire.specs.declared.server.ServerQuery.{ServerQuery}
use Rattle.mt_wire.specs.declared.server.ServerQuery.TheVariants.{Hello}
use Rattle.mt_wire.specs.declared.server.Role.{Role}
use Rattle.mt_wire.specs.declared.server.Role.TheVariants.{Read}
use Rattle.mt_wire.specs.declared.server.ServerRefusal.{ServerRefusal}
use Rattle.mt_wire.specs.declared.server.ServerRefusal.TheVariants.{NotAllowed}
use Rattle.mt_wire.specs.declared.frame.Frame.{Frame}
use Rattle.mt_wire.specs.Spelling.{framed}
use Rattle.mt_talk.specs.declared.tokens.Token.{Token}
use Rattle.mt_talk.specs.declared.server.Keeper.{Keeper}
use Rattle.mt_talk.specs.declared.serving.Server.{Server}
use Rattle.mt_talk.specs.Tokens.{Admits}
use Rattle.mt_talk.specs.Growing.{any_grows}
use Rattle.mt_talk.specs.Serving.{alone, refusals, may_all, changes_rows, Keeps}

-- what is inside answers it; or the server does, and neither what is inside nor what is shared is reached
abbrev pub ServesFrame : {A S P : Type 0} → (A → S → P → Frame Query → Frame Response → A → S → P → Type 0) → Server A → S → P → Frame Query
    → Frame Response → Server A → S → P → Type 0
ServesFrame answers a s p frame reply b t q =
    (answered : Option (List Response)) × Keeps a.keeper frame.messages answered b.keeper
    × MatchOption answered (answers a.inner s p frame reply b.inner t q)
    (λ responses. (reply ≡ framed frame.version responses) × (b.inner ≡ a.inner) × (t ≡ s) × (q ≡ p))

-- memory ran out: nothing that is shared was reached, unless the frame is left to what is inside
abbrev pub StopsFrame : {A S P : Type 0} → (A → S → P → Frame Query → S → P → Type 0) → Server A → S → P → Frame Query → S → P → Type 0
StopsFrame gives_up a s p frame t q =
    ((t ≡ s) × (q ≡ p)) ⊎ ((l : Keeper) × Keeps a.keeper frame.messages None l × gives_up a.inner s p frame t q)

-- ---- what follows

-- it is no hello with a right secret
abbrev pub HasNoKey : List Token → Option ServerQuery → Type 0
HasNoKey tokens (Some (Hello newest secret name)) = (role : Role) → ¬ Admits tokens (sha256 secret) (Some role)
HasNoKey tokens query = Unit {0}

-- BEFORE A HELLO WITH A RIGHT SECRET nothing is reached, and what is answered is a function of the frame alone.
abbrev pub ClosedIsBlind : {A S P : Type 0} → (A → S → P → Frame Query → Frame Response → A → S → P → Type 0) → Type 0
ClosedIsBlind {A} {S} {P} answers =
    (a b : Server A) (s t : S) (p q : P) (frame : Frame Query) (reply : Frame Response)
    → a.keeper.role ≡ None → HasNoKey a.keeper.tokens.items (alone frame.messages)
    → ServesFrame answers a s p frame reply b t q
    → (reply ≡ framed frame.version (refusals NotAllowed frame.messages)) × (b.keeper.role ≡ None)
    × (b.keeper.tokens.items ≡ a.keeper.tokens.items) × (b.inner ≡ a.inner) × (t ≡ s) × (q ≡ p)

-- A CLIENT THAT MAY READ reaches what is inside by gets, ranges, reads of one moment and pages alone.
abbrev pub ReadersRead : {A S P : Type 0} → (A → S → P → Frame Query → Frame Response → A → S → P → Type 0) → Type 0
ReadersRead {A} {S} {P} answers =
    (a b : Server A) (s t : S) (p q : P) (frame : Frame Query) (reply : Frame Response)
    → a.keeper.role ≡ Some Read → ServesFrame answers a s p frame reply b t q
    → ((may_all Read frame.messages ≡ true) × answers a.inner s p frame reply b.inner t q)
    ⊎ ((b.inner ≡ a.inner) × (t ≡ s) × (q ≡ p))

-- WHILE ROWS CAN'T BE CHANGED, a frame reaches what is inside only if none of its queries changes a row.
abbrev pub HinderedKeepRows : {A S P : Type 0} → (A → S → P → Frame Query → Frame Response → A → S → P → Type 0) → Type 0
HinderedKeepRows {A} {S} {P} answers =
    (a b : Server A) (s t : S) (p q : P) (frame : Frame Query) (reply : Frame Response) (refusal : ServerRefusal)
    → a.keeper.read_only ≡ Some refusal → ServesFrame answers a s p frame reply b t q
    → ((changes_rows frame.messages ≡ false) × answers a.inner s p frame reply b.inner t q)
    ⊎ ((b.inner ≡ a.inner) × (t ≡ s) × (q ≡ p))

-- WHILE THE MEMORY IS FULL, a frame reaches what is inside only if none of its queries is a put or a build.
abbrev pub FullGrowNothing : {A S P : Type 0} → (A → S → P → Frame Query → Frame Response → A → S → P → Type 0) → Type 0
FullGrowNothing {A} {S} {P} answers =
    (a b : Server A) (s t : S) (p q : P) (frame : Frame Query) (reply : Frame Response)
    → a.keeper.is_memory_full ≡ true → ServesFrame answers a s p frame reply b t q
    → ((any_grows frame.messages ≡ false) × answers a.inner s p frame reply b.inner t q)
    ⊎ ((b.inner ≡ a.inner) × (t ≡ s) × (q ≡ p))

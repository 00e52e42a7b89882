-- A WHOLE SESSION OF A SERVER: any list of its calls, alone or among other sessions.
use Rattle.std.specs.Prelude.{◌≡◌, ◌⊎◌, ℕ, List, [], ◌∷◌, ◌++◌, Option, Some}
use Rattle.mt_types.specs.declared.limits.TheConstants.{MAX_REQUEST_BODY}
use Rattle.mt_wire.specs.declared.query.Query.{Query}
use Rattle.mt_wire.specs.declared.response.Response.{Response}
use Rattle.mt_wire.specs.declared.server.ServerQuery.{ServerQuery}
use Rattle.mt_wire.specs.declared.server.ServerQuery.TheVariants.{Hello}
use Rattle.mt_wire.specs.declared.server.Role.{Role}
use Rattle.mt_wire.specs.declared.frame.Frame.{Frame}
use Rattle.mt_wire.specs.declared.fault.WireFault.{WireFault}
use Rattle.mt_wire.specs.Frames.{IsBegun, FaultStands}
use Rattle.mt_talk.specs.declared.tokens.Token.{Token}
use Rattle.mt_talk.specs.declared.serving.Server.{Server}
use Rattle.mt_talk.specs.Turns.{HasFront}
use Rattle.mt_talk.specs.Tokens.{first_role}
use Rattle.mt_talk.specs.Serving.{alone}
use Rattle.mt_talk.specs.Frames.{ServesFrame}
use Rattle.mt_talk.specs.Laws.{Talk, Step, Came, Took, Went, Goes, Lead, came, went, asked}

-- what a frame does to what answers it, to what is shared and to the pass, with this reply
abbrev pub FrameLaw : Type 0 → Type 0 → Type 0 → Type 1
FrameLaw A S P = A → S → P → Frame Query → Frame Response → A → S → P → Type 0

-- nothing came, and nothing is to go
abbrev pub fresh : Talk
fresh = record { bytes = []; output = [] }

-- ---- alone

-- what a call reaches besides its session: a frame is answered so; bytes that come or go reach nothing
abbrev pub Reaches : {A S P : Type 0} → FrameLaw A S P → A → S → P → Step → A → S → P → Type 0
Reaches answers a s p (Took frame reply) b t q = answers a s p frame reply b t q
Reaches answers a s p (Came piece) b t q = (b ≡ a) × (t ≡ s) × (q ≡ p)
Reaches answers a s p (Went bytes) b t q = (b ≡ a) × (t ≡ s) × (q ≡ p)

-- A SESSION ALONE: these calls of it are made, one after the other, and nothing else is done.
abbrev pub Serves : {A S P : Type 0} → FrameLaw A S P → Talk → A → S → P → List Step → Talk → A → S → P → Type 0
Serves answers v a s p [] w b t q = (w ≡ v) × (b ≡ a) × (t ≡ s) × (q ≡ p)
Serves {A} {S} {P} answers v a s p (step ∷ steps) w b t q =
    (m : Talk) × (c : A) × (u : S) × (r : P) × Goes v step m × Reaches answers a s p step c u r
    × Serves answers m c u r steps w b t q

-- ---- among others

-- the role in which a frame of a client is answered: the one that it has; a hello may decide it again
abbrev pub IsRoleFor : List Token → Option Role → Option ServerQuery → Option Role → Type 0
IsRoleFor tokens role (Some (Hello newest secret name)) now = (now ≡ role) ⊎ (now ≡ first_role tokens)
IsRoleFor tokens role query now = now ≡ role

-- A frame is answered by a server with these tokens, in the role of its client, and leaves the client this role. What is
-- inside, what is shared, the pass and what else the server keeps are as others have left them.
pub record ServesOne {A S P : Type 0} (answers : FrameLaw A S P) (tokens : List Token) (role : Option Role) (frame : Frame Query)
    (reply : Frame Response) (after : Option Role) : Type 0 where
  pub server : Server A
  pub shared : S
  pub pass : P
  pub server_then : Server A
  pub shared_then : S
  pub pass_then : P
  pub tokens_are : server.keeper.tokens.items ≡ tokens
  pub role_is : IsRoleFor tokens role (alone frame.messages) server.keeper.role
  pub served : ServesFrame answers server shared pass frame reply server_then shared_then pass_then
  pub role_then : server_then.keeper.role ≡ after

abbrev pub ReachesOne : {A S P : Type 0} → FrameLaw A S P → List Token → Option Role → Step → Option Role → Type 0
ReachesOne answers tokens role (Took frame reply) after = ServesOne answers tokens role frame reply after
ReachesOne answers tokens role (Came piece) after = after ≡ role
ReachesOne answers tokens role (Went bytes) after = after ≡ role

-- A SESSION AMONG OTHERS: these calls of it are made, and others are served between them. Its client keeps its role, and the
-- server its tokens.
abbrev pub ServesAmong : {A S P : Type 0} → FrameLaw A S P → List Token → Talk → Option Role → List Step → Talk → Option Role → Type 0
ServesAmong answers tokens v role [] w after = (w ≡ v) × (after ≡ role)
ServesAmong answers tokens v role (step ∷ steps) w after =
    (m : Talk) × (then : Option Role) × Goes v step m × ReachesOne answers tokens role step then
    × ServesAmong answers tokens m then steps w after

-- a session alone is one among others that do nothing
abbrev pub AloneIsAmong : {A S P : Type 0} → FrameLaw A S P → Type 0
AloneIsAmong {A} {S} {P} answers =
    (a b : Server A) (s t : S) (p q : P) (v w : Talk) (steps : List Step)
    → Serves (ServesFrame answers) v a s p steps w b t q
    → ServesAmong answers a.keeper.tokens.items v a.keeper.role steps w b.keeper.role

-- ---- which frames are answered

-- no whole frame is at the front
abbrev pub HasNoFront : List ℕ → Type 0
HasNoFront bytes = (frame : Frame Query) → ¬ HasFront frame bytes

-- if a frame has only begun, or a fault is there
abbrev pub UnfinishedHasNoFront : Type 0
UnfinishedHasNoFront =
    (bytes : List ℕ) → (IsBegun MAX_REQUEST_BODY bytes → HasNoFront bytes)
    × ((fault : WireFault) → FaultStands fault bytes → HasNoFront bytes)

-- If the same bytes came to two sessions, and neither has a whole frame left, they have answered the same frames, and have
-- the same bytes left.
abbrev pub SameBytesSameFrames : Type 0
SameBytesSameFrames =
    (v w : Talk) (steps others : List Step) → Lead fresh steps v → Lead fresh others w
    → came steps ≡ came others → HasNoFront v.bytes → HasNoFront w.bytes
    → (asked steps ≡ asked others) × (v.bytes ≡ w.bytes)

-- AT A FAULT nothing more is answered, whatever bytes come: what was to go goes, and the fault stays.
abbrev pub FaultsEndTalks : Type 0
FaultsEndTalks =
    (v w : Talk) (steps : List Step) (fault : WireFault) → FaultStands fault v.bytes → Lead v steps w
    → (asked steps ≡ []) × (v.output ≡ went steps ++ w.output) × FaultStands fault w.bytes

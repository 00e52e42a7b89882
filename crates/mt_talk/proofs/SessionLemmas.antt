-- Whole sessions: which frames are answered, and what a session alone is among others.
use Rattle.std.proofs.Common.{◌≡◌, ℕ, List, [], ◌∷◌, ◌++◌, Option, Some, None, Bool, true, false, refl, sym, ap, subst, ◌∙◌, inl, append_assoc}
use Rattle.std.specs.Prelude.{MatchOption, MatchBool}
use Rattle.std.specs.List.{AllByRecursion}
use Rattle.mt_types.specs.declared.limits.TheConstants.{MAX_REQUEST_BODY}
use Rattle.mt_wire.specs.declared.query.Query.{Query}
use Rattle.mt_wire.specs.declared.response.Response.{Response}
use Rattle.mt_wire.specs.declared.server.Role.{Role}
use Rattle.mt_wire.specs.declared.server.ServerQuery.{ServerQuery}
use Rattle.mt_wire.specs.declared.server.ServerQuery.TheVariants.{Hello, Ping, Info, Views, Wait, Stop}
use Rattle.mt_wire.specs.declared.frame.Frame.{Frame}
use Rattle.mt_wire.specs.Frames.{RequestsFit, request_frame, IsBegun, FaultStands}
use Rattle.mt_wire.proofs.ReadingLaws.{request_frames_read_one_way, frame_stands_alone, fault_stays}
use Rattle.mt_talk.specs.declared.tokens.Token.{Token}
use Rattle.mt_talk.specs.declared.server.Keeper.{Keeper}
use Rattle.mt_talk.specs.declared.serving.Server.{Server}
use Rattle.mt_talk.specs.Serving.{alone, may_all, TurnsAway, Greets, Allows, KeepsAlone}
use Rattle.mt_talk.specs.Frames.{ServesFrame}
use Rattle.mt_talk.specs.Laws.{Talk, Step, Came, Took, Went, Lead, asked, went, requests_of}
use Rattle.mt_talk.specs.Sessions.{FrameLaw, IsRoleFor, ServesOne, ServesAmong, AloneIsAmong, HasNoFront, UnfinishedHasNoFront, SameBytesSameFrames, FaultsEndTalks}
use Rattle.mt_talk.proofs.TalkLemmas.{talks_are_streams}

-- ---- only the role and the stop of a server may change
abbrev Stays : Keeper → Keeper → Type 0
Stays k l = l.tokens.items ≡ k.tokens.items

stays_may : (may : Bool) (k l : Keeper) (queries : List Query) (query : Option ServerQuery) (answered : Option (List Response)) → MatchBool may (Allows k queries query answered l) (TurnsAway k queries answered l) → Stays k l
stays_may true k l queries None answered allows = allows.1.tokens
stays_may true k l queries (Some query) answered (response, told, is, becomes) = becomes.tokens
stays_may false k l queries query answered turned = turned.1.tokens

stays_role : (role : Option Role) (k l : Keeper) (queries : List Query) (query : Option ServerQuery) (answered : Option (List Response))
    → MatchOption role (TurnsAway k queries answered l) (λ role. MatchBool (may_all role queries) (Allows k queries query answered l) (TurnsAway k queries answered l)) → Stays k l
stays_role None k l queries query answered turned = turned.1.tokens
stays_role (Some role) k l queries query answered within = stays_may (may_all role queries) k l queries query answered within

stays_greeted : (k l : Keeper) (queries : List Query) (newest : ℕ) (secret : List ℕ) (answered : Option (List Response)) → Greets k queries newest secret answered l → Stays k l
stays_greeted k l queries newest secret answered (Some role, admits, greeted) = greeted.1.tokens
stays_greeted k l queries newest secret answered (None, admits, turned) = turned.1.tokens

pub stays_alone : (k l : Keeper) (queries : List Query) (query : Option ServerQuery) (answered : Option (List Response)) → KeepsAlone k queries query answered l → Stays k l
stays_alone k l queries (Some (Hello newest secret name)) answered keeps = stays_greeted k l queries newest secret answered keeps
stays_alone k l queries (Some (Ping number)) answered keeps = stays_role k.role k l queries (Some (Ping number)) answered keeps
stays_alone k l queries (Some Info) answered keeps = stays_role k.role k l queries (Some Info) answered keeps
stays_alone k l queries (Some Views) answered keeps = stays_role k.role k l queries (Some Views) answered keeps
stays_alone k l queries (Some (Wait of number milliseconds)) answered keeps = stays_role k.role k l queries (Some (Wait of number milliseconds)) answered keeps
stays_alone k l queries (Some (Stop is_at_once)) answered keeps = stays_role k.role k l queries (Some (Stop is_at_once)) answered keeps
stays_alone k l queries None answered keeps = stays_role k.role k l queries None answered keeps

-- ---- a session alone is one among others
role_for : (tokens : List Token) (role : Option Role) (query : Option ServerQuery) → IsRoleFor tokens role query role
role_for tokens role (Some (Hello newest secret name)) = inl refl
role_for tokens role (Some (Ping number)) = refl
role_for tokens role (Some Info) = refl
role_for tokens role (Some Views) = refl
role_for tokens role (Some (Wait of number milliseconds)) = refl
role_for tokens role (Some (Stop is_at_once)) = refl
role_for tokens role None = refl

alone_one : {A S P : Type 0} (answers : FrameLaw A S P) (a b : Server A) (s t : S) (p q : P) (frame : Frame Query) (reply : Frame Response) → ServesFrame answers a s p frame reply b t q
    → ServesOne answers a.keeper.tokens.items a.keeper.role frame reply b.keeper.role
alone_one answers a b s t p q frame reply serves = record {
  server = a;
  shared = s;
  pass = p;
  server_then = b;
  shared_then = t;
  pass_then = q;
  tokens_are = refl;
  role_is = role_for a.keeper.tokens.items a.keeper.role (alone frame.messages);
  served = serves;
  role_then = refl;
}

abbrev Rest : {A S P : Type 0} → FrameLaw A S P → Server A → Talk → List Step → Talk → Server A → Type 0
Rest answers c m steps w b = ServesAmong answers c.keeper.tokens.items m c.keeper.role steps w b.keeper.role

pub alone_is_among : {A S P : Type 0} (answers : FrameLaw A S P) → AloneIsAmong answers
alone_is_among answers a b s t p q v w [] (same, server, shared, pass) = (same, ap (λ (x : Server _). x.keeper.role) server)
alone_is_among answers a b s t p q v w (Came piece ∷ steps) (m, c, u, r, goes, (server, shared, pass), more) =
    (m, a.keeper.role, goes, refl, subst (λ (x : Server _). Rest answers x m steps w b) server (alone_is_among answers c b u t r q m w steps more))
alone_is_among answers a b s t p q v w (Went bytes ∷ steps) (m, c, u, r, goes, (server, shared, pass), more) =
    (m, a.keeper.role, goes, refl, subst (λ (x : Server _). Rest answers x m steps w b) server (alone_is_among answers c b u t r q m w steps more))
alone_is_among answers a b s t p q v w (Took frame reply ∷ steps) (m, c, u, r, goes, serves, more) = (
  m,
  c.keeper.role,
  goes,
  alone_one answers a c s u p r frame reply serves,
  subst (λ (tokens : List Token). ServesAmong answers tokens m c.keeper.role steps w b.keeper.role)
      (stays_alone a.keeper c.keeper frame.messages (alone frame.messages) serves.0 serves.1)
      (alone_is_among answers c b u t r q m w steps more),
)

-- ---- the calls of a session
pub among_leads : {A S P : Type 0} (answers : FrameLaw A S P) (tokens : List Token) (role after : Option Role) (v w : Talk) (steps : List Step) → ServesAmong answers tokens v role steps w after → Lead v steps w
among_leads answers tokens role after v w [] (same, is) = same
among_leads answers tokens role after v w (step ∷ steps) (m, then, goes, reaches, more) =
    (m, goes, among_leads answers tokens then after m w steps more)

-- ---- which frames are answered
pub unfinished_has_no_front : UnfinishedHasNoFront
unfinished_has_no_front bytes = (
  λ begun frame front. (frame_stands_alone frame front.1.0 front.0).0 (subst (IsBegun MAX_REQUEST_BODY) front.1.1 begun),
  λ fault stands frame front. (frame_stands_alone frame front.1.0 front.0).1 fault (subst (FaultStands fault) front.1.1 stands),
)

one_way : (xs ys : List (Frame Query)) (a b : List ℕ) → AllByRecursion RequestsFit xs → AllByRecursion RequestsFit ys → requests_of xs ++ a ≡ requests_of ys ++ b
    → HasNoFront a → HasNoFront b → (xs ≡ ys) × (a ≡ b)
one_way [] [] a b fx fy e none other = (refl, e)
one_way [] (y ∷ ys) a b fx fy e none other =
    absurd (none y (fy.0, (requests_of ys ++ b, e ∙ append_assoc (request_frame y) (requests_of ys) b)))
one_way (x ∷ xs) [] a b fx fy e none other =
    absurd (other x (fx.0, (requests_of xs ++ a, sym e ∙ append_assoc (request_frame x) (requests_of xs) a)))
one_way (x ∷ xs) (y ∷ ys) a b fx fy e none other =
    let first = request_frames_read_one_way x y (requests_of xs ++ a) (requests_of ys ++ b) fx.0 fy.0
    (sym (append_assoc (request_frame x) (requests_of xs) a) ∙ e ∙ append_assoc (request_frame y) (requests_of ys) b) in
    let rest = one_way xs ys a b fx.1 fy.1 first.1 none other in
    (ap (λ (z : Frame Query). z ∷ xs) first.0 ∙ ap (λ (zs : List (Frame Query)). y ∷ zs) rest.0, rest.1)

pub same_bytes_same_frames : SameBytesSameFrames
same_bytes_same_frames v w steps others one two same none other =
    let a = talks_are_streams v steps one in
    let b = talks_are_streams w others two in
    one_way (asked steps) (asked others) v.bytes w.bytes a.2 b.2 (sym a.0 ∙ same ∙ b.0) none other

-- ---- after a fault
pub faults_end_talks : FaultsEndTalks
faults_end_talks v w [] fault stands same =
    (refl, sym (ap (λ (x : Talk). x.output) same), subst (λ (x : Talk). FaultStands fault x.bytes) (sym same) stands)
faults_end_talks v w (Came piece ∷ steps) fault stands (m, goes, more) =
    let then = faults_end_talks m w steps fault (subst (FaultStands fault) (sym goes.0) (fault_stays fault v.bytes piece stands)) more in
    (then.0, sym goes.1 ∙ then.1, then.2)
faults_end_talks v w (Took frame reply ∷ steps) fault stands (m, goes, more) =
    absurd ((frame_stands_alone frame m.bytes goes.0).1 fault (subst (FaultStands fault) goes.1 stands))
faults_end_talks v w (Went bytes ∷ steps) fault stands (m, goes, more) =
    let then = faults_end_talks m w steps fault (subst (FaultStands fault) (sym goes.1) stands) more in
    (then.0, goes.0 ∙ ap (λ (rest : List ℕ). bytes ++ rest) then.1 ∙ sym (append_assoc bytes (went steps) w.output), then.2)

-- ---- what is said of each frame that is left to what is inside
pub frame_as : {A S P : Type 0} (f g : FrameLaw A S P) → ((a : A) (s : S) (p : P) (frame : Frame Query) (reply : Frame Response) (b : A) (t : S) (q : P) → f a s p frame reply b t q → g a s p frame reply b t q)
    → (a b : Server A) (s t : S) (p q : P) (frame : Frame Query) (reply : Frame Response) → ServesFrame f a s p frame reply b t q → ServesFrame g a s p frame reply b t q
frame_as f g on a b s t p q frame reply (None, keeps, then) = (None, keeps, on a.inner s p frame reply b.inner t q then)
frame_as f g on a b s t p q frame reply (Some responses, keeps, then) = (Some responses, keeps, then)

one_as : {A S P : Type 0} (f g : FrameLaw A S P) → ((a : A) (s : S) (p : P) (frame : Frame Query) (reply : Frame Response) (b : A) (t : S) (q : P) → f a s p frame reply b t q → g a s p frame reply b t q)
    → (tokens : List Token) (role after : Option Role) (frame : Frame Query) (reply : Frame Response) → ServesOne f tokens role frame reply after → ServesOne g tokens role frame reply after
one_as f g on tokens role after frame reply one = record {
  server = one.server;
  shared = one.shared;
  pass = one.pass;
  server_then = one.server_then;
  shared_then = one.shared_then;
  pass_then = one.pass_then;
  tokens_are = one.tokens_are;
  role_is = one.role_is;
  served = frame_as f g on one.server one.server_then one.shared one.shared_then one.pass one.pass_then frame reply one.served;
  role_then = one.role_then;
}

pub among_as : {A S P : Type 0} (f g : FrameLaw A S P) → ((a : A) (s : S) (p : P) (frame : Frame Query) (reply : Frame Response) (b : A) (t : S) (q : P) → f a s p frame reply b t q → g a s p frame reply b t q)
    → (tokens : List Token) (role after : Option Role) (v w : Talk) (steps : List Step) → ServesAmong f tokens v role steps w after → ServesAmong g tokens v role steps w after
among_as f g on tokens role after v w [] same = same
among_as f g on tokens role after v w (Came piece ∷ steps) (m, then, goes, is, more) =
    (m, then, goes, is, among_as f g on tokens then after m w steps more)
among_as f g on tokens role after v w (Went bytes ∷ steps) (m, then, goes, is, more) =
    (m, then, goes, is, among_as f g on tokens then after m w steps more)
among_as f g on tokens role after v w (Took frame reply ∷ steps) (m, then, goes, one, more) =
    (m, then, goes, one_as f g on tokens role then frame reply one, among_as f g on tokens then after m w steps more)

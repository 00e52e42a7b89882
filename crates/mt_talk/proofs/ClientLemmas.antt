-- What a client without a role reaches in a whole session, and one that may only read.
use Rattle.std.proofs.Common.{◌≡◌, ℕ, List, [], ◌∷◌, map, Option, Some, None, Bool, true, false, refl, sym, ap, subst, ◌∙◌, inl, inr}
use Rattle.std.specs.Prelude.{MatchOption, MatchBool}
use Rattle.mt_wire.specs.declared.query.Query.{Query}
use Rattle.mt_wire.specs.declared.response.Response.{Response}
use Rattle.mt_wire.specs.declared.server.Role.{Role}
use Rattle.mt_wire.specs.declared.server.Role.TheVariants.{Read}
use Rattle.mt_wire.specs.declared.server.ServerQuery.{ServerQuery}
use Rattle.mt_wire.specs.declared.server.ServerQuery.TheVariants.{Hello, Ping, Info, Views, Wait, Stop}
use Rattle.mt_wire.specs.declared.frame.Frame.{Frame}
use Rattle.mt_wire.specs.Spelling.{framed}
use Rattle.mt_talk.specs.declared.tokens.Token.{Token}
use Rattle.mt_talk.specs.declared.server.Keeper.{Keeper}
use Rattle.mt_talk.specs.declared.serving.Server.{Server}
use Rattle.mt_talk.specs.Tokens.{Admits, first_role}
use Rattle.mt_talk.specs.Serving.{alone, may_all, TurnsAway, Greets, Allows, KeepsAlone}
use Rattle.mt_talk.specs.Frames.{ServesFrame, HasNoKey}
use Rattle.mt_talk.specs.Laws.{Talk, Step, Came, Took, Went, asked, told, replies_of}
use Rattle.mt_talk.specs.Sessions.{FrameLaw, fresh, Serves, IsRoleFor, ServesOne, ServesAmong}
use Rattle.mt_talk.specs.Clients.{HaveNoKey, refused_frame, silent, ClosedSessionsAreBlind, ClosedClientsAreBlind, ClosedClientsAreOne, GrantsOnly, GrantOnly, HasOnly, reading, ReadingSessionsRead, ReadingClientsRead}
use Rattle.mt_talk.proofs.ServingLemmas.{closed_alone, closed_is_blind, Lets, lets_turned, lets_some, lets_by}
use Rattle.mt_talk.proofs.SessionLemmas.{stays_alone, alone_is_among, among_leads, same_bytes_same_frames}
use Rattle.mt_talk.proofs.TalkLemmas.{output}

-- ---- without a role
silent_by : {A S P : Type 0} (answers : FrameLaw A S P) (a b : Server A) (s t : S) (p q : P) (frame : Frame Query) (reply : Frame Response) (answered : Option (List Response)) → TurnsAway a.keeper frame.messages answered b.keeper
    → KeepsAlone a.keeper frame.messages (alone frame.messages) answered b.keeper
    → MatchOption answered (answers a.inner s p frame reply b.inner t q) (λ responses. (reply ≡ framed frame.version responses) × (b.inner ≡ a.inner) × (t ≡ s) × (q ≡ p))
    → ServesFrame (silent {A = A} {S = S} {P = P}) a s p frame reply b t q
silent_by answers a b s t p q frame reply None turned keeps then = let never = turned.0 in absurd (cc)
silent_by answers a b s t p q frame reply (Some responses) turned keeps then = (Some responses, keeps, then)

silent_frame : {A S P : Type 0} (answers : FrameLaw A S P) (a b : Server A) (s t : S) (p q : P) (frame : Frame Query) (reply : Frame Response) → a.keeper.role ≡ None → HasNoKey a.keeper.tokens.items (alone frame.messages)
    → ServesFrame answers a s p frame reply b t q → ServesFrame (silent {A = A} {S = S} {P = P}) a s p frame reply b t q
silent_frame answers a b s t p q frame reply none key (answered, keeps, then) =
    silent_by answers a b s t p q frame reply answered
    (closed_alone a.keeper b.keeper frame.messages (alone frame.messages) answered none key keeps) keeps then

-- a hello is answered in no role, since there are tokens if its secret is wrong
no_first : (tokens : List Token) (secret : List ℕ) → ((role : Role) → ¬ Admits tokens secret (Some role)) → first_role tokens ≡ None
no_first [] secret none = absurd (none _ refl)
no_first (token ∷ tokens) secret none = refl

closed_role : (tokens : List Token) (query : Option ServerQuery) (now : Option Role) → HasNoKey tokens query → IsRoleFor tokens None query now → now ≡ None
closed_role tokens (Some (Hello newest secret name)) now key (inl same) = same
closed_role tokens (Some (Hello newest secret name)) now key (inr first) = first ∙ no_first tokens _ key
closed_role tokens (Some (Ping number)) now key same = same
closed_role tokens (Some Info) now key same = same
closed_role tokens (Some Views) now key same = same
closed_role tokens (Some (Wait of number milliseconds)) now key same = same
closed_role tokens (Some (Stop is_at_once)) now key same = same
closed_role tokens None now key same = same

record Closed (A S P : Type 0) (tokens : List Token) (frame : Frame Query) (reply : Frame Response) (after : Option Role) : Type 0 where
  one : ServesOne (silent {A = A} {S = S} {P = P}) tokens None frame reply after
  role : after ≡ None
  reply_is : reply ≡ refused_frame frame

closed_one : {A S P : Type 0} (answers : FrameLaw A S P) (tokens : List Token) (frame : Frame Query) (reply : Frame Response) (after : Option Role) → HasNoKey tokens (alone frame.messages) → ServesOne answers tokens None frame reply after
    → Closed A S P tokens frame reply after
closed_one answers tokens frame reply after key one =
    let none = closed_role tokens (alone frame.messages) one.server.keeper.role key one.role_is in
    let own = subst (λ (l : List Token). HasNoKey l (alone frame.messages)) (sym one.tokens_are) key in
    let blind = closed_is_blind answers one.server one.server_then one.shared one.shared_then one.pass one.pass_then frame reply none own one.served in
    record {
      one = record {
        server = one.server;
        shared = one.shared;
        pass = one.pass;
        server_then = one.server_then;
        shared_then = one.shared_then;
        pass_then = one.pass_then;
        tokens_are = one.tokens_are;
        role_is = one.role_is;
        served = silent_frame answers one.server one.server_then one.shared one.shared_then one.pass one.pass_then frame reply none own one.served;
        role_then = one.role_then;
      };
      role = sym one.role_then ∙ blind.1;
      reply_is = blind.0;
    }

record ClosedRest (A S P : Type 0) (tokens : List Token) (v : Talk) (steps : List Step) (w : Talk) (after : Option Role) : Type 0 where
  refused : told steps ≡ map refused_frame (asked steps)
  role : after ≡ None
  rest : ServesAmong (silent {A = A} {S = S} {P = P}) tokens v None steps w after

closed_rest : {A S P : Type 0} (answers : FrameLaw A S P) (tokens : List Token) (role after : Option Role) (v w : Talk) (steps : List Step) → role ≡ None → ServesAmong answers tokens v role steps w after → HaveNoKey tokens (asked steps)
    → ClosedRest A S P tokens v steps w after
closed_rest answers tokens role after v w [] none (same, is) keys = record { refused = refl; role = is ∙ none; rest = (same, is ∙ none) }
closed_rest answers tokens role after v w (Came piece ∷ steps) none (m, then, goes, is, more) keys =
    let rest = closed_rest answers tokens then after m w steps (is ∙ none) more keys in
    record { refused = rest.refused; role = rest.role; rest = (m, None, goes, refl, rest.rest) }
closed_rest answers tokens role after v w (Went bytes ∷ steps) none (m, then, goes, is, more) keys =
    let rest = closed_rest answers tokens then after m w steps (is ∙ none) more keys in
    record { refused = rest.refused; role = rest.role; rest = (m, None, goes, refl, rest.rest) }
closed_rest {A} {S} {P} answers tokens role after v w (Took frame reply ∷ steps) none (m, then, goes, one, more) (key, keys) =
    let first = closed_one answers tokens frame reply then key (subst (λ (x : Option Role). ServesOne answers tokens x frame reply then) none one) in
    let rest = closed_rest answers tokens then after m w steps first.role more keys in
    record {
      refused = ap (λ (x : Frame Response). x ∷ told steps) first.reply_is ∙ ap (λ (xs : List (Frame Response)). refused_frame frame ∷ xs) rest.refused;
      role = rest.role;
      rest = (
        m,
        None,
        goes,
        subst (λ (x : Option Role). ServesOne (silent {A = A} {S = S} {P = P}) tokens None frame reply x) first.role first.one,
        rest.rest,
      );
    }

pub closed_clients_are_blind : {A S P : Type 0} (answers : FrameLaw A S P) → ClosedClientsAreBlind answers
closed_clients_are_blind answers tokens after w steps serves keys =
    let closed = closed_rest answers tokens None after fresh w steps refl serves keys in (
      sym (output fresh w steps (among_leads answers tokens None after fresh w steps serves)) ∙ ap replies_of closed.refused,
      closed.role,
      closed.rest,
    )

pub closed_clients_are_one : {A S P B T Q : Type 0} (answers : FrameLaw A S P) (replies : FrameLaw B T Q) → ClosedClientsAreOne answers replies
closed_clients_are_one answers replies tokens secrets role after v w steps others one keys two more same none other =
    let a = closed_clients_are_blind answers tokens role v steps one keys in
    let b = closed_clients_are_blind replies secrets after w others two more in
    let frames = same_bytes_same_frames v w steps others (among_leads answers tokens None role fresh v steps one) (among_leads replies secrets None after fresh w others two) same none other in
    a.0 ∙ ap (λ (l : List (Frame Query)). replies_of (map refused_frame l)) frames.0 ∙ sym b.0

-- alone, what is inside, what is shared and the pass are as they were
untouched : {A S P : Type 0} (answers : FrameLaw A S P) (a b : Server A) (s t : S) (p q : P) (v w : Talk) (steps : List Step) → a.keeper.role ≡ None → HaveNoKey a.keeper.tokens.items (asked steps)
    → Serves (ServesFrame answers) v a s p steps w b t q → (b.keeper.tokens.items ≡ a.keeper.tokens.items) × (b.inner ≡ a.inner) × (t ≡ s) × (q ≡ p)
untouched answers a b s t p q v w [] none keys (same, server, shared, pass) =
    (ap (λ (x : Server _). x.keeper.tokens.items) server, ap (λ (x : Server _). x.inner) server, shared, pass)
untouched answers a b s t p q v w (Came piece ∷ steps) none keys (m, c, u, r, goes, (server, shared, pass), more) =
    let rest = untouched answers c b u t r q m w steps (ap (λ (x : Server _). x.keeper.role) server ∙ none)
    (subst (λ (x : Server _). HaveNoKey x.keeper.tokens.items (asked steps)) (sym server) keys) more in
    (rest.0 ∙ ap (λ (x : Server _). x.keeper.tokens.items) server, rest.1 ∙ ap (λ (x : Server _). x.inner) server, rest.2 ∙ shared, rest.3 ∙ pass)
untouched answers a b s t p q v w (Went bytes ∷ steps) none keys (m, c, u, r, goes, (server, shared, pass), more) =
    let rest = untouched answers c b u t r q m w steps (ap (λ (x : Server _). x.keeper.role) server ∙ none)
    (subst (λ (x : Server _). HaveNoKey x.keeper.tokens.items (asked steps)) (sym server) keys) more in
    (rest.0 ∙ ap (λ (x : Server _). x.keeper.tokens.items) server, rest.1 ∙ ap (λ (x : Server _). x.inner) server, rest.2 ∙ shared, rest.3 ∙ pass)
untouched answers a b s t p q v w (Took frame reply ∷ steps) none (key, keys) (m, c, u, r, goes, serves, more) =
    let blind = closed_is_blind answers a c s u p r frame reply none key serves in
    let rest = untouched answers c b u t r q m w steps blind.1
    (subst (λ (l : List Token). HaveNoKey l (asked steps)) (sym blind.2) keys) more in
    (rest.0 ∙ blind.2, rest.1 ∙ blind.3, rest.2 ∙ blind.4, rest.3 ∙ blind.5)

pub closed_sessions_are_blind : {A S P : Type 0} (answers : FrameLaw A S P) → ClosedSessionsAreBlind answers
closed_sessions_are_blind answers a b s t p q w steps serves none keys =
    let among = subst (λ (role : Option Role). ServesAmong answers a.keeper.tokens.items fresh role steps w b.keeper.role) none
    (alone_is_among answers a b s t p q fresh w steps serves) in
    let blind = closed_clients_are_blind answers a.keeper.tokens.items b.keeper.role w steps among keys in
    let same = untouched answers a b s t p q fresh w steps none keys serves in
    (blind.0, blind.1, same.0, same.1, same.2, same.3)

-- ---- a client that may read
-- what it is left to, and the role that it has then
abbrev Reads : Option (List Response) → List Query → Keeper → Type 0
Reads answered queries l = Lets answered queries × HasOnly Read l.role

reads_turned : (k l : Keeper) (queries : List Query) (answered : Option (List Response)) → HasOnly Read k.role → TurnsAway k queries answered l → Reads answered queries l
reads_turned k l queries answered only turned = (lets_turned k l queries answered turned, subst (HasOnly Read) (sym turned.1.role_is) only)

reads_greeted : (k l : Keeper) (queries : List Query) (newest : ℕ) (secret name : List ℕ) (answered : Option (List Response)) → HasOnly Read k.role → GrantsOnly k.tokens.items Read (Some (Hello newest secret name)) → Greets k queries newest secret answered l → Reads answered queries l
reads_greeted k l queries newest secret name answered only grants (Some role, admits, greeted) =
    (lets_some answered _ queries greeted.0, subst (HasOnly Read) (sym greeted.1.role_is) (grants role admits))
reads_greeted k l queries newest secret name answered only grants (None, admits, turned) = reads_turned k l queries answered only turned

same_role : (may : Bool) (k l : Keeper) (queries : List Query) (query : Option ServerQuery) (answered : Option (List Response)) → MatchBool may (Allows k queries query answered l) (TurnsAway k queries answered l) → l.role ≡ k.role
same_role true k l queries None answered allows = allows.1.role_is
same_role true k l queries (Some query) answered (response, told, is, becomes) = becomes.role_is
same_role false k l queries query answered turned = turned.1.role_is

reads_within : (role : Option Role) (k l : Keeper) (queries : List Query) (query : Option ServerQuery) (answered : Option (List Response)) → HasOnly Read k.role → HasOnly Read role
    → MatchOption role (TurnsAway k queries answered l) (λ role. MatchBool (may_all role queries) (Allows k queries query answered l) (TurnsAway k queries answered l)) → Reads answered queries l
reads_within None k l queries query answered only own turned = reads_turned k l queries answered only turned
reads_within (Some role) k l queries query answered only own within =
    let by = subst (λ (r : Role). MatchBool (may_all r queries) (Allows k queries query answered l) (TurnsAway k queries answered l)) own within in
    (lets_by (may_all Read queries) k l queries query answered refl by, subst (HasOnly Read) (sym (same_role (may_all Read queries) k l queries query answered by)) only)

reads_alone : (k l : Keeper) (queries : List Query) (query : Option ServerQuery) (answered : Option (List Response)) → HasOnly Read k.role → GrantsOnly k.tokens.items Read query → KeepsAlone k queries query answered l → Reads answered queries l
reads_alone k l queries (Some (Hello newest secret name)) answered only grants keeps = reads_greeted k l queries newest secret name answered only grants keeps
reads_alone k l queries (Some (Ping number)) answered only grants keeps = reads_within k.role k l queries (Some (Ping number)) answered only only keeps
reads_alone k l queries (Some Info) answered only grants keeps = reads_within k.role k l queries (Some Info) answered only only keeps
reads_alone k l queries (Some Views) answered only grants keeps = reads_within k.role k l queries (Some Views) answered only only keeps
reads_alone k l queries (Some (Wait of number milliseconds)) answered only grants keeps = reads_within k.role k l queries (Some (Wait of number milliseconds)) answered only only keeps
reads_alone k l queries (Some (Stop is_at_once)) answered only grants keeps = reads_within k.role k l queries (Some (Stop is_at_once)) answered only only keeps
reads_alone k l queries None answered only grants keeps = reads_within k.role k l queries None answered only only keeps

reading_by : {A S P : Type 0} (answers : FrameLaw A S P) (a b : Server A) (s t : S) (p q : P) (frame : Frame Query) (reply : Frame Response) (answered : Option (List Response)) → Lets answered frame.messages
    → KeepsAlone a.keeper frame.messages (alone frame.messages) answered b.keeper
    → MatchOption answered (answers a.inner s p frame reply b.inner t q) (λ responses. (reply ≡ framed frame.version responses) × (b.inner ≡ a.inner) × (t ≡ s) × (q ≡ p))
    → ServesFrame (reading answers) a s p frame reply b t q
reading_by answers a b s t p q frame reply None may keeps then = (None, keeps, (may, then))
reading_by answers a b s t p q frame reply (Some responses) may keeps then = (Some responses, keeps, then)

reading_frame : {A S P : Type 0} (answers : FrameLaw A S P) (a b : Server A) (s t : S) (p q : P) (frame : Frame Query) (reply : Frame Response) → HasOnly Read a.keeper.role → GrantsOnly a.keeper.tokens.items Read (alone frame.messages)
    → ServesFrame answers a s p frame reply b t q → HasOnly Read b.keeper.role × ServesFrame (reading answers) a s p frame reply b t q
reading_frame answers a b s t p q frame reply only grants (answered, keeps, then) =
    let reads = reads_alone a.keeper b.keeper frame.messages (alone frame.messages) answered only grants keeps in
    (reads.1, reading_by answers a b s t p q frame reply answered reads.0 keeps then)

pub reading_sessions_read : {A S P : Type 0} (answers : FrameLaw A S P) → ReadingSessionsRead answers
reading_sessions_read answers a b s t p q v w [] (same, server, shared, pass) only grants =
    (subst (λ (x : Server _). HasOnly Read x.keeper.role) (sym server) only, (same, server, shared, pass))
reading_sessions_read answers a b s t p q v w (Came piece ∷ steps) (m, c, u, r, goes, (server, shared, pass), more) only grants =
    let rest = reading_sessions_read answers c b u t r q m w steps more (subst (λ (x : Server _). HasOnly Read x.keeper.role) (sym server) only)
    (subst (λ (x : Server _). GrantOnly x.keeper.tokens.items Read (asked steps)) (sym server) grants) in
    (rest.0, (m, c, u, r, goes, (server, shared, pass), rest.1))
reading_sessions_read answers a b s t p q v w (Went bytes ∷ steps) (m, c, u, r, goes, (server, shared, pass), more) only grants =
    let rest = reading_sessions_read answers c b u t r q m w steps more (subst (λ (x : Server _). HasOnly Read x.keeper.role) (sym server) only)
    (subst (λ (x : Server _). GrantOnly x.keeper.tokens.items Read (asked steps)) (sym server) grants) in
    (rest.0, (m, c, u, r, goes, (server, shared, pass), rest.1))
reading_sessions_read answers a b s t p q v w (Took frame reply ∷ steps) (m, c, u, r, goes, serves, more) only (grant, grants) =
    let first = reading_frame answers a c s u p r frame reply only grant serves in
    let rest = reading_sessions_read answers c b u t r q m w steps more first.0
    (subst (λ (l : List Token). GrantOnly l Read (asked steps)) (sym (stays_alone a.keeper c.keeper frame.messages (alone frame.messages) serves.0 serves.1)) grants) in
    (rest.0, (m, c, u, r, goes, first.1, rest.1))

-- the role in which a hello is answered
only_first : (tokens : List Token) (secret : List ℕ) → ((role : Role) → Admits tokens secret (Some role) → role ≡ Read) → HasOnly Read (first_role tokens)
only_first [] secret grants = grants _ refl
only_first (token ∷ tokens) secret grants = tt

only_role : (tokens : List Token) (role : Option Role) (query : Option ServerQuery) (now : Option Role) → HasOnly Read role → GrantsOnly tokens Read query → IsRoleFor tokens role query now → HasOnly Read now
only_role tokens role (Some (Hello newest secret name)) now only grants (inl same) = subst (HasOnly Read) (sym same) only
only_role tokens role (Some (Hello newest secret name)) now only grants (inr first) = subst (HasOnly Read) (sym first) (only_first tokens _ grants)
only_role tokens role (Some (Ping number)) now only grants same = subst (HasOnly Read) (sym same) only
only_role tokens role (Some Info) now only grants same = subst (HasOnly Read) (sym same) only
only_role tokens role (Some Views) now only grants same = subst (HasOnly Read) (sym same) only
only_role tokens role (Some (Wait of number milliseconds)) now only grants same = subst (HasOnly Read) (sym same) only
only_role tokens role (Some (Stop is_at_once)) now only grants same = subst (HasOnly Read) (sym same) only
only_role tokens role None now only grants same = subst (HasOnly Read) (sym same) only

reading_one : {A S P : Type 0} (answers : FrameLaw A S P) (tokens : List Token) (role after : Option Role) (frame : Frame Query) (reply : Frame Response) → HasOnly Read role → GrantsOnly tokens Read (alone frame.messages) → ServesOne answers tokens role frame reply after
    → HasOnly Read after × ServesOne (reading answers) tokens role frame reply after
reading_one answers tokens role after frame reply only grants one =
    let first = reading_frame answers one.server one.server_then one.shared one.shared_then one.pass one.pass_then frame reply
    (only_role tokens role (alone frame.messages) one.server.keeper.role only grants one.role_is)
    (subst (λ (l : List Token). GrantsOnly l Read (alone frame.messages)) (sym one.tokens_are) grants) one.served in (
      subst (HasOnly Read) one.role_then first.0,
      record {
        server = one.server;
        shared = one.shared;
        pass = one.pass;
        server_then = one.server_then;
        shared_then = one.shared_then;
        pass_then = one.pass_then;
        tokens_are = one.tokens_are;
        role_is = one.role_is;
        served = first.1;
        role_then = one.role_then;
      },
    )

pub reading_clients_read : {A S P : Type 0} (answers : FrameLaw A S P) → ReadingClientsRead answers
reading_clients_read answers tokens role after v w [] (same, is) only grants = (subst (HasOnly Read) (sym is) only, (same, is))
reading_clients_read answers tokens role after v w (Came piece ∷ steps) (m, then, goes, is, more) only grants =
    let rest = reading_clients_read answers tokens then after m w steps more (subst (HasOnly Read) (sym is) only) grants in
    (rest.0, (m, then, goes, is, rest.1))
reading_clients_read answers tokens role after v w (Went bytes ∷ steps) (m, then, goes, is, more) only grants =
    let rest = reading_clients_read answers tokens then after m w steps more (subst (HasOnly Read) (sym is) only) grants in
    (rest.0, (m, then, goes, is, rest.1))
reading_clients_read answers tokens role after v w (Took frame reply ∷ steps) (m, then, goes, one, more) only (grant, grants) =
    let first = reading_one answers tokens role then frame reply only grant one in
    let rest = reading_clients_read answers tokens then after m w steps more first.0 grants in
    (rest.0, (m, then, goes, first.1, rest.1))

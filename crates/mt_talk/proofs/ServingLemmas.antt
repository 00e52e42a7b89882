-- What a server leaves to what is inside.
use Rattle.std.proofs.Common.{◌≡◌, ℕ, Bool, true, false, cond, List, Option, Some, None, refl, sym, subst, ◌∙◌, inl, inr}
use Rattle.std.specs.Prelude.{◌⊎◌, MatchOption, MatchBool}
use Rattle.mt_wire.specs.declared.query.Query.{Query}
use Rattle.mt_wire.specs.declared.response.Response.{Response}
use Rattle.mt_wire.specs.declared.frame.Frame.{Frame}
use Rattle.mt_wire.specs.declared.server.Role.{Role}
use Rattle.mt_wire.specs.declared.server.Role.TheVariants.{Read}
use Rattle.mt_wire.specs.declared.server.ServerQuery.{ServerQuery}
use Rattle.mt_wire.specs.declared.server.ServerQuery.TheVariants.{Hello, Ping, Info, Views, Wait, Stop}
use Rattle.mt_wire.specs.Spelling.{framed}
use Rattle.mt_talk.specs.declared.server.Keeper.{Keeper}
use Rattle.mt_talk.specs.declared.serving.Server.{Server}
use Rattle.mt_wire.specs.declared.server.ServerRefusal.{ServerRefusal}
use Rattle.mt_talk.specs.Serving.{alone, may_all, changes_rows, hindered, leaves, TurnsAway, Greets, Allows, Within, KeepsAlone}
use Rattle.mt_talk.specs.Growing.{any_grows, memory_refusals}
use Rattle.mt_talk.specs.Frames.{HasNoKey, ClosedIsBlind, FullGrowNothing, HinderedKeepRows, ReadersRead}

-- ---- closed

closed_within : (k l : Keeper) (queries : List Query) (query : Option ServerQuery) (answered : Option (List Response)) → k.role ≡ None → Within k queries query answered l → TurnsAway k queries answered l
closed_within k l queries query answered none within =
    subst (λ (role : Option Role). MatchOption role (TurnsAway k queries answered l) (λ role. MatchBool (may_all role queries) (Allows k queries query answered l) (TurnsAway k queries answered l))) none within

greets_none : (k l : Keeper) (queries : List Query) (newest : ℕ) (secret name : List ℕ) (answered : Option (List Response)) → HasNoKey k.tokens.items (Some (Hello newest secret name)) → Greets k queries newest secret answered l → TurnsAway k queries answered l
greets_none k l queries newest secret name answered none (Some role, admits, greeted) = absurd (none role admits)
greets_none k l queries newest secret name answered none (None, admits, turned) = turned

pub closed_alone : (k l : Keeper) (queries : List Query) (query : Option ServerQuery) (answered : Option (List Response)) → k.role ≡ None → HasNoKey k.tokens.items query → KeepsAlone k queries query answered l → TurnsAway k queries answered l
closed_alone k l queries (Some (Hello newest secret name)) answered none key keeps = greets_none k l queries newest secret name answered key keeps
closed_alone k l queries (Some (Ping number)) answered none key keeps = closed_within k l queries (Some (Ping number)) answered none keeps
closed_alone k l queries (Some Info) answered none key keeps = closed_within k l queries (Some Info) answered none keeps
closed_alone k l queries (Some Views) answered none key keeps = closed_within k l queries (Some Views) answered none keeps
closed_alone k l queries (Some (Wait of number milliseconds)) answered none key keeps = closed_within k l queries (Some (Wait of number milliseconds)) answered none keeps
closed_alone k l queries (Some (Stop is_at_once)) answered none key keeps = closed_within k l queries (Some (Stop is_at_once)) answered none keeps
closed_alone k l queries None answered none key keeps = closed_within k l queries None answered none keeps

pub closed_is_blind : {A S P : Type 0} (answers : A → S → P → Frame Query → Frame Response → A → S → P → Type 0) → ClosedIsBlind answers
closed_is_blind answers a b s t p q frame reply none key (answered, keeps, then) =
    let turned = closed_alone a.keeper b.keeper frame.messages (alone frame.messages) answered none key keeps in
    let told = subst (λ (o : Option (List Response)). MatchOption o (answers a.inner s p frame reply b.inner t q) (λ responses. (reply ≡ framed frame.version responses) × (b.inner ≡ a.inner) × (t ≡ s) × (q ≡ p))) turned.0 then in
    (told.0, turned.1.role_is ∙ none, turned.1.tokens, told.1, told.2, told.3)

-- ---- a reader
abbrev pub Lets : Option (List Response) → List Query → Type 0
Lets answered queries = MatchOption answered (may_all Read queries ≡ true) (λ responses. Unit {0})

pub lets_turned : (k l : Keeper) (queries : List Query) (answered : Option (List Response)) → TurnsAway k queries answered l → Lets answered queries
lets_turned k l queries answered turned = subst (λ (o : Option (List Response)). Lets o queries) (sym turned.0) tt

pub lets_some : (answered : Option (List Response)) (responses : List Response) (queries : List Query) → answered ≡ Some responses → Lets answered queries
lets_some answered responses queries is = subst (λ (o : Option (List Response)). Lets o queries) (sym is) tt

lets_any : (answered : Option (List Response)) (queries : List Query) → may_all Read queries ≡ true → Lets answered queries
lets_any None queries may = may
lets_any (Some responses) queries may = tt

lets_allowed : (k l : Keeper) (queries : List Query) (query : Option ServerQuery) (answered : Option (List Response)) → may_all Read queries ≡ true → Allows k queries query answered l → Lets answered queries
lets_allowed k l queries query answered may allows = lets_any answered queries may

pub lets_by : (may : Bool) (k l : Keeper) (queries : List Query) (query : Option ServerQuery) (answered : Option (List Response)) → may_all Read queries ≡ may
    → MatchBool may (Allows k queries query answered l) (TurnsAway k queries answered l) → Lets answered queries
lets_by true k l queries query answered is allows = lets_allowed k l queries query answered is allows
lets_by false k l queries query answered is turned = lets_turned k l queries answered turned

lets_within : (k l : Keeper) (queries : List Query) (query : Option ServerQuery) (answered : Option (List Response)) → k.role ≡ Some Read → Within k queries query answered l → Lets answered queries
lets_within k l queries query answered reader within =
    lets_by (may_all Read queries) k l queries query answered refl
    (subst (λ (role : Option Role). MatchOption role (TurnsAway k queries answered l) (λ role. MatchBool (may_all role queries) (Allows k queries query answered l) (TurnsAway k queries answered l))) reader within)

lets_greeted : (k l : Keeper) (queries : List Query) (newest : ℕ) (secret : List ℕ) (answered : Option (List Response)) → Greets k queries newest secret answered l → Lets answered queries
lets_greeted k l queries newest secret answered (Some role, admits, greeted) = lets_some answered _ queries greeted.0
lets_greeted k l queries newest secret answered (None, admits, turned) = lets_turned k l queries answered turned

lets_alone : (k l : Keeper) (queries : List Query) (query : Option ServerQuery) (answered : Option (List Response)) → k.role ≡ Some Read → KeepsAlone k queries query answered l → Lets answered queries
lets_alone k l queries (Some (Hello newest secret name)) answered reader keeps = lets_greeted k l queries newest secret answered keeps
lets_alone k l queries (Some (Ping number)) answered reader keeps = lets_within k l queries (Some (Ping number)) answered reader keeps
lets_alone k l queries (Some Info) answered reader keeps = lets_within k l queries (Some Info) answered reader keeps
lets_alone k l queries (Some Views) answered reader keeps = lets_within k l queries (Some Views) answered reader keeps
lets_alone k l queries (Some (Wait of number milliseconds)) answered reader keeps = lets_within k l queries (Some (Wait of number milliseconds)) answered reader keeps
lets_alone k l queries (Some (Stop is_at_once)) answered reader keeps = lets_within k l queries (Some (Stop is_at_once)) answered reader keeps
lets_alone k l queries None answered reader keeps = lets_within k l queries None answered reader keeps

readers_by : {A S P : Type 0} (answers : A → S → P → Frame Query → Frame Response → A → S → P → Type 0) (a b : Server A) (s t : S) (p q : P) (frame : Frame Query) (reply : Frame Response) (answered : Option (List Response))
    → Lets answered frame.messages
    → MatchOption answered (answers a.inner s p frame reply b.inner t q) (λ responses. (reply ≡ framed frame.version responses) × (b.inner ≡ a.inner) × (t ≡ s) × (q ≡ p))
    → ((may_all Read frame.messages ≡ true) × answers a.inner s p frame reply b.inner t q) ⊎ ((b.inner ≡ a.inner) × (t ≡ s) × (q ≡ p))
readers_by answers a b s t p q frame reply None may then = inl (may, then)
readers_by answers a b s t p q frame reply (Some responses) may then = inr (then.1, then.2, then.3)

pub readers_read : {A S P : Type 0} (answers : A → S → P → Frame Query → Frame Response → A → S → P → Type 0) → ReadersRead answers
readers_read answers a b s t p q frame reply reader (answered, keeps, then) =
    readers_by answers a b s t p q frame reply answered (lets_alone a.keeper b.keeper frame.messages (alone frame.messages) answered reader keeps) then

-- ---- while rows can't be changed, or the memory is full

-- what is left to what is inside is refused for neither
abbrev Leaves : Keeper → List Query → Option (List Response) → Type 0
Leaves k queries answered = MatchOption answered (leaves (hindered k.read_only queries) k.is_memory_full queries ≡ None) (λ responses. Unit {0})

leaves_some : (k : Keeper) (queries : List Query) (answered : Option (List Response)) (responses : List Response) → answered ≡ Some responses → Leaves k queries answered
leaves_some k queries answered responses is = subst (λ (o : Option (List Response)). Leaves k queries o) (sym is) tt

none_is_none : (o : Option (List Response)) → MatchOption o (o ≡ None) (λ responses. Unit {0})
none_is_none None = refl
none_is_none (Some responses) = tt

leaves_allowed : (k l : Keeper) (queries : List Query) (query : Option ServerQuery) (answered : Option (List Response)) → Allows k queries query answered l → Leaves k queries answered
leaves_allowed k l queries None answered allows =
    subst (λ (o : Option (List Response)). Leaves k queries o) (sym allows.0) (none_is_none (leaves (hindered k.read_only queries) k.is_memory_full queries))
leaves_allowed k l queries (Some query) answered (response, told, is, becomes) = leaves_some k queries answered _ is

leaves_may : (may : Bool) (k l : Keeper) (queries : List Query) (query : Option ServerQuery) (answered : Option (List Response))
    → MatchBool may (Allows k queries query answered l) (TurnsAway k queries answered l) → Leaves k queries answered
leaves_may true k l queries query answered allows = leaves_allowed k l queries query answered allows
leaves_may false k l queries query answered turned = leaves_some k queries answered _ turned.0

leaves_role : (role : Option Role) (k l : Keeper) (queries : List Query) (query : Option ServerQuery) (answered : Option (List Response))
    → MatchOption role (TurnsAway k queries answered l) (λ role. MatchBool (may_all role queries) (Allows k queries query answered l) (TurnsAway k queries answered l)) → Leaves k queries answered
leaves_role None k l queries query answered turned = leaves_some k queries answered _ turned.0
leaves_role (Some role) k l queries query answered within = leaves_may (may_all role queries) k l queries query answered within

leaves_greeted : (k l : Keeper) (queries : List Query) (newest : ℕ) (secret : List ℕ) (answered : Option (List Response)) → Greets k queries newest secret answered l → Leaves k queries answered
leaves_greeted k l queries newest secret answered (Some role, admits, greeted) = leaves_some k queries answered _ greeted.0
leaves_greeted k l queries newest secret answered (None, admits, turned) = leaves_some k queries answered _ turned.0

leaves_alone : (k l : Keeper) (queries : List Query) (query : Option ServerQuery) (answered : Option (List Response)) → KeepsAlone k queries query answered l → Leaves k queries answered
leaves_alone k l queries (Some (Hello newest secret name)) answered keeps = leaves_greeted k l queries newest secret answered keeps
leaves_alone k l queries (Some (Ping number)) answered keeps = leaves_role k.role k l queries (Some (Ping number)) answered keeps
leaves_alone k l queries (Some Info) answered keeps = leaves_role k.role k l queries (Some Info) answered keeps
leaves_alone k l queries (Some Views) answered keeps = leaves_role k.role k l queries (Some Views) answered keeps
leaves_alone k l queries (Some (Wait of number milliseconds)) answered keeps = leaves_role k.role k l queries (Some (Wait of number milliseconds)) answered keeps
leaves_alone k l queries (Some (Stop is_at_once)) answered keeps = leaves_role k.role k l queries (Some (Stop is_at_once)) answered keeps
leaves_alone k l queries None answered keeps = leaves_role k.role k l queries None answered keeps

-- a frame reaches what is inside only if this holds of its queries
left_frame : {A S P : Type 0} (answers : A → S → P → Frame Query → Frame Response → A → S → P → Type 0) (T : Type 0) (a b : Server A) (s t : S) (p q : P) (frame : Frame Query) (reply : Frame Response) (answered : Option (List Response))
    → Leaves a.keeper frame.messages answered
    → (leaves (hindered a.keeper.read_only frame.messages) a.keeper.is_memory_full frame.messages ≡ None → T)
    → MatchOption answered (answers a.inner s p frame reply b.inner t q) (λ responses. (reply ≡ framed frame.version responses) × (b.inner ≡ a.inner) × (t ≡ s) × (q ≡ p))
    → (T × answers a.inner s p frame reply b.inner t q) ⊎ ((b.inner ≡ a.inner) × (t ≡ s) × (q ≡ p))
left_frame answers T a b s t p q frame reply None left holds then = inl (holds left, then)
left_frame answers T a b s t p q frame reply (Some responses) left holds then = inr (then.1, then.2, then.3)

keeps_rows : (changes : Bool) (refusal : ServerRefusal) (full : Bool) (queries : List Query) → leaves (cond changes (Some refusal) None) full queries ≡ None → changes ≡ false
keeps_rows true refusal full queries left = absurd (cc)
keeps_rows false refusal full queries left = refl

pub hindered_keep_rows : {A S P : Type 0} (answers : A → S → P → Frame Query → Frame Response → A → S → P → Type 0) → HinderedKeepRows answers
hindered_keep_rows answers a b s t p q frame reply refusal hinders (answered, keeps, then) =
    left_frame answers _ a b s t p q frame reply answered (leaves_alone a.keeper b.keeper frame.messages (alone frame.messages) answered keeps)
    (λ left. keeps_rows (changes_rows frame.messages) refusal a.keeper.is_memory_full frame.messages
    (subst (λ (o : Option ServerRefusal). leaves (hindered o frame.messages) a.keeper.is_memory_full frame.messages ≡ None) hinders left))
    then

bounds_growth : (any : Bool) (queries : List Query) → cond any (Some (memory_refusals queries)) None ≡ None → any ≡ false
bounds_growth true queries left = absurd (cc)
bounds_growth false queries left = refl

grows_nothing : (refusal : Option ServerRefusal) (queries : List Query) → leaves refusal true queries ≡ None → any_grows queries ≡ false
grows_nothing None queries left = bounds_growth (any_grows queries) queries left
grows_nothing (Some refusal) queries left = absurd (cc)

pub full_grow_nothing : {A S P : Type 0} (answers : A → S → P → Frame Query → Frame Response → A → S → P → Type 0) → FullGrowNothing answers
full_grow_nothing answers a b s t p q frame reply full (answered, keeps, then) =
    left_frame answers _ a b s t p q frame reply answered (leaves_alone a.keeper b.keeper frame.messages (alone frame.messages) answered keeps)
    (λ left. grows_nothing (hindered a.keeper.read_only frame.messages) frame.messages
    (subst (λ (full : Bool). leaves (hindered a.keeper.read_only frame.messages) full frame.messages ≡ None) full left))
    then

-- What a change within its limits may be refused for.
use Rattle.std.proofs.Common.{◌≡◌, ◌≤◌, ◌+◌, ◌-◌, ℕ, Bool, true, false, zero, suc, List, [], ◌∷◌, length, Option, Some, None, sym, ap, subst, inl, inr}
use Rattle.std.specs.Prelude.{IfErr, MatchOption, Result, Ok, Err, nat_le, nat_lt, slice_get}
use Rattle.std.specs.Option.{option_or}
use Rattle.std.proofs.lemmas.Bool.{le-ltb}
use Rattle.mt_types.specs.Numbers.{greatest_number}
use Rattle.mt_types.specs.declared.limits.TheConstants.{MAX_KEY_BYTES}
use Rattle.mt_types.specs.Limits.{key_fault, refused_if, request_fault}
use Rattle.mt_types.specs.declared.refusal.Refusal.{Refusal}
use Rattle.mt_types.specs.declared.refusal.Refusal.TheVariants.{ArenaFull, FeedFull, KeyTooLong, NoMemory, Spent, TooManyCalls}
use Rattle.mt_types.specs.declared.event.Outcome.TheVariants.{Call, Refused}
use Rattle.mt_types.specs.declared.event.Request.TheVariants.{Put}
use Rattle.mt_promise.specs.History.{History, Moment, OpenCall, moment}
use Rattle.mt_promise.specs.Legal.{Legal, MayBegin, MayEnd, begin_fault, view_places}
use Rattle.mt_types.specs.declared.limits.TheConstants.{MAX_OPEN_CALLS}
use Rattle.mt_promise.proofs.AloneLemmas.{lone_refusal_may_end}
use Rattle.mt_commit.specs.Log.{LogView, newest, reserve_fault, slowest}
use Rattle.mt_undo.specs.Reserving.{IsRoomRefused}
use Rattle.mt_index.specs.Alone.{IsIdle, RefusesPlainly, next_call}
use Rattle.mt_index.specs.Marks.{AreRefused}
use Rattle.mt_index.specs.Stands.{MachineView, Stands}
use Rattle.mt_index.proofs.MarkStands.{none_open}
use Rattle.mt_batch.specs.declared.batch.Change.{Change}
use Rattle.mt_batch.specs.Batch.{MayLack, changes_fault}
use Rattle.mt_batch.specs.Changes.{request_of_change}
use Rattle.mt_batch.proofs.ChangeLemmas.{first_none, then_none}

-- ---- faults
abbrev Lacking : Option Refusal → Type 0
Lacking None = Unit {0}
Lacking (Some refusal) = MayLack refusal

lacking_if : (broken : Bool) (refusal : Refusal) → MayLack refusal → Lacking (refused_if broken refusal)
lacking_if true refusal lacks = lacks
lacking_if false refusal lacks = tt

lacking_or : (one other : Option Refusal) → Lacking one → Lacking other → Lacking (option_or one other)
lacking_or None other first second = second
lacking_or (Some refusal) other first second = first

-- a refusal that is this fault, or out of memory
by_fault : (fault : Option Refusal) (refusal : Refusal) → Lacking fault → MatchOption fault (refusal ≡ NoMemory) (λ f. refusal ≡ f) → MayLack refusal
by_fault None refusal lacks is = subst MayLack (sym is) tt
by_fault (Some f) refusal lacks is = subst MayLack (sym is) lacks

-- ---- memory
pub no_memory : (refusal : Refusal) → refusal ≡ NoMemory → MayLack refusal
no_memory refusal is = subst MayLack (sym is) tt

pub without_fault : {T : Type 0} (fault : Option Refusal) (result : Result T Refusal) → fault ≡ None → MatchOption fault (IfErr result (λ refusal. refusal ≡ NoMemory)) (λ refusal. result ≡ Err refusal) → IfErr result MayLack
without_fault None (Ok made) none is = tt
without_fault None (Err refusal) none is = no_memory refusal is
without_fault (Some f) result none is = absurd (let clash : ◌≡◌ {A = Option Refusal} (Some f) None = none in cc)

pub key_lacks : {T : Type 0} (key : List ℕ) (result : Result T Refusal) → MatchOption (key_fault key) (IfErr result (λ refusal. refusal ≡ NoMemory)) (λ refusal. result ≡ Err refusal) → length key ≤ MAX_KEY_BYTES → IfErr result MayLack
key_lacks key result is within = without_fault (key_fault key) result (ap (λ (b : Bool). refused_if b KeyTooLong) (le-ltb MAX_KEY_BYTES (length key) within)) is

-- ---- room in the log
room_lacks : (log : LogView) (count : ℕ) (refusal : Refusal) → IsRoomRefused log count refusal → MayLack refusal
room_lacks log count refusal is =
    let then : LogView = record log { reserved = log.reserved + is.made } in
    let spent : Bool = nat_le greatest_number (newest then + then.reserved) in
    let full : Bool = nat_lt then.capacity (newest then - slowest then + then.reserved + 1) in
    by_fault (reserve_fault then) refusal
    (lacking_or (refused_if spent Spent) (refused_if full (FeedFull (slowest then))) (lacking_if spent Spent tt) (lacking_if full (FeedFull (slowest then)) tt)) is.why

pub removes_lack : (s : MachineView) (count : ℕ) (refusal : Refusal) → AreRefused s count refusal → MayLack refusal
removes_lack s count refusal is = elim is [
  | inl spent ↦ subst MayLack (sym spent.0) tt
  | inr room ↦ room_lacks s.log count refusal room
]

-- ---- puts
end_lacks : (C : ℕ) (past : History) (began : ℕ) (key : List ℕ) (sets : List (ℕ × List ℕ)) (refusal : Refusal) → MayEnd C past began (Put key sets) refusal → MayLack refusal
end_lacks C past began key sets NoMemory may = tt
end_lacks C past began key sets ArenaFull may = tt
end_lacks C past began key sets (FeedFull slowest) may = tt
end_lacks C past began key sets Spent may = tt
end_lacks C past began key sets _ may = absurd may

begun_lacks : (m : Moment) (fault : Option Refusal) (refusal : Refusal) → Lacking fault → MayBegin m fault (Refused refusal) → MayLack refusal
begun_lacks m (Some f) refusal lacks is = let same : refusal ≡ f = cc in subst MayLack (sym same) lacks
begun_lacks m None refusal lacks is = elim is [
  | inl called ↦ absurd (let clash : Refused refusal ≡ Call (record { 0 = m.begun + 1 }) = called in cc)
  | inr lacking ↦ (let same : refusal ≡ NoMemory = (let both : Refused refusal ≡ Refused NoMemory = lacking in cc) in no_memory refusal same)
]

-- a put within its limits, whose call can begin or not
put_begins : (C begun places : ℕ) (calls : List OpenCall) (key : List ℕ) (sets : List (ℕ × List ℕ)) → calls ≡ [] → request_fault C (Put key sets) ≡ None → Lacking (begin_fault C begun (length calls) places (Put key sets))
put_begins C begun places calls key sets none fits =
    let spent = refused_if (nat_le greatest_number begun) Spent in
    let many = refused_if (nat_le MAX_OPEN_CALLS (length calls)) TooManyCalls in
    lacking_or (request_fault C (Put key sets)) (option_or spent (option_or many None)) (subst Lacking (sym fits) tt)
    (lacking_or spent (option_or many None) (lacking_if (nat_le greatest_number begun) Spent tt)
    (lacking_or many None (subst (λ (cs : List OpenCall). Lacking (refused_if (nat_le MAX_OPEN_CALLS (length cs)) TooManyCalls)) (sym none) tt) tt))

pub put_lacks : (m t : MachineView) (h : History) (key : List ℕ) (sets : List (ℕ × List ℕ)) (refusal : Refusal) → Stands m h → IsIdle m → t.columns ≡ m.columns → request_fault m.columns (Put key sets) ≡ None → RefusesPlainly m (Put key sets) refusal t → MayLack refusal
put_lacks m t h key sets refusal st idle columns fits refuses =
    let r = refuses h st in
    let legal : Legal m.columns r.then = subst (λ (C : ℕ). Legal C r.then) columns r.stands.legal in
    elim r.ran [
      | inl turned ↦ (
          let is = subst (λ (g : History). Legal m.columns g) turned legal in
          begun_lacks (moment h) _ refusal (put_begins m.columns (moment h).begun (view_places (moment h)) (moment h).calls key sets (none_open m h st idle) fits) is.1)
      | inr ran ↦ (
          let is = subst (λ (g : History). Legal m.columns g) ran.is_after legal in
          end_lacks m.columns ran.past (length h) key sets refusal (lone_refusal_may_end m.columns (Put key sets) (next_call m) refusal ran.note h ran.past ran.run is))
    ]

-- ---- changes
pub change_none : (C : ℕ) (changes : List Change) (i : ℕ) (change : Change) → changes_fault C changes ≡ None → slice_get changes i ≡ Some change → request_fault C (request_of_change change) ≡ None
change_none C [] i change none is = absurd (let clash : ◌≡◌ {A = Option Change} None (Some change) = is in cc)
change_none C (c ∷ changes) zero change none is =
    let same : c ≡ change = cc in
    subst (λ (x : Change). request_fault C (request_of_change x) ≡ None) same (first_none _ (changes_fault C changes) none)
change_none C (c ∷ changes) (suc i) change none is = change_none C changes i change (then_none (request_fault C (request_of_change c)) (changes_fault C changes) none) is

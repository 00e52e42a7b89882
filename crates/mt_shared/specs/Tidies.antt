-- The tidies that follow a remove, over any events that are made on what is shared.
use Rattle.std.specs.Prelude.{ℕ, zero, suc, ◌≡◌, ◌<◌, ◌⊎◌, Bool, true, false, List, Result, Ok, Err, MatchBool}
use Rattle.mt_types.specs.declared.refusal.Refusal.{Refusal}
use Rattle.mt_types.specs.declared.refusal.Refusal.TheVariants.{NoMemory}
use Rattle.mt_types.specs.declared.event.Answer.{Answer}
use Rattle.mt_types.specs.declared.event.Answer.TheVariants.{Tidied}
use Rattle.mt_types.specs.declared.event.TidyRule.TheVariants.{Nothing}
use Rattle.mt_types.specs.declared.event.Event.TheVariants.{Advance, Collect}
use Rattle.mt_types.specs.declared.event.Outcome.{Outcome}
use Rattle.mt_types.specs.declared.event.Reply.{Reply}
use Rattle.mt_types.specs.declared.event.Request.{Request}
use Rattle.mt_types.specs.declared.event.Request.TheVariants.{Remove, Tidy}
use Rattle.mt_index.specs.Alone.{IsQuiet}
use Rattle.mt_walk.specs.Emptied.{IsEmptied}
use Rattle.mt_walk.specs.Removes.{RemovesNone, RemovesWithin}
use Rattle.mt_walk.specs.declared.place.TheConstants.{MAX_TIDIES}
use Rattle.mt_shared.specs.Inner.{InnerView, IsInner}
use Rattle.mt_shared.specs.Passes.{PassView}
use Rattle.mt_shared.specs.Drives.{EventLaw, IsDrive}
use Rattle.mt_shared.specs.Changes.{IsDriveKept, has_changed}

-- ---- a look

-- what a look says of a key's border, of what is shared, S
abbrev pub LookLaw : Type 0 → Type 1
LookLaw S = S → List ℕ → Bool → Type 0

-- A LOOK at a key's border, if tidies follow removes: whether it is empty. While a put, remove or tidy is open, it isn't
-- looked at, and counts as empty.
abbrev pub Looks : LookLaw InnerView
Looks s key empty =
    MatchBool s.tidies ((IsQuiet s.machine × IsEmptied s.machine.tree key empty)
    ⊎ ((IsQuiet s.machine → ⊥) × (empty ≡ true))) (empty ≡ false)

-- the same of something that the lock keeps
pub record LooksSomewhere (key : List ℕ) (empty : Bool) : Type 0 where
  pub kept : InnerView
  pub keeps : IsInner kept
  pub looks : Looks kept key empty

-- ---- tidies

-- a tidy took something out
abbrev pub takes_out : Answer → Bool
takes_out (Tidied Nothing) = false
takes_out (Tidied rule) = true
takes_out _ = false

abbrev pub has_taken_out : Result Reply Refusal → Bool
has_taken_out (Ok reply) = takes_out reply.answer
has_taken_out (Err refusal) = false

-- a tidy was driven at a place, and took something out, or not; or memory for its key was refused, and there was none
abbrev pub TidiesOnce : {S : Type 0} → EventLaw S → S → PassView → List ℕ → Bool → S → PassView → Type 0
TidiesOnce does s p key took t q =
    ((result : Result Reply Refusal) × IsDrive does s p (Tidy key) result t q × (took ≡ has_taken_out result))
    ⊎ ((took ≡ false) × (t ≡ s) × (q ≡ p))

-- this many tidies at a place, one after the other, each of which took something out and left the border there empty, as
-- a look says
abbrev pub Tidies : {S : Type 0} → EventLaw S → LookLaw S → S → PassView → List ℕ → ℕ → S → PassView → Type 0
Tidies does looks s p key zero t q = (t ≡ s) × (q ≡ p)
Tidies {S} does looks s p key (suc tidies) t q =
    (m : S) × (r : PassView) × Tidies does looks s p key tidies m r × TidiesOnce does m r key true t q × looks t key true

-- a last tidy: it took nothing out, or a look says that the border isn't empty after it
abbrev pub TidiesLast : {S : Type 0} → EventLaw S → LookLaw S → S → PassView → List ℕ → S → PassView → Type 0
TidiesLast does looks s p key t q =
    (took : Bool) × TidiesOnce does s p key took t q × MatchBool took (looks t key false) (Unit {0})

-- TIDIES AT A PLACE, one after the other, until one takes nothing out or the border isn't empty any more, but at most
-- MAX_TIDIES
abbrev pub TidiesAll : {S : Type 0} → EventLaw S → LookLaw S → S → PassView → List ℕ → S → PassView → Type 0
TidiesAll {S} does looks s p key t q = Tidies does looks s p key MAX_TIDIES t q
    ⊎ ((tidies : ℕ) × (tidies < MAX_TIDIES) × (m : S) × (r : PassView) × Tidies does looks s p key tidies m r
    × TidiesLast does looks m r key t q)

-- the epoch advances, and the nodes are freed that no open call can still visit
abbrev pub Frees : {S : Type 0} → EventLaw S → S → PassView → S → PassView → Type 0
Frees {S} does s p t q =
    (m : S) × (r : PassView) × (next : Outcome) × (freed : Outcome) × does s p Advance next m r
    × does m r Collect freed t q

-- tidies, and then the nodes are freed that they took out
abbrev pub Purges : {S : Type 0} → EventLaw S → LookLaw S → S → PassView → List ℕ → S → PassView → Type 0
Purges {S} does looks s p key t q = (m : S) × (r : PassView) × TidiesAll does looks s p key m r × Frees does m r t q

-- this follows if the key's border is empty, as a look says, and else nothing
abbrev pub PurgesIfEmptied : {S : Type 0} → EventLaw S → LookLaw S → S → PassView → List ℕ → S → PassView → Type 0
PurgesIfEmptied does looks s p key t q =
    (empty : Bool) × looks s key empty × MatchBool empty (Purges does looks s p key t q) ((t ≡ s) × (q ≡ p))

-- after a remove
abbrev pub PurgesAfter : {S : Type 0} → EventLaw S → LookLaw S → Request → S → PassView → S → PassView → Type 0
PurgesAfter does looks (Remove key) s p t q =
    PurgesIfEmptied does looks s p key t q ⊎ (RemovesNone (Remove key) × (t ≡ s) × (q ≡ p))
PurgesAfter does looks request s p t q = (t ≡ s) × (q ≡ p)

-- memory for a copy of the key of a remove was refused before it: then nothing happened
abbrev pub IsShort : {S : Type 0} → S → PassView → Request → Result Reply Refusal → S → PassView → Type 0
IsShort s p request result t q = RemovesWithin request × (result ≡ Err NoMemory) × (t ≡ s) × (q ≡ p)

-- A CALL, ITS VIEWS AND ITS TIDIES: the call is driven; if it has changed a row or built a view, views are then kept up;
-- and if it was a remove, tidies follow
abbrev pub IsDriveTidied : {S : Type 0} → EventLaw S → LookLaw S → S → PassView → Request → ℕ → Result Reply Refusal → S
    → PassView → Type 0
IsDriveTidied {S} does looks s p request most result t q =
    ((m : S) × (r : PassView) × IsDriveKept does s p request most result m r
    × MatchBool (has_changed result) (PurgesAfter does looks request m r t q) ((t ≡ m) × (q ≡ r)))
    ⊎ IsShort s p request result t q

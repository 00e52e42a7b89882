-- A map as contracts see it, and the tidies that follow a remove.
use Rattle.std.specs.Prelude.{ℕ, zero, suc, ◌≡◌, ◌≢◌, ◌<◌, ◌≤◌, ◌⊎◌, ◌&&◌, Bool, false, List, Option, None, Result, Ok, Err, MatchBool, is_some}
use Rattle.mt_types.specs.Limits.{key_fault, request_fault}
use Rattle.mt_types.specs.declared.refusal.Refusal.{Refusal}
use Rattle.mt_types.specs.declared.refusal.Refusal.TheVariants.{NoMemory}
use Rattle.mt_types.specs.declared.event.Answer.{Answer}
use Rattle.mt_types.specs.declared.event.Answer.TheVariants.{Tidied}
use Rattle.mt_types.specs.declared.event.Event.{Event}
use Rattle.mt_types.specs.declared.event.Event.TheVariants.{Collect}
use Rattle.mt_types.specs.declared.event.Outcome.{Outcome}
use Rattle.mt_types.specs.declared.event.Outcome.TheVariants.{Freed}
use Rattle.mt_types.specs.declared.event.Request.{Request}
use Rattle.mt_types.specs.declared.event.Request.TheVariants.{Remove, Tidy}
use Rattle.mt_types.specs.declared.event.TidyRule.{TidyRule}
use Rattle.mt_types.specs.declared.event.TidyRule.TheVariants.{Nothing}
use Rattle.mt_index.specs.Events.{Makes}
use Rattle.mt_index.specs.Stands.{MachineView}
use Rattle.mt_walk.specs.Emptied.{IsEmptied}
use Rattle.mt_walk.specs.declared.place.TheConstants.{MAX_TIDIES}
use Rattle.mt_map.specs.Calls.{CameTo, removed_by}

-- a machine on which no call is open, and whether tidies follow its removes
pub record MapView : Type 0 where
  pub machine : MachineView
  pub tidies : Bool

-- this many tidies at a place, one after the other, each of which took something out
abbrev pub Tidies : ℕ → MachineView → List ℕ → MachineView → Type 0
Tidies zero s key t = t ≡ s
Tidies (suc tidies) s key t = (m : MachineView) × (rule : TidyRule) × Tidies tidies s key m
    × CameTo m (Tidy key) (Ok (Tidied rule)) t × (rule ≢ Nothing)

-- a tidy at a place took something out, or nothing, or was refused
abbrev pub TidiesOnce : MachineView → List ℕ → Bool → MachineView → Type 0
TidiesOnce s key took t =
    MatchBool took ((rule : TidyRule) × CameTo s (Tidy key) (Ok (Tidied rule)) t × (rule ≢ Nothing))
    (CameTo s (Tidy key) (Ok (Tidied Nothing)) t ⊎ ((refusal : Refusal) × CameTo s (Tidy key) (Err refusal) t))

-- TIDIES AT A PLACE, one after the other, until one takes nothing out, but at most MAX_TIDIES. After one that takes
-- something out there is no other if the border isn't empty any more, or if memory for one more copy of the key is
-- refused.
abbrev pub TidiesAll : MachineView → List ℕ → MachineView → Type 0
TidiesAll s key t = ((tidies : ℕ) × (0 < tidies) × (tidies ≤ MAX_TIDIES) × Tidies tidies s key t)
    ⊎ ((tidies : ℕ) × (m : MachineView) × (tidies < MAX_TIDIES) × Tidies tidies s key m × TidiesOnce m key false t)

-- and then the nodes are freed that they took out
pub record Purges (s : MachineView) (key : List ℕ) (t : MachineView) : Type 0 where
  pub tidied : MachineView
  pub tidies : TidiesAll s key tidied
  pub count : ℕ
  pub frees : Makes tidied Collect (Freed count) t

-- this follows if the border in which the key's way ends is empty, and else nothing
abbrev pub PurgesIfEmptied : MachineView → List ℕ → MachineView → Type 0
PurgesIfEmptied s key t = (empty : Bool) × IsEmptied s.tree key empty × MatchBool empty (Purges s key t) (t ≡ s)

-- ---- calls of a map

-- WHAT A CALL OF A MAP CAME TO (see `CameTo`); whether tidies follow removes is as before
pub record MapCameTo (s : MapView) (request : Request) (result : Result Answer Refusal) (t : MapView) : Type 0 where
  pub came : CameTo s.machine request result t.machine
  pub tidies : t.tidies ≡ s.tidies

-- WHAT A CALL OF A MAP CAME TO whose bytes are borrowed (see `CameTo`). It is also refused if memory for a copy of them
-- was refused: then it breaks no limit, and nothing happened.
abbrev pub MapComesTo : MapView → Request → Result Answer Refusal → MapView → Type 0
MapComesTo s request result t = MapCameTo s request result t
    ⊎ ((result ≡ Err NoMemory) × (request_fault s.machine.columns request ≡ None) × (t ≡ s))

-- an event happens to the machine of a map; whether tidies follow removes is as before
pub record MapMakes (s : MapView) (event : Event) (outcome : Outcome) (t : MapView) : Type 0 where
  pub makes : Makes s.machine event outcome t.machine
  pub tidies : t.tidies ≡ s.tidies

-- A REMOVE THAT WAS ANSWERED, and what followed if it removed a row and tidies follow removes
pub record RemovesAndTidies (s : MapView) (key : List ℕ) (found : Option ℕ) (t : MapView) : Type 0 where
  pub removed : MachineView
  pub came : CameTo s.machine (Remove key) (removed_by (Ok found)) removed
  pub then : MatchBool (s.tidies && is_some found) (PurgesIfEmptied removed key t.machine) (t.machine ≡ removed)
  pub tidies : t.tidies ≡ s.tidies

-- WHAT A REMOVE CAME TO. It is also refused if memory for a copy of the key was refused: then nothing happened.
abbrev pub Removes : MapView → List ℕ → Result (Option ℕ) Refusal → MapView → Type 0
Removes s key (Ok found) t = RemovesAndTidies s key found t
Removes s key (Err refusal) t = MapCameTo s (Remove key) (Err refusal) t
    ⊎ ((refusal ≡ NoMemory) × (key_fault key ≡ None) × (t ≡ s))

-- WHAT A CHANGE CAME TO that was asked for in borrowed bytes
abbrev pub ChangeComesTo : MapView → Request → Result Answer Refusal → MapView → Type 0
ChangeComesTo s (Remove key) result t =
    (found : Result (Option ℕ) Refusal) × (result ≡ removed_by found) × Removes s key found t
ChangeComesTo s request result t = MapComesTo s request result t

-- What the code keeps while it judges: the log that is read, and the states of views that it walks on.
use Rattle.std.specs.Prelude.{ℕ, ◌-◌, ◌≡◌, ◌<◌, ◌≤◌, ◌↔◌, Bool, true, false, List, take, All, length, slice_get, slice_index_or, Some, None}
use Rattle.mt_types.specs.Rows.{new_columns, columns_before, version_of}
use Rattle.mt_types.specs.declared.row.Change.{Change}
use Rattle.mt_types.specs.declared.row.Change.TheVariants.{Put, Drop}
use Rattle.mt_types.specs.declared.row.Delta.{Delta}
use Rattle.mt_types.specs.declared.view.ViewSpec.{ViewSpec}
use Rattle.mt_view.specs.State.{StateView, IsAfresh}
use Rattle.mt_check.specs.Receipts.{IsSoundLog, rows_at, IsSound, claim, IsClaimed, ClaimsAgain}
use Rattle.mt_check.specs.Versions.{AreVersions}
use Rattle.mt_check.specs.declared.versions.Versions.{Versions}
use Rattle.mt_check.specs.declared.pages.Standing.{Standing}
use Rattle.mt_check.specs.declared.receipt.Receipt.{Receipt}

-- the log is sound, and the versions are its deltas'
pub record IsRead (deltas : List Delta) (versions : Versions) : Type 0 where
  pub sound : IsSoundLog deltas
  pub are : AreVersions deltas versions

-- a delta leaves what the change makes of its row before
abbrev pub MadeBy : ℕ → Delta → Change → Type 0
MadeBy C delta (Put key sets) =
    (delta.key ≡ key)
    × (delta.after
    ≡ Some (record { version = delta.number; columns = new_columns sets 0 (columns_before C delta.before) }))
MadeBy C delta (Drop key) = (delta.key ≡ key) × (delta.after ≡ None)

-- and its row before is of this version; 0: there is none
abbrev pub MadeOver : ℕ → Delta → Change → ℕ → Type 0
MadeOver C delta change version = MadeBy C delta change × (version_of delta.before ≡ version)

-- the state of a view over the log's rows at its number
pub record IsStanding (C : ℕ) (deltas : List Delta) (wanted : ViewSpec) (state : StateView) : Type 0 where
  pub spec : state.spec ≡ wanted
  pub columns : state.columns ≡ C
  pub reached : state.at ≤ length deltas
  pub afresh : IsAfresh state (rows_at deltas state.at)

-- each state stands so
abbrev pub AllStand : ℕ → List Delta → List Standing → Type 0
AllStand C deltas states = All (λ standing. IsStanding C deltas standing.spec standing.state) states

-- the number that the receipt claims, if it does, is one of the log's
abbrev pub ClaimsWithin : ℕ → Receipt → Type 0
ClaimsWithin commits receipt = (number : ℕ) → claim receipt ≡ Some number → (0 < number) × (number ≤ commits)

-- marks at the places of the numbers that these receipts claim
abbrev pub AreClaims : List Receipt → List Bool → Type 0
AreClaims receipts marks =
    (number : ℕ) → 0 < number → number ≤ length marks
    → (slice_index_or marks (number - 1) false ≡ true) ↔ IsClaimed receipts number

-- each of the first n receipts is sound, and claims no number again
abbrev pub AreRight : ℕ → List Delta → List Receipt → ℕ → Type 0
AreRight C deltas receipts count =
    (i : ℕ) (receipt : Receipt) → i < count → slice_get receipts i ≡ Some receipt
    → IsSound C deltas receipt × ¬ ClaimsAgain (take i receipts) receipt

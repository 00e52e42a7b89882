-- A row that is read into a buffer, case by case.
use Rattle.std.proofs.Common.{◌≡◌, ◌*◌, ◌≤◌, ℕ, List, [], ◌∷◌, length, refl, sym, ap, arith, length-append}
use Rattle.std.specs.List.{AllByRecursion, flat_map}
use Rattle.std.specs.Prelude.{Result, Ok, Err, Option, Some, None, MatchOption}
use Rattle.std.specs.Option.{option_map, option_or}
use Rattle.std.specs.FinMap.{get}
use Rattle.mt_types.specs.Rows.{shown}
use Rattle.mt_types.specs.Limits.{columns_fault, key_fault, request_fault}
use Rattle.mt_types.specs.Limited.{ColumnIsLimited, RowIsLimited}
use Rattle.mt_types.specs.declared.event.Answer.TheVariants.{Found}
use Rattle.mt_types.specs.declared.event.Request.TheVariants.{Get}
use Rattle.mt_types.specs.declared.refusal.Refusal.{Refusal}
use Rattle.mt_types.specs.declared.row.Row.{Row}
use Rattle.mt_promise.specs.History.{History, moment, rows}
use Rattle.mt_promise.proofs.LimitedLemmas.{plain_answers_are_limited}
use Rattle.mt_index.specs.Stands.{MachineView, Stands}
use Rattle.rowanspan_c.specs.Questions.{ReadsRow}
use Rattle.rowanspan_c.specs.Spelling.{bytes_spelling, row_spelling}
use Rattle.rowanspan_c.specs.Told.{HandsOut, Tells, TellsRead, TellsRefusal}
use Rattle.rowanspan_c.specs.declared.status.TheConstants.{ABSENT}

-- a row that keeps its limits has up to 72 bytes a column
columns_most : (columns : List (List ℕ)) → AllByRecursion ColumnIsLimited columns → length (flat_map bytes_spelling columns) ≤ 72 * length columns
columns_most [] limited = omega arith
columns_most (column ∷ columns) limited =
    let short = limited.0 in
    let rest = columns_most columns limited.1 in
    let both = length-append (bytes_spelling column) (flat_map bytes_spelling columns) in omega (arith, short, rest, both)

pub row_most : (row : Row) → RowIsLimited row → length (flat_map bytes_spelling row.columns) ≤ 1152
row_most row limited =
    let few = limited.0 in
    let most = columns_most row.columns limited.1 in omega (arith, few, most)

-- what holds of a get whose key isn't too long holds of one that breaks no limit
pub never_long : (s : MachineView) (key asked : List ℕ) (P : Type 0) (Q : Refusal → Type 0) → request_fault s.columns (Get key asked) ≡ None
    → MatchOption (key_fault key) P Q → P
never_long s key asked P Q fits matched = go (key_fault key) fits matched
  where
    go : (fault : Option Refusal) → option_or fault (columns_fault s.columns asked) ≡ None → MatchOption fault P Q → P
    go None none found = found
    go (Some due) none found = absurd (let clash : ◌≡◌ {A = Option Refusal} (Some due) None = none in cc)

module _ (s : MachineView) (key asked old new : List ℕ) (status told : ℕ) where
  abbrev pub IsAnswered : Type 0
  IsAnswered = (read : Result (Option (List ℕ)) Refusal) × ReadsRow s key asked read × TellsRead read old new status told

  abbrev pub Has : Option Row → Type 0
  Has found = (h : History) → Stands s h → found ≡ get (rows s.columns (moment h)) key

  abbrev pub fault : Option Refusal
  fault = request_fault s.columns (Get key asked)

  -- a row that the index has, as it is shown
  pub row_limited : (row : Row) → (h : History) × Stands s h → Has (Some row) → fault ≡ None → RowIsLimited (shown asked row)
  row_limited row (h, stands) has fits =
      plain_answers_are_limited s.columns h (Get key asked) (Found (shown asked row)) stands.few stands.legal fits ((row, sym (has h stands), refl), refl)

  pub refused : (refusal : Refusal) → fault ≡ Some refusal → new ≡ old → TellsRefusal refusal status told → IsAnswered
  refused refusal caused same tells = (Err refusal, caused, (same, tells))

  pub absent : Has None → fault ≡ None → new ≡ old → Tells ABSENT 0 status told → IsAnswered
  absent none fits same tells =
      (Ok None, (None, (λ h stands. ap (option_map (shown asked)) (none h stands)), refl, fits), (same, tells))

  pub found : (row : Row) → Has (Some row) → fault ≡ None → HandsOut (row_spelling (shown asked row)) old new status told → IsAnswered
  found row has fits hands = (
    Ok (Some (row_spelling (shown asked row))),
    (Some (shown asked row), (λ h stands. ap (option_map (shown asked)) (has h stands)), refl, fits),
    hands,
  )

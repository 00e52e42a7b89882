-- The rows of a range back are written as a walk back returns them.
use Rattle.std.proofs.Common.{ℕ, ◌≡◌, ◌≤◌, ◌+◌, List, [], ◌∷◌, ◌++◌, length, append-nil, refl, sym, ap, ◌∙◌}
use Rattle.std.specs.Prelude.{Option, Some, None, IfSome}
use Rattle.std.specs.List.{flat_map}
use Rattle.std.proofs.lemmas.List.{flat_map_more}
use Rattle.mt_types.specs.Rows.{shown}
use Rattle.mt_types.specs.declared.row.Row.{Row}
use Rattle.mt_promise.specs.History.{History, moment, rows}
use Rattle.mt_index.specs.Stands.{MachineView, Stands}
use Rattle.mt_reads.specs.Back.{BackView, GivesPrevious}
use Rattle.mt_reads.proofs.RangeBackLemmas.{IsReturning, returning_begins, returning_goes, returning_ends, returning_fills}
use Rattle.rowanspan_c.specs.Questions.{ArePlainRowsBack}
use Rattle.rowanspan_c.specs.Spelling.{bytes_spelling, row_spelling, pair_spelling}

module _ (s : MachineView) (before : Option (List ℕ)) (asked old : List ℕ) where
  -- the `many` rows that the walk has returned are written after the bytes that were there
  pub record IsWritingBack (walk : BackView) (new : List ℕ) (many : ℕ) : Type 0 where
    pub pairs : List (List ℕ × Row)
    pub returning : IsReturning s asked before walk pairs many
    pub written : new ≡ old ++ flat_map pair_spelling pairs

  -- a range's rows are written
  abbrev pub IsWrittenBack : ℕ → List ℕ → ℕ → Type 0
  IsWrittenBack limit new many =
      (pairs : List (List ℕ × Row)) × ArePlainRowsBack s before limit asked pairs × (length pairs ≡ many)
      × (new ≡ old ++ flat_map pair_spelling pairs)

  pub back_begins : (walk : BackView) → walk.machine ≡ s → walk.before ≡ before → IsWritingBack walk old 0
  back_begins walk same begins = record {
    pairs = [];
    returning = returning_begins s asked before walk [] same begins refl;
    written = sym (append-nil old);
  }

  pub back_goes : (walk next : BackView) (mid new key : List ℕ) (many : ℕ) (row : Row) → IsWritingBack walk mid many
      → ((h : History) → Stands walk.machine h → GivesPrevious (rows walk.machine.columns (moment h)) walk.before (Some row) next.before) → next.machine ≡ walk.machine
      → IfSome next.before (λ x. key ≡ x) → new ≡ mid ++ (bytes_spelling key ++ row_spelling (shown asked row)) → IsWritingBack next new (many + 1)
  back_goes walk next mid new key many row w gives same key_is wrote = record {
    pairs = w.pairs ++ (key, shown asked row) ∷ [];
    returning = returning_goes s asked before walk next w.pairs many w.returning row key (w.pairs ++ (key, shown asked row) ∷ []) gives same key_is refl;
    written =
        wrote
        ∙ ap (λ (bytes : List ℕ). bytes ++ pair_spelling (key, shown asked row)) w.written
        ∙ flat_map_more pair_spelling old w.pairs (key, shown asked row);
  }

  pub back_ends : (walk next : BackView) (new : List ℕ) (many limit : ℕ) → IsWritingBack walk new many → many ≤ limit
      → ((h : History) → Stands walk.machine h → GivesPrevious (rows walk.machine.columns (moment h)) walk.before None next.before) → IsWrittenBack limit new many
  back_ends walk next new many limit w few gives =
      (w.pairs, returning_ends s asked before walk next w.pairs many w.returning limit few gives, w.returning.count, w.written)

  pub back_fills : (walk : BackView) (new : List ℕ) (many limit : ℕ) → IsWritingBack walk new many → many ≡ limit → IsWrittenBack limit new limit
  back_fills walk new many limit w full =
      (w.pairs, returning_fills s asked before walk walk w.pairs many w.returning limit full, w.returning.count ∙ full, w.written)

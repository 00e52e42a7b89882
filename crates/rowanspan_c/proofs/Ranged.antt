-- The rows of a range are written as a walk gives them.
use Rattle.std.proofs.Common.{ℕ, ◌≡◌, ◌≤◌, ◌+◌, List, [], ◌∷◌, ◌++◌, length, append-nil, refl, sym, ap, subst, ◌∙◌, false, arith}
use Rattle.std.specs.Prelude.{Some, None}
use Rattle.std.specs.List.{flat_map}
use Rattle.std.proofs.lemmas.List.{length-append, flat_map_more}
use Rattle.mt_types.specs.Rows.{shown}
use Rattle.mt_types.specs.declared.row.Row.{Row}
use Rattle.mt_promise.specs.History.{History, moment, rows}
use Rattle.mt_index.specs.Stands.{MachineView, Stands}
use Rattle.mt_reads.specs.Walks.{At, RowsView, GivesNext}
use Rattle.mt_reads.proofs.Ranges.{IsRanging, ranging_begins, ranging_goes, ranging_ends, ranging_fills}
use Rattle.rowanspan_c.specs.Questions.{ArePlainRows}
use Rattle.rowanspan_c.specs.Spelling.{bytes_spelling, row_spelling, pair_spelling}

module _ (s : MachineView) (start asked old : List ℕ) where
  -- the `many` rows that the walk has given are written after the bytes that were there
  pub record IsWriting (walk : RowsView) (new : List ℕ) (many : ℕ) : Type 0 where
    pub machine : walk.machine ≡ s
    pub pairs : List (List ℕ × Row)
    pub ranging : (h : History) → Stands s h → IsRanging (rows s.columns (moment h)) asked start walk.at pairs
    pub count : length pairs ≡ many
    pub written : new ≡ old ++ flat_map pair_spelling pairs

  -- a range's rows are written
  abbrev pub IsWritten : ℕ → List ℕ → ℕ → Type 0
  IsWritten limit new many =
      (pairs : List (List ℕ × Row)) × ArePlainRows s start limit asked pairs × (length pairs ≡ many)
      × (new ≡ old ++ flat_map pair_spelling pairs)

  pub writing_begins : (walk : RowsView) → walk.machine ≡ s → walk.at ≡ record { key = start; given = false } → IsWriting walk old 0
  writing_begins walk same begins = record {
    machine = same;
    pairs = [];
    ranging = λ h stands. subst (λ (at : At). IsRanging (rows s.columns (moment h)) asked start at []) (sym begins) (ranging_begins (rows s.columns (moment h)) asked start);
    count = refl;
    written = sym (append-nil old);
  }

  pub writing_goes : (walk next : RowsView) (mid new key : List ℕ) (many : ℕ) (row : Row) → IsWriting walk mid many
      → ((h : History) → Stands walk.machine h → GivesNext (rows walk.machine.columns (moment h)) walk.at (Some row) next.at) → next.machine ≡ walk.machine
      → key ≡ next.at.key → new ≡ mid ++ (bytes_spelling key ++ row_spelling (shown asked row)) → IsWriting next new (many + 1)
  writing_goes walk next mid new key many row w gives same key_is wrote = record {
    machine = same ∙ w.machine;
    pairs = w.pairs ++ (next.at.key, shown asked row) ∷ [];
    ranging = λ h stands. ranging_goes (rows s.columns (moment h)) asked start walk.at next.at w.pairs row (w.ranging h stands) (at_machine h stands);
    count = length-append w.pairs ((next.at.key, shown asked row) ∷ []) ∙ ap (λ (n : ℕ). n + 1) w.count;
    written =
        subst (λ (k : List ℕ). new ≡ mid ++ (bytes_spelling k ++ row_spelling (shown asked row))) key_is wrote
        ∙ ap (λ (bytes : List ℕ). bytes ++ pair_spelling (next.at.key, shown asked row)) w.written
        ∙ flat_map_more pair_spelling old w.pairs (next.at.key, shown asked row);
  }
    where
      at_machine : (h : History) → Stands s h → GivesNext (rows s.columns (moment h)) walk.at (Some row) next.at
      at_machine = subst (λ (m : MachineView). (h : History) → Stands m h → GivesNext (rows m.columns (moment h)) walk.at (Some row) next.at) w.machine gives

  pub writing_ends : (walk next : RowsView) (new : List ℕ) (many limit : ℕ) → IsWriting walk new many → many ≤ limit
      → ((h : History) → Stands walk.machine h → GivesNext (rows walk.machine.columns (moment h)) walk.at None next.at) → IsWritten limit new many
  writing_ends walk next new many limit w few gives = (
    w.pairs,
    (λ h stands. ranging_ends (rows s.columns (moment h)) asked start walk.at next.at w.pairs limit (w.ranging h stands) (let count = w.count in omega (arith, few, count)) (at_machine h stands)),
    w.count,
    w.written,
  )
    where
      at_machine : (h : History) → Stands s h → GivesNext (rows s.columns (moment h)) walk.at None next.at
      at_machine = subst (λ (m : MachineView). (h : History) → Stands m h → GivesNext (rows m.columns (moment h)) walk.at None next.at) w.machine gives

  pub writing_fills : (walk : RowsView) (new : List ℕ) (many limit : ℕ) → IsWriting walk new many → many ≡ limit → IsWritten limit new limit
  writing_fills walk new many limit w full = (
    w.pairs,
    (λ h stands. ranging_fills (rows s.columns (moment h)) asked start walk.at w.pairs limit (w.ranging h stands) (w.count ∙ full)),
    w.count ∙ full,
    w.written,
  )

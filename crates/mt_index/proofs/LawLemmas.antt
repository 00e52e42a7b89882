-- What the log of a machine at a history determines.
use Rattle.std.proofs.Common.{◌≡◌, ℕ, zero, suc, [], ◌∷◌, ◌+◌, ◌-◌, List, length, drop, take, reverse, ap, sym, refl, ◌∙◌, subst, arith}
use Rattle.std.specs.Prelude.{slice_get, min}
use Rattle.std.specs.FinMap.{get, empty}
use Rattle.mt_types.specs.Rows.{Rows, after, after_change}
use Rattle.mt_types.specs.declared.row.Change.{Change}
use Rattle.mt_types.specs.declared.row.Delta.{Delta}
use Rattle.std.proofs.lemmas.List.{drop-drop}
use Rattle.mt_promise.specs.History.{History, moment, rows}
use Rattle.mt_commit.specs.Deltas.{FitsNewestFirst, rows_before}
use Rattle.mt_commit.specs.Logged.{key_of, delta_made, deltas_of}
use Rattle.mt_index.specs.Laws.{LogTellsThePast, LogFits, EachCommitIsLogged}
use Rattle.mt_commit.specs.Log.{LogView, newest, slowest, kept_after}
use Rattle.mt_commit.proofs.RowLemmas.{trimming_fits}
use Rattle.mt_promise.specs.Legal.{held_from}
use Rattle.mt_index.specs.Stands.{MachineView}
use Rattle.mt_index.proofs.LogStands.{slowest_is}
use Rattle.mt_commit.proofs.DeltaLemmas.{deltas_of-length, redone, last_undone, all_fit, delta_at, taken_more}

pub log_tells_the_past : LogTellsThePast
log_tells_the_past s h number st reaches =
    let all : s.log.held_after + (number - s.log.held_after) ≡ number = omega (arith, reaches) in
    ap (λ (ds : List Delta). rows_before (reverse (drop (number - s.log.held_after) ds)) (rows s.columns (moment h))) st.logged
    ∙ ap (λ (ds : List Delta). rows_before (reverse ds) (rows s.columns (moment h))) (drop-drop (number - s.log.held_after) s.log.held_after (deltas_of s.columns (moment h).commits))
    ∙ ap (λ (m : ℕ). rows_before (reverse (drop m (deltas_of s.columns (moment h).commits))) (rows s.columns (moment h))) all
    ∙ last_undone s.columns 0 empty (moment h).commits number

-- the log, were none of its deltas trimmed
abbrev whole : MachineView → History → LogView
whole s h = record s.log { held_after = 0; deltas = deltas_of s.columns (moment h).commits }

minus_zero : (n : ℕ) → n - 0 ≡ n
minus_zero n = omega arith

pub log_fits : LogFits
log_fits s h st =
    let deltas = deltas_of-length s.columns (moment h).commits in
    let as_many : newest (whole s h) ≡ length (moment h).commits = omega (arith, deltas) in
    let bound : min (slowest (whole s h)) (kept_after s.log (newest (whole s h))) - 0 ≡ s.log.held_after =
    minus_zero (min (slowest (whole s h)) (kept_after s.log (newest (whole s h)))) ∙ ap (λ (m : ℕ). min m (kept_after s.log (newest (whole s h)))) (slowest_is (whole s h) (moment h) as_many st.held) ∙ ap (λ (m : ℕ). min (held_from (moment h)) (kept_after s.log m)) as_many ∙ sym st.trimmed in
    subst (λ (ds : List Delta). FitsNewestFirst (reverse ds) (rows s.columns (moment h)))
    (ap (λ (m : ℕ). drop m (deltas_of s.columns (moment h).commits)) bound ∙ sym st.logged)
    (trimming_fits (whole s h) (rows s.columns (moment h)) (all_fit s.columns 0 empty (moment h).commits))

pub slice_get-drop : (n i : ℕ) (l : List Delta) → slice_get (drop n l) i ≡ slice_get l (n + i)
slice_get-drop zero i l = let e : i ≡ 0 + i = omega arith in ap (slice_get l) e
slice_get-drop (suc n) i [] = refl
slice_get-drop (suc n) i (d ∷ l) = let e : suc (n + i) ≡ suc n + i = omega arith in slice_get-drop n i l ∙ ap (slice_get (d ∷ l)) e

pub each_commit_is_logged : EachCommitIsLogged
each_commit_is_logged s h done change st reaches is =
    let commits : List Change = (moment h).commits in
    let place : s.log.held_after + (done + 1 - s.log.held_after - 1) ≡ done = omega (arith, reaches) in
    let next : 0 + done + 1 ≡ done + 1 = omega arith in
    let more : suc done ≡ done + 1 = omega arith in
    let old : Rows = after s.columns (take done commits) in
    let then : after s.columns (take (done + 1) commits) ≡ after_change s.columns (0 + done + 1) change old =
    ap (λ (m : ℕ). after s.columns (take m commits)) (sym more) ∙ taken_more s.columns 0 empty commits done change is in (
      delta_made s.columns (0 + done + 1) change old,
      ap (λ (ds : List Delta). slice_get ds (done + 1 - s.log.held_after - 1)) st.logged
          ∙ slice_get-drop s.log.held_after (done + 1 - s.log.held_after - 1) (deltas_of s.columns commits)
          ∙ ap (slice_get (deltas_of s.columns commits)) place ∙ delta_at s.columns 0 empty commits done change is,
      record {
        number = next;
        key = refl;
        before = refl;
        then = ap (λ (rs : Rows). get rs (key_of change)) (sym then);
        made = then ∙ redone s.columns (0 + done + 1) change old;
      },
    )

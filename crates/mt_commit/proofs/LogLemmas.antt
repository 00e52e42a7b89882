-- What the calls of a log leave as it has to be.
use Rattle.std.proofs.Common.{◌≡◌, ℕ, zero, suc, ◌+◌, ◌-◌, ◌^◌, ◌<◌, ◌≤◌, true, false, List, [], ◌∷◌, ◌++◌, length, drop, min, Some, ap, sym, ◌∙◌, subst, arith, length-append, length-drop}
use Rattle.std.specs.Prelude.{All, slice_get, cond, nat_le, ◌==◌}
use Rattle.std.specs.List.{AllByRecursion}
use Rattle.std.proofs.lemmas.List.Elements.{All-from_recursion, recursion_from_All, All-weaker}
use Rattle.std.proofs.Math.Nat.{min-le_left, min-le_right, le-min}
use Rattle.mt_types.specs.Numbers.{least}
use Rattle.mt_types.specs.declared.row.Delta.{Delta}
use Rattle.mt_commit.specs.Holders.{with_holder, without_holder}
use Rattle.mt_commit.specs.Log.{LogView, IsLog, Numbered, newest, slowest, kept_after, begun_after}

pub least_within : (best : ℕ) (numbers : List ℕ) → least best numbers ≤ best
least_within best [] = omega arith
least_within best (n ∷ numbers) = let k = least_within (min best n) numbers in let m = min-le_left best n in omega (arith, k, m)

pub least_from : (low best : ℕ) (numbers : List ℕ) → low ≤ best → AllByRecursion (λ n. low ≤ n) numbers → low ≤ least best numbers
least_from low best [] h all = h
least_from low best (n ∷ numbers) h all = least_from low (min best n) numbers (le-min h all.0) all.1

pub slowest_within : (log : LogView) → slowest log ≤ newest log
slowest_within log = least_within (newest log) log.holders

pub held_by_slowest : (log : LogView) → IsLog log → log.held_after ≤ slowest log
held_by_slowest log is =
    least_from log.held_after (newest log) log.holders (omega arith) (recursion_from_All (λ n. log.held_after ≤ n) log.holders is.holders_from)

-- what holds of the holders and of a new one holds of them together
all_with : (P : ℕ → Type 0) (n : ℕ) (holders : List ℕ) → P n → AllByRecursion P holders → AllByRecursion P (with_holder n holders)
all_with P n [] p all = (p, tt)
all_with P n (holder ∷ holders) p all =
    elim (nat_le n holder) as (λ b. AllByRecursion P (cond b (n ∷ holder ∷ holders) (holder ∷ with_holder n holders))) [
      | true ↦ (p, all)
      | false ↦ (all.0, all_with P n holders p all.1)
    ]

all_without : (P : ℕ → Type 0) (n : ℕ) (holders : List ℕ) → AllByRecursion P holders → AllByRecursion P (without_holder n holders)
all_without P n [] all = tt
all_without P n (holder ∷ holders) all =
    elim (holder == n) as (λ b. AllByRecursion P (cond b holders (holder ∷ without_holder n holders))) [
      | true ↦ all.1
      | false ↦ (all.0, all_without P n holders all.1)
    ]

All-with : (P : ℕ → Type 0) (n : ℕ) (holders : List ℕ) → P n → All P holders → All P (with_holder n holders)
All-with P n holders p all = All-from_recursion P _ (all_with P n holders p (recursion_from_All P holders all))

All-without : (P : ℕ → Type 0) (n : ℕ) (holders : List ℕ) → All P holders → All P (without_holder n holders)
All-without P n holders all = All-from_recursion P _ (all_without P n holders (recursion_from_All P holders all))

Numbered-append : (n : ℕ) (deltas : List Delta) (delta : Delta) → Numbered n deltas → delta.number ≡ n + length deltas + 1 → Numbered n (deltas ++ delta ∷ [])
Numbered-append n [] delta numbered e = (omega arith, tt)
Numbered-append n (d ∷ deltas) delta numbered e = (numbered.0, Numbered-append (n + 1) deltas delta numbered.1 (omega arith))

Numbered-drop : (k n m : ℕ) (deltas : List Delta) → m ≡ n + k → k ≤ length deltas → Numbered n deltas → Numbered m (drop k deltas)
Numbered-drop zero n m deltas e h numbered = let same : n ≡ m = omega arith in subst (λ x. Numbered x deltas) same numbered
Numbered-drop (suc k) n m [] e h numbered = tt
Numbered-drop (suc k) n m (d ∷ deltas) e h numbered = Numbered-drop k (n + 1) m deltas (omega arith) (omega arith) numbered.1

Numbered-at : (i n : ℕ) (deltas : List Delta) (delta : Delta) → Numbered n deltas → slice_get deltas i ≡ Some delta → delta.number ≡ n + i + 1
Numbered-at i n [] delta numbered e = cc
Numbered-at zero n (d ∷ deltas) delta numbered e = let same : d ≡ delta = cc in subst (λ (x : Delta). x.number ≡ n + 0 + 1) same (omega (arith, numbered.0))
Numbered-at (suc i) n (d ∷ deltas) delta numbered e = let k = Numbered-at i (n + 1) deltas delta numbered.1 e in omega (arith, k)

-- the delta at a place has the number of that place
pub delta_is : (log : LogView) (number : ℕ) (delta : Delta) → IsLog log → log.held_after < number → slice_get log.deltas (number - log.held_after - 1) ≡ Some delta
    → delta.number ≡ number
delta_is log number delta is after e =
    let k = Numbered-at (number - log.held_after - 1) log.held_after log.deltas delta is.numbered e in omega (arith, k)

pub appended_log : (log : LogView) (delta : Delta) (deltas : List Delta) (rows : ℕ) → IsLog log → 0 < log.reserved → delta.number ≡ newest log + 1 → deltas ≡ log.deltas ++ delta ∷ []
    → IsLog (record log { deltas = deltas; reserved = log.reserved - 1; rows = rows })
appended_log log delta deltas rows is reserved next e =
    let long : length deltas ≡ length log.deltas + 1 = ap length e ∙ length-append log.deltas (delta ∷ []) in
    let kept = is.kept in
    let fits = is.fits in
    record {
      numbered = subst (Numbered log.held_after) (sym e) (Numbered-append log.held_after log.deltas delta is.numbered next);
      holders_from = is.holders_from;
      holders_to = All-weaker (λ n. n ≤ newest log) (λ n. n ≤ log.held_after + length deltas) (λ n h. omega arith) log.holders is.holders_to;
      begun = is.begun;
      kept = omega arith;
      fits = omega arith;
    }

pub pinned_log : (log : LogView) (number : ℕ) (holders : List ℕ) → IsLog log → log.held_after ≤ number → number ≤ newest log → holders ≡ with_holder number log.holders
    → IsLog (record log { holders = holders })
pinned_log log number holders is from to e = record {
  numbered = is.numbered;
  holders_from = let P : ℕ → Type 0 = λ n. log.held_after ≤ n in subst (All P) (sym e) (All-with P number log.holders from is.holders_from);
  holders_to = let P : ℕ → Type 0 = λ n. n ≤ newest log in subst (All P) (sym e) (All-with P number log.holders to is.holders_to);
  begun = is.begun;
  kept = is.kept;
  fits = is.fits;
}

pub unpinned_log : (log : LogView) (number : ℕ) (holders : List ℕ) → IsLog log → holders ≡ without_holder number log.holders → IsLog (record log { holders = holders })
unpinned_log log number holders is e = record {
  numbered = is.numbered;
  holders_from = let P : ℕ → Type 0 = λ n. log.held_after ≤ n in subst (All P) (sym e) (All-without P number log.holders is.holders_from);
  holders_to = let P : ℕ → Type 0 = λ n. n ≤ newest log in subst (All P) (sym e) (All-without P number log.holders is.holders_to);
  begun = is.begun;
  kept = is.kept;
  fits = is.fits;
}

pub least_below : (best : ℕ) (numbers : List ℕ) → AllByRecursion (λ n. least best numbers ≤ n) numbers
least_below best [] = tt
least_below best (n ∷ numbers) =
    let k = least_within (min best n) numbers in
    let m = min-le_right best n in
    (omega (arith, k, m), least_below (min best n) numbers)

-- what is left after a trim begins no earlier
pub trim_rises : (log : LogView) (bound : ℕ) → IsLog log → bound ≡ min (slowest log) (kept_after log (newest log)) → log.held_after ≤ bound
trim_rises log bound is e =
    let both : log.held_after ≤ min (slowest log) (kept_after log (newest log)) = le-min (held_by_slowest log is) is.kept in omega arith

-- no delta beyond the newest is dropped
pub trim_drops : (log : LogView) (bound : ℕ) → bound ≡ min (slowest log) (kept_after log (newest log)) → bound - log.held_after ≤ length log.deltas
trim_drops log bound e =
    let a = min-le_left (slowest log) (kept_after log (newest log)) in
    let b = slowest_within log in
    omega (arith, a, b)

pub newest-trimmed : (log : LogView) (bound : ℕ) (deltas : List Delta) → IsLog log → bound ≡ min (slowest log) (kept_after log (newest log))
    → deltas ≡ drop (bound - log.held_after) log.deltas → bound + length deltas ≡ newest log
newest-trimmed log bound deltas is e d =
    let rises = trim_rises log bound is e in
    let drops = trim_drops log bound e in
    let long : length deltas ≡ length log.deltas - (bound - log.held_after) = ap length d ∙ length-drop (bound - log.held_after) log.deltas in
    omega arith

pub trimmed_log : (log : LogView) (bound : ℕ) (deltas : List Delta) → IsLog log → bound ≡ min (slowest log) (kept_after log (newest log))
    → deltas ≡ drop (bound - log.held_after) log.deltas → IsLog (record log { held_after = bound; deltas = deltas })
trimmed_log log bound deltas is e d =
    let rises = trim_rises log bound is e in
    let drops = trim_drops log bound e in
    let stays = newest-trimmed log bound deltas is e d in
    let by_slowest = min-le_left (slowest log) (kept_after log (newest log)) in
    let by_keep = min-le_right (slowest log) (kept_after log (newest log)) in
    let fits = is.fits in
    record {
      numbered = subst (Numbered bound) (sym d) (Numbered-drop (bound - log.held_after) log.held_after bound log.deltas (omega arith) drops is.numbered);
      holders_from = All-weaker (λ n. slowest log ≤ n) (λ n. bound ≤ n) (λ n h. omega (arith, by_slowest)) log.holders
          (All-from_recursion (λ n. slowest log ≤ n) log.holders (least_below (newest log) log.holders));
      holders_to = All-weaker (λ n. n ≤ newest log) (λ n. n ≤ bound + length deltas) (λ n h. omega (arith, stays)) log.holders is.holders_to;
      begun = let begun = is.begun in omega (arith, begun, rises);
      kept = omega (arith, by_keep, stays);
      fits = omega (arith, stays);
    }

-- the bound of a trim, of the log as it is
pub bound_is : (log now : LogView) (slow kept bound : ℕ) → log ≡ now → slow ≡ slowest now → kept ≡ kept_after now (newest now) → bound ≡ min slow kept
    → bound ≡ min (slowest log) (kept_after log (newest log))
bound_is log now slow kept bound same s k e =
    e ∙ ap (λ x. min x kept) (s ∙ sym (ap slowest same)) ∙ ap (min (slowest log)) (k ∙ sym (ap (λ (l : LogView). kept_after l (newest l)) same))

-- a log that begins again has what it needs
pub begun_log : (log : LogView) (number : ℕ) → IsLog log → log.holders ≡ [] → number + log.reserved < 2 ^ 64 → IsLog (begun_after number log)
begun_log log number is unheld fits = record {
  numbered = tt;
  holders_from = let P : ℕ → Type 0 = λ n. number ≤ n in subst (All P) (sym unheld) (All-from_recursion P [] tt);
  holders_to = let P : ℕ → Type 0 = λ n. n ≤ number + 0 in subst (All P) (sym unheld) (All-from_recursion P [] tt);
  begun = omega arith;
  kept = omega arith;
  fits = omega (arith, fits);
}

Numbered-before : (n : ℕ) (deltas : List Delta) (delta : Delta) → Numbered n (deltas ++ delta ∷ []) → Numbered n deltas
Numbered-before n [] delta numbered = tt
Numbered-before n (d ∷ deltas) delta numbered = (numbered.0, Numbered-before (n + 1) deltas delta numbered.1)

-- a log that keeps all, once its newest delta is taken back
pub taken_log : (log : LogView) (deltas : List Delta) (delta : Delta) (rows : ℕ) → IsLog log → log.base ≡ log.held_after → All (λ holder. holder < newest log) log.holders → log.deltas ≡ deltas ++ delta ∷ []
    → IsLog (record log { deltas = deltas; rows = rows })
taken_log log deltas delta rows is keeps unheld e =
    let long : length log.deltas ≡ length deltas + 1 = ap length e ∙ length-append deltas (delta ∷ []) in
    let fits = is.fits in
    record {
      numbered = Numbered-before log.held_after deltas delta (subst (Numbered log.held_after) e is.numbered);
      holders_from = is.holders_from;
      holders_to = All-weaker (λ n. n < newest log) (λ n. n ≤ log.held_after + length deltas) (λ n h. omega (arith, long, h)) log.holders unheld;
      begun = is.begun;
      kept = omega (arith, keeps);
      fits = omega (arith, long, fits);
    }

-- The log of a machine at a history: the deltas that it has, and from where it is held.
use Rattle.std.proofs.Common.{ℕ, ◌≡◌, ◌≤◌, ◌<◌, ◌+◌, ◌-◌, ◌==◌, Bool, true, false, cond, List, [], ◌∷◌, ◌++◌, length, drop, map, filter, Option, Some, None, refl, sym, ap, ◌∙◌, inl, inr, arith}
use Rattle.std.specs.Prelude.{min, nat_le, Contains}
use Rattle.std.proofs.lemmas.Bool.{eq-eqb, ne_eqb}
use Rattle.std.proofs.lemmas.Bool.Decides.{leb_tells}
use Rattle.mt_commit.proofs.HolderLemmas.{length-without}
use Rattle.std.proofs.Math.Nat.{min-le_left}
use Rattle.std.proofs.lemmas.List.{drop-drop}
use Rattle.std.proofs.lemmas.List.Sums.{sum_by-cons, sum_by-append}
use Rattle.mt_types.specs.Numbers.{least}
use Rattle.mt_types.specs.declared.row.Delta.{Delta}
use Rattle.std.specs.FinMap.{len}
use Rattle.mt_promise.specs.History.{History, Happening, Moment, OpenCall, StandingView, moment, rows}
use Rattle.mt_promise.specs.Legal.{held_from, reads_log}
use Rattle.mt_promise.proofs.HistoryLemmas.{Sometime-here}
use Rattle.mt_commit.specs.Log.{LogView, IsLog, newest, slowest, trimmed, kept_after}
use Rattle.mt_commit.specs.Laws.{times_held}
use Rattle.mt_commit.specs.Holders.{with_holder, without_holder}
use Rattle.mt_commit.proofs.CountLemmas.{pinning_counts, unpinning_counts, counted_is_held, least_is_by_counts}
use Rattle.mt_commit.proofs.LogLemmas.{trim_rises, newest-trimmed}
use Rattle.mt_steps.specs.declared.progress.Progress.{Progress}
use Rattle.mt_steps.specs.declared.progress.Progress.TheVariants.{Moved, Answered, Refused}
use Rattle.mt_index.specs.declared.calls.Call.{Call}
use Rattle.mt_works.specs.Works.{request_of}
use Rattle.mt_commit.specs.Logged.{deltas_of}
use Rattle.mt_index.specs.Paired.{Paired}
use Rattle.mt_index.specs.Calls.{call_at, total}
use Rattle.mt_index.specs.Stands.{holding, WasBlocked, released, pinned, log_after}
use Rattle.mt_index.proofs.NumberLemmas.{Entries}
use Rattle.mt_index.proofs.ListLemmas.{total_without}
use Rattle.mt_index.proofs.PairedLemmas.{Relation}

-- 1 where a call holds the log from this number, else 0
abbrev pub holds_from : ℕ → Call → ℕ
holds_from number call = cond (reads_log (request_of call.work)) (cond (call.from == number) 1 0) 0

-- the numbers from which open calls hold the log
abbrev pub froms : List OpenCall → List ℕ
froms calls = map (λ (call : OpenCall). call.from) (filter (λ (call : OpenCall). reads_log call.request) calls)

-- a number is held by the history's calls as often as by the machine's
module _ (R : Relation) (from : (k : ℕ × Call) (c : OpenCall) → R k c → c.from ≡ k.1.from) (request : (k : ℕ × Call) (c : OpenCall) → R k c → c.request ≡ request_of k.1.work) where
  pub paired-held : (number low high : ℕ) (ks : Entries) (cs : List OpenCall) → Paired R low high ks cs → times_held number (froms cs) ≡ total (holds_from number) ks
  paired-held number low high [] [] s = refl
  paired-held number low high (k ∷ ks) (c ∷ cs) s =
      let rest = paired-held number c.number high ks cs s.3 in
      let one : times_held number (c.from ∷ froms cs) ≡ cond (c.from == number) 1 0 + times_held number (froms cs) = sum_by-cons (λ (n : ℕ). cond (n == number) 1 0) c.from (froms cs) in
      let of_from : ◌≡◌ {A = ℕ} (cond (c.from == number) 1 0) (cond (k.1.from == number) 1 0) = ap (λ (n : ℕ). cond (n == number) 1 0) (from k c s.2) in
      ap (λ (b : Bool). times_held number (map (λ (call : OpenCall). call.from) (cond b (c ∷ filter (λ (call : OpenCall). reads_log call.request) cs) (filter (λ (call : OpenCall). reads_log call.request) cs)))) (ap reads_log (request k c s.2))
      ∙ elim (reads_log (request_of k.1.work)) as (λ b. times_held number (map (λ (call : OpenCall). call.from) (cond b (c ∷ filter (λ (call : OpenCall). reads_log call.request) cs) (filter (λ (call : OpenCall). reads_log call.request) cs)))
      ≡ cond b (cond (k.1.from == number) 1 0) 0 + total (holds_from number) ks) [
        | true ↦ (let e : times_held number (c.from ∷ froms cs) ≡ cond (k.1.from == number) 1 0 + total (holds_from number) ks = omega (arith, one, of_from, rest) in e)
        | false ↦ (let e : times_held number (froms cs) ≡ 0 + total (holds_from number) ks = omega (arith, rest) in e)
      ]
  paired-held number low high [] (c ∷ cs) s = absurd s
  paired-held number low high (k ∷ ks) [] s = absurd s

  -- so is it held by all together
  pub all-held : (number low high : ℕ) (ks : Entries) (m : Moment) → Paired R low high ks m.calls → times_held number (holding m) ≡ times_held number (map (λ (v : StandingView). v.at) m.views) + total (holds_from number) ks
  all-held number low high ks m s =
      let both : times_held number (map (λ (v : StandingView). v.at) m.views ++ froms m.calls) ≡ times_held number (map (λ (v : StandingView). v.at) m.views) + times_held number (froms m.calls) =
      sum_by-append (λ (n : ℕ). cond (n == number) 1 0) (map (λ (v : StandingView). v.at) m.views) (froms m.calls) in
      let calls = paired-held number low high ks m.calls s in
      omega (arith, both, calls)

-- ---- the log at a moment, before it is trimmed
pub record LogAt (C : ℕ) (log : LogView) (m : Moment) : Type 0 where
  pub commits : newest log ≡ length m.commits
  pub logged : log.deltas ≡ drop log.held_after (deltas_of C m.commits)
  pub rows : log.rows ≡ len (rows C m)
  pub held : (number : ℕ) → times_held number log.holders ≡ times_held number (holding m)

-- it is held from the number that the moment tells
pub slowest_is : (log : LogView) (m : Moment) → newest log ≡ length m.commits → ((number : ℕ) → times_held number log.holders ≡ times_held number (holding m)) → slowest log ≡ held_from m
slowest_is log m commits held = least_is_by_counts (newest log) log.holders (holding m) held ∙ ap (λ n. least n (holding m)) commits

-- and then, once it is trimmed
pub record TrimmedAt (C : ℕ) (log : LogView) (m : Moment) : Type 0 where
  pub commits : newest log ≡ length m.commits
  pub logged : log.deltas ≡ drop log.held_after (deltas_of C m.commits)
  pub trimmed : log.held_after ≡ min (held_from m) (kept_after log (length m.commits))
  pub rows : log.rows ≡ len (rows C m)
  pub held : (number : ℕ) → times_held number log.holders ≡ times_held number (holding m)

pub trims : (C : ℕ) (log : LogView) (m : Moment) → IsLog log → LogAt C log m → TrimmedAt C (trimmed log) m
trims C log m sound at =
    let bound : ℕ = min (slowest log) (kept_after log (newest log)) in
    let rises = trim_rises log bound sound refl in
    let same : log.held_after + (bound - log.held_after) ≡ bound = omega (arith, rises) in
    record {
      commits = newest-trimmed log bound (drop (bound - log.held_after) log.deltas) sound refl refl ∙ at.commits;
      logged = ap (λ (ds : List Delta). drop (bound - log.held_after) ds) at.logged ∙ drop-drop (bound - log.held_after) log.held_after (deltas_of C m.commits) ∙ ap (λ (n : ℕ). drop n (deltas_of C m.commits)) same;
      trimmed = ap (λ (n : ℕ). min n (kept_after log (newest log))) (slowest_is log m at.commits at.held) ∙ ap (λ (n : ℕ). min (held_from m) (kept_after log n)) at.commits;
      rows = at.rows;
      held = at.held;
    }

-- ---- what a call is blocked at
pub was_later : (began : ℕ) (x : Happening) (h : History) (blocked : Option ℕ) → WasBlocked began h blocked → WasBlocked began (x ∷ h) blocked
was_later began x h None was = tt
was_later began x h (Some number) was = inr was

-- a call that is blocked now was blocked
pub blocked_now : (began : ℕ) (x : Happening) (h : History) (log : LogView) → slowest log ≡ held_from (moment h) → began ≤ length h → WasBlocked began (x ∷ h) (Some (slowest log))
blocked_now began x h log is before = inr (Sometime-here began (λ m. held_from m ≡ slowest log) h before (sym is))

-- ---- who holds the log after a step
abbrev pub holders_after : Bool → ℕ → Progress → List ℕ → List ℕ
holders_after reads from (Answered answer) holders = cond reads (without_holder from holders) holders
holders_after reads from (Refused refusal) holders = cond reads (without_holder from holders) holders
holders_after reads from _ holders = holders

pub log_after_is : (reads : Bool) (from : ℕ) (p : Progress) (log : LogView) → log_after reads from p log ≡ record log { holders = holders_after reads from p log.holders }
log_after_is true from (Answered answer) log = refl
log_after_is false from (Answered answer) log = refl
log_after_is true from (Refused refusal) log = refl
log_after_is false from (Refused refusal) log = refl
log_after_is reads from Moved log = refl
log_after_is reads from _ log = refl

-- a call that ends holds it no longer
pub held_less : (reads : Bool) (from number views all rest : ℕ) (holders : List ℕ) → times_held number holders ≡ views + all → rest + cond reads (cond (from == number) 1 0) 0 ≡ all
    → times_held number (cond reads (without_holder from holders) holders) ≡ views + rest
held_less true from number views all rest holders had ended = let less = unpinning_counts from number holders in omega (arith, had, ended, less)
held_less false from number views all rest holders had ended = omega (arith, had, ended)

-- a call that begins holds it
pub held_more : (reads : Bool) (from number views all more : ℕ) (holders : List ℕ) → times_held number holders ≡ views + all → more ≡ all + cond reads (cond (from == number) 1 0) 0
    → times_held number (cond reads (with_holder from holders) holders) ≡ views + more
held_more true from number views all more holders had begun = let one = pinning_counts from number holders in omega (arith, had, begun, one)
held_more false from number views all more holders had begun = omega (arith, had, begun)

-- a call that reads the log holds it
pub reader_counts : (n views : ℕ) (kept : Call) (ks : Entries) (holders : List ℕ) → call_at n ks ≡ Some kept → times_held kept.from holders ≡ views + total (holds_from kept.from) ks → reads_log (request_of kept.work) ≡ true → 0 < times_held kept.from holders
reader_counts n views kept ks holders at held reads =
    let rest = total_without n kept (holds_from kept.from) ks at in
    let one : holds_from kept.from kept ≡ 1 = ap (λ b. cond b (cond (kept.from == kept.from) 1 0) 0) reads ∙ ap (λ b. cond b 1 0) (eq-eqb kept.from kept.from refl) in
    omega (arith, held, rest, one)

-- so it is one of its holders
pub reader_holds : (n views : ℕ) (kept : Call) (ks : Entries) (holders : List ℕ) → call_at n ks ≡ Some kept → times_held kept.from holders ≡ views + total (holds_from kept.from) ks → reads_log (request_of kept.work) ≡ true → Contains holders kept.from
reader_holds n views kept ks holders at held reads = counted_is_held kept.from holders (reader_counts n views kept ks holders at held reads)

pub pinned_is : (reads : Bool) (log : LogView) → pinned reads log ≡ record log { holders = cond reads (with_holder (newest log) log.holders) log.holders }
pinned_is true log = refl
pinned_is false log = refl

-- a holder at the newest commit is no slower than the others
least_with : (best : ℕ) (number : ℕ) (holders : List ℕ) → best ≤ number → least best (with_holder number holders) ≡ least best holders
least_with best number [] within = ap (λ (n : ℕ). n) (let e : min best number ≡ best = omega (arith, within) in e)
least_with best number (holder ∷ holders) within = elim (nat_le number holder) as (λ b. least best (cond b (number ∷ holder ∷ holders) (holder ∷ with_holder number holders)) ≡ least (min best holder) holders) [
  | true ↦ (let e : min best number ≡ best = omega (arith, within) in ap (λ (n : ℕ). least (min n holder) holders) e)
  | false ↦ (let lower = min-le_left best holder in least_with (min best holder) number holders (omega (arith, within, lower)))
]

pub least_pinned : (reads : Bool) (log : LogView) → slowest (record log { holders = cond reads (with_holder (newest log) log.holders) log.holders }) ≡ slowest log
least_pinned true log = least_with (newest log) (newest log) log.holders (omega arith)
least_pinned false log = refl

-- a call that begins and reads the log is one of its holders
pub pinned_holds : (reads : Bool) (log : LogView) → reads ≡ true → Contains (pinned reads log).holders (newest log)
pinned_holds true log is =
    let more = pinning_counts (newest log) (newest log) log.holders in
    let one : ◌≡◌ {A = ℕ} (cond (newest log == newest log) 1 0) 1 = ap (λ b. cond b 1 0) (eq-eqb (newest log) (newest log) refl) in
    counted_is_held (newest log) (with_holder (newest log) log.holders) (omega (arith, more, one))
pinned_holds false log is = absurd (let clash : false ≡ true = is in cc)

-- a holder that is let go leaves those that there were
pub without_with : (number : ℕ) (holders : List ℕ) → without_holder number (with_holder number holders) ≡ holders
without_with number [] = ap (λ b. cond b [] (number ∷ [])) (eq-eqb number number refl)
without_with number (holder ∷ holders) = elim (leb_tells number holder) [
  | inl p ↦ ap (λ b. without_holder number (cond b (number ∷ holder ∷ holders) (holder ∷ with_holder number holders))) p.0
      ∙ ap (λ b. cond b (holder ∷ holders) (number ∷ without_holder number (holder ∷ holders))) (eq-eqb number number refl)
  | inr p ↦ ap (λ b. without_holder number (cond b (number ∷ holder ∷ holders) (holder ∷ with_holder number holders))) p.0
      ∙ ap (λ b. cond b (with_holder number holders) (holder ∷ without_holder number (with_holder number holders))) (let below = p.1 in ne_eqb holder number (omega (arith, below)))
      ∙ ap (λ (l : List ℕ). holder ∷ l) (without_with number holders)
]

pub pinned_back : (reads : Bool) (log : LogView) → released reads (newest log) (pinned reads log) ≡ log
pinned_back true log = ap (λ (l : List ℕ). record log { holders = l }) (without_with (newest log) log.holders)
pinned_back false log = refl

-- numbers that are held as often are as many
pub length_by_counts : (xs ys : List ℕ) → ((number : ℕ) → times_held number xs ≡ times_held number ys) → length xs ≡ length ys
length_by_counts [] [] same = refl
length_by_counts [] (y ∷ ys) same =
    let here = same y in
    let first = sum_by-cons (λ (n : ℕ). cond (n == y) 1 0) y ys in
    let one : ◌≡◌ {A = ℕ} (cond (y == y) 1 0) 1 = ap (λ b. cond b 1 0) (eq-eqb y y refl) in
    absurd (omega (arith, here, first, one))
length_by_counts (x ∷ xs) ys same =
    let here = same x in
    let first = sum_by-cons (λ (n : ℕ). cond (n == x) 1 0) x xs in
    let one : ◌≡◌ {A = ℕ} (cond (x == x) 1 0) 1 = ap (λ b. cond b 1 0) (eq-eqb x x refl) in
    let found : Contains ys x = counted_is_held x ys (omega (arith, here, first, one)) in
    let rest = length_by_counts xs (without_holder x ys) (λ number.
    let all = same number in
    let cons = sum_by-cons (λ (n : ℕ). cond (n == number) 1 0) x xs in
    let less = unpinning_counts x number ys in
    omega (arith, all, cons, less)) in
    let shorter = length-without x ys found in
    omega (arith, rest, shorter)

-- a number that is pinned is held
pub with_holds : (number : ℕ) (holders : List ℕ) → Contains (with_holder number holders) number
with_holds number holders =
    let more = pinning_counts number number holders in
    let one : ◌≡◌ {A = ℕ} (cond (number == number) 1 0) 1 = ap (λ b. cond b 1 0) (eq-eqb number number refl) in
    counted_is_held number (with_holder number holders) (omega (arith, more, one))

-- and what was held is held still
pub still_holds : (number other : ℕ) (holders : List ℕ) → 0 < times_held other holders → Contains (with_holder number holders) other
still_holds number other holders held = let more = pinning_counts number other holders in counted_is_held other (with_holder number holders) (omega (arith, more, held))

-- what holds a log from a number on holds it from a greater one if there are more commits
pub least_grows : (best more : ℕ) (numbers : List ℕ) → best ≤ more → least best numbers ≤ least more numbers
least_grows best more [] h = h
least_grows best more (n ∷ numbers) h = least_grows (min best n) (min more n) numbers (omega (arith, h))

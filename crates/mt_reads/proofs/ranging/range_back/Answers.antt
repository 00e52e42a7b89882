use Rattle.std.proofs.Common.{ℕ, ◌≡◌, ◌≤◌, ◌++◌, ◌∷◌, List, [], length, sym, ap, subst, ◌∙◌, arith}
use Rattle.std.proofs.lemmas.Result.{IfOk-weaker}
use Rattle.std.specs.Prelude.{OnSome, IsSomeAnd}
use Rattle.std.specs.Borrow.{Bor}
use Rattle.mt_types.specs.declared.limits.TheConstants.{MAX_KEY_BYTES}
use Rattle.std.specs.Option.{option_copied}
use Rattle.mt_types.specs.declared.row.Row.{Row}
use Rattle.mt_promise.specs.History.{History, moment, rows}
use Rattle.mt_index.specs.Stands.{Stands}
use Rattle.mt_walk.specs.Gathered.{AreKeys, pairs_of}
use Rattle.mt_walk.proofs.Gathering.{gathers}
use Rattle.mt_reads.specs.Back.{GivesPrevious}
use Rattle.mt_reads.specs.Ranges.{IsRangeBack}
use Rattle.mt_reads.proofs.LimitedReads.{AreShortPairs, short_pairs}
use Rattle.mt_reads.proofs.RangeBackLemmas.{fits_key, returning_begins, returning_goes, returning_ends, returning_fills}
use Rattle.mt_reads.proofs.ranging.range_back.Goals as goal
use Rattle.mt_reads.proofs.ranging.range_back.Goals.{else-loop-test, then-loop-test+in_ok-row+in_default}

pub loop-init : goal.loop-init
loop-init c = record {
  keys = subst (λ (kept : List (ℕ × Bor Row)). AreKeys c.in_ok-keys.keys.items 0 kept) (sym c.in_ok-rows.ensures.items) (sym (ap length c.in_ok-keys.ensures.items));
  returning = returning_begins c.args.machine.now c.args.columns.now (option_copied c.args.before) c.in_ok-walk.walk (pairs_of c.args.columns.now c.in_ok-keys.keys.items 0 c.in_ok-rows.rows.items)
      c.in_ok-walk.ensures.machine c.in_ok-walk.ensures.before (ap (pairs_of c.args.columns.now c.in_ok-keys.keys.items 0) c.in_ok-rows.ensures.items);
}

pub loop-preserved : goal.loop-preserved
loop-preserved c =
    let walk = c.loop.walk in
    let ends : c.len.result ≡ length c.extend_from_slice.new.self.items = omega (arith, c.len.ensures, c.extend_from_slice.new.self.ok) in
    let gathered = gathers c.key.result.now c.in-Some.row c.loop.keys.items c.args.columns.now c.extend_from_slice.new.self.items c.loop.rows.items c.push.new.self.items c.loop.invariant.keys
    (fits_key c.next.new.self.before c.key.result.now (subst (λ row. OnSome row (IsSomeAnd c.next.new.self.before (λ k. length k ≤ MAX_KEY_BYTES))) c.in-Some.is c.in_ok-row.ensures.fits) c.key.ensures.key)
    c.in_ok-extend_from_slice.ensures.items (c.in_ok-push.ensures.items ∙ ap (λ (n : ℕ). c.loop.rows.items ++ (n, c.in-Some.row) ∷ []) ends) in
    record {
      keys = gathered.0;
      returning = returning_goes c.args.machine.now c.args.columns.now (option_copied c.args.before) walk c.next.new.self (pairs_of c.args.columns.now c.loop.keys.items 0 c.loop.rows.items) c.loop.counter c.loop.invariant.returning
          c.in-Some.row.now c.key.result.now (pairs_of c.args.columns.now c.extend_from_slice.new.self.items 0 c.push.new.self.items)
          (subst (λ row. (h : History) → Stands walk.machine h → GivesPrevious (rows walk.machine.columns (moment h)) walk.before (option_copied row) c.next.new.self.before) c.in-Some.is c.in_ok-row.ensures.row) c.in_ok-row.ensures.machine c.key.ensures.key gathered.1;
    }

pub pairs_of-requires : goal.pairs_of-requires
pairs_of-requires c = subst (λ (kept : List (ℕ × Bor Row)). AreKeys c.loop.keys.items 0 kept) (sym c.as_slice.ensures.value) c.loop.invariant.keys

pub returns-clause-pairs : goal.returns-clause-pairs
returns-clause-pairs c =
    IfOk-weaker c.pairs_of.result (λ pairs. pairs ≡ pairs_of c.args.columns.now c.loop.keys.items 0 c.as_slice.result.now)
    (λ pairs. (h : History) → Stands c.args.machine.now h → IsRangeBack (rows c.args.machine.now.columns (moment h)) c.args.columns.now (option_copied c.args.before) c.args.limit pairs)
    (λ pairs same h stands. subst (IsRangeBack (rows c.args.machine.now.columns (moment h)) c.args.columns.now (option_copied c.args.before) c.args.limit) (sym (same ∙ ap (pairs_of c.args.columns.now c.loop.keys.items 0) c.as_slice.ensures.value)) (right h stands))
    c.pairs_of.ensures
  where
    right : (h : History) → Stands c.args.machine.now h → IsRangeBack (rows c.args.machine.now.columns (moment h)) c.args.columns.now (option_copied c.args.before) c.args.limit (pairs_of c.args.columns.now c.loop.keys.items 0 c.loop.rows.items)
    right = elim c.loop-test.branch [
      | else-loop-test w ↦ returning_fills c.args.machine.now c.args.columns.now (option_copied c.args.before) c.loop.walk c.loop.walk (pairs_of c.args.columns.now c.loop.keys.items 0 c.loop.rows.items) c.loop.counter c.loop.invariant.returning c.args.limit
          (let most = c.loop.auto.counter-end in let least = w.loop-test.false in omega (arith, most, least))
      | then-loop-test+in_ok-row+in_default w ↦ returning_ends c.args.machine.now c.args.columns.now (option_copied c.args.before) c.loop.walk w.next.new.self (pairs_of c.args.columns.now c.loop.keys.items 0 c.loop.rows.items) c.loop.counter c.loop.invariant.returning c.args.limit
          (let most = c.loop.auto.counter-end in omega (arith, most))
          (subst (λ row. (h : History) → Stands c.loop.walk.machine h → GivesPrevious (rows c.loop.walk.machine.columns (moment h)) c.loop.walk.before (option_copied row) w.next.new.self.before) w.in_default.is w.in_ok-row.ensures.row)
    ]

pub returns-clause-short : goal.returns-clause-short
returns-clause-short c =
    IfOk-weaker c.pairs_of.result (λ pairs. pairs ≡ pairs_of c.args.columns.now c.loop.keys.items 0 c.as_slice.result.now) AreShortPairs
    (λ pairs same. subst AreShortPairs (sym (same ∙ ap (pairs_of c.args.columns.now c.loop.keys.items 0) c.as_slice.ensures.value))
    (short_pairs c.args.columns.now c.loop.keys.items 0 c.loop.rows.items c.loop.invariant.keys))
    c.pairs_of.ensures

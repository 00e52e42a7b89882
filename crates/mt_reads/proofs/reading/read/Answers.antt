use Rattle.std.proofs.Common.{◌≡◌, ℕ, length, rules, arith, ◌++◌, ◌∷◌, [], ap, subst, sym, ◌∙◌, true, false}
use Rattle.std.proofs.lemmas.Bool.{false≢true}
use Rattle.std.specs.Option.{option_copied}
use Rattle.mt_promise.specs.History.{History, moment, rows}
use Rattle.mt_index.specs.Stands.{Stands}
use Rattle.mt_reads.specs.Walks.{GivesNext}
use Rattle.mt_reads.proofs.BackLemmas.{reading_goes, reading_ends, reading_stops}
use Rattle.mt_reads.proofs.reading.read.Goals as goal
use Rattle.mt_reads.proofs.reading.read.Goals.{in-Some+then-not-is_before, in_default}

pub loop-rows-preserved : goal.loop-rows-preserved
loop-rows-preserved c =
    let walk = c.loop-rows.walk in
    let whole : c.next.new.self.failed ≡ false = search rules in
    let before : c.is_before.result ≡ true = search rules in
    let many : c.len.result ≡ length c.loop-rows.keys.items = omega (arith, c.len.ensures, c.loop-rows.keys.ok) in
    record {
      read = reading_goes c.args.machine.now c.args.start.now (option_copied c.args.end) walk c.next.new.self c.loop-rows.keys.items c.loop-rows.rows.items c.loop-rows.invariant.read
          c.in-Some.row c.key-key.result.now c.extend_from_slice.new.self.items c.push.new.self.items c.is_idle-stands.ensures.stands
          (subst (λ row. (h : History) → Stands walk.machine h → GivesNext (rows walk.machine.columns (moment h)) walk.at (option_copied row) c.next.new.self.at) c.in-Some.is c.in_ok-row.ensures.row)
          c.in_ok-row.ensures.machine c.key-key.ensures.key (c.key-key.ensures.fits whole) (c.is_before.ensures.0 before) c.in_ok-extend_from_slice.ensures.items
          (c.in_ok-push.ensures.items ∙ ap (λ (n : ℕ). c.loop-rows.rows.items ++ (n, c.in-Some.row) ∷ []) many);
      whole = whole;
    }

pub returns : goal.returns
returns c =
    let walk = c.loop-rows.walk in
    elim c.match-branch-5.branch [
      | in-Some+then-not-is_before w ↦ reading_stops c.args.machine.now c.args.start.now (option_copied c.args.end) walk c.next.new.self c.loop-rows.keys.items c.loop-rows.rows.items c.loop-rows.invariant.read
          w.in-Some.row.now w.key-key.result.now c.requires.before
          (subst (λ row. (h : History) → Stands walk.machine h → GivesNext (rows walk.machine.columns (moment h)) walk.at (option_copied row) c.next.new.self.at) w.in-Some.is c.in_ok-row.ensures.row)
          w.key-key.ensures.key (λ before. let none : w.is_before.result ≡ false = search rules in false≢true (sym none ∙ w.is_before.ensures.1 before))
      | in_default w ↦ reading_ends c.args.machine.now c.args.start.now (option_copied c.args.end) walk c.next.new.self c.loop-rows.keys.items c.loop-rows.rows.items c.loop-rows.invariant.read
          c.requires.before
          (subst (λ row. (h : History) → Stands walk.machine h → GivesNext (rows walk.machine.columns (moment h)) walk.at (option_copied row) c.next.new.self.at) w.in_default.is c.in_ok-row.ensures.row)
    ]

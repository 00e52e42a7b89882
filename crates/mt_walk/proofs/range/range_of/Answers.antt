use Rattle.std.proofs.Common.{ℕ, ◌≡◌, ◌++◌, ◌∷◌, true, false, List, [], length, sym, ap, refl, subst, ◌∙◌, arith}
use Rattle.std.proofs.lemmas.Result.{IfOk-weaker}
use Rattle.std.specs.Borrow.{Bor}
use Rattle.mt_types.specs.declared.row.Row.{Row}
use Rattle.mt_types.specs.declared.event.Answer.TheVariants.{Rows}
use Rattle.mt_types.specs.declared.event.Request.TheVariants.{Range}
use Rattle.mt_steps.specs.Lone.{IsRightNow}
use Rattle.mt_walk.specs.Gathered.{AreKeys, pairs_of}
use Rattle.mt_walk.specs.Walk.{course_of, walk_of}
use Rattle.mt_walk.proofs.Found.{found_key, found_row, found_past, none_found}
use Rattle.mt_walk.proofs.Gathering.{gathers}
use Rattle.mt_walk.proofs.Ranges.{ranging_begins, ranging_goes, ranging_ends, ranging_fills}
use Rattle.mt_walk.proofs.range.range_of.Goals as goal
use Rattle.mt_walk.proofs.range.range_of.Goals.{else-loop-test, then-loop-test+in_ok-entry+in_default}

pub loop-init : goal.loop-init
loop-init c = record {
  keys = subst (λ (rows : List (ℕ × Bor Row)). AreKeys c.in_ok-keys.keys.items 0 rows) (sym c.in_ok-rows.ensures.items) (sym (ap length c.in_ok-keys.ensures.items));
  ranging = (
    c.args.start.now,
    false,
    ranging_begins c.args.tree.now c.args.start.now c.args.columns.now (walk_of (course_of c.in_ok-course.course) c.args.start.now false) (pairs_of c.args.columns.now c.in_ok-keys.keys.items 0 c.in_ok-rows.rows.items) c.in_ok-course.ensures
        (ap (pairs_of c.args.columns.now c.in_ok-keys.keys.items 0) c.in_ok-rows.ensures.items),
  );
}

pub next-requires : goal.next-requires
next-requires c = let (key, given, so_far) = c.loop.invariant.ranging in (key, given, so_far.stands)

pub spell-requires-clause-row : goal.spell-requires-clause-row
spell-requires-clause-row c =
    let (key, given, so_far) = c.loop.invariant.ranging in
    found_row (course_of c.loop.course) (course_of c.next.new.self) c.in_ok-entry.field-0 c.in_ok-entry.ensures c.in-Some.entry c.in-Some.row c.in-Some.is (key, given, so_far.stands)

pub spell-requires-clause-key : goal.spell-requires-clause-key
spell-requires-clause-key c =
    let (key, given, so_far) = c.loop.invariant.ranging in
    found_key (course_of c.loop.course) (course_of c.next.new.self) c.in_ok-entry.field-0 c.in_ok-entry.ensures c.in-Some.entry c.in-Some.row c.in-Some.is (key, given, so_far.stands) c.path.result.now c.path.ensures

pub loop-preserved : goal.loop-preserved
loop-preserved c =
    let (key, given, so_far) = c.loop.invariant.ranging in
    let spells = c.in_ok-spell.ensures in
    let past = found_past (course_of c.loop.course) (course_of c.next.new.self) c.in_ok-entry.field-0 c.in_ok-entry.ensures c.in-Some.entry c.in-Some.row c.in-Some.is
    key given so_far.stands c.path.result.now c.path.ensures c.loop.keys.items c.spell.new.key.items spells in
    let ends : c.len.result ≡ length c.spell.new.key.items = omega (arith, c.len.ensures, c.spell.new.key.ok) in
    let gathered = gathers spells.0 c.in-Some.row c.loop.keys.items c.args.columns.now c.spell.new.key.items c.loop.rows.items c.push.new.self.items c.loop.invariant.keys spells.4 spells.1
    (c.in_ok-push.ensures.items ∙ ap (λ (n : ℕ). c.loop.rows.items ++ (n, c.in-Some.row) ∷ []) ends) in
    record {
      keys = gathered.0;
      ranging = (
        spells.0,
        true,
        ranging_goes c.args.tree.now c.args.start.now c.args.columns.now (walk_of (course_of c.loop.course) key given) (walk_of (course_of c.next.new.self) spells.0 true)
            (pairs_of c.args.columns.now c.loop.keys.items 0 c.loop.rows.items) (pairs_of c.args.columns.now c.spell.new.key.items 0 c.push.new.self.items) c.loop.counter c.in-Some.row.now spells.0
            so_far past.0 past.1 refl gathered.1,
      );
    }

pub pairs_of-requires : goal.pairs_of-requires
pairs_of-requires c = subst (λ (rows : List (ℕ × Bor Row)). AreKeys c.loop.keys.items 0 rows) (sym c.as_slice.ensures.value) c.loop.invariant.keys

pub returns : goal.returns
returns c =
    IfOk-weaker c.pairs_of.result (λ pairs. pairs ≡ pairs_of c.args.columns.now c.loop.keys.items 0 c.as_slice.result.now) (λ pairs. IsRightNow c.args.tree.now (Range c.args.start.now c.args.limit c.args.columns.now) (Rows pairs))
    (λ pairs same. subst (λ (ps : List (List ℕ × Row)). IsRightNow c.args.tree.now (Range c.args.start.now c.args.limit c.args.columns.now) (Rows ps)) (sym (same ∙ ap (pairs_of c.args.columns.now c.loop.keys.items 0) c.as_slice.ensures.value)) right)
    c.pairs_of.ensures
  where
    right : IsRightNow c.args.tree.now (Range c.args.start.now c.args.limit c.args.columns.now) (Rows (pairs_of c.args.columns.now c.loop.keys.items 0 c.loop.rows.items))
    right = let (key, given, so_far) = c.loop.invariant.ranging in elim c.loop-test.branch [
      | else-loop-test w ↦ ranging_fills c.args.tree.now c.args.start.now c.args.columns.now (walk_of (course_of c.loop.course) key given) (pairs_of c.args.columns.now c.loop.keys.items 0 c.loop.rows.items) c.loop.counter c.args.limit so_far c.key_bytes-bytes.ensures.bytes
          (let most = c.loop.auto.counter-end in let least = w.loop-test.false in omega (arith, most, least))
      | then-loop-test+in_ok-entry+in_default w ↦ ranging_ends c.args.tree.now c.args.start.now c.args.columns.now (walk_of (course_of c.loop.course) key given) (walk_of (course_of w.next.new.self) key given) (pairs_of c.args.columns.now c.loop.keys.items 0 c.loop.rows.items) c.loop.counter c.args.limit
          so_far c.key_bytes-bytes.ensures.bytes
          (let most = c.loop.auto.counter-end in omega (arith, most))
          (none_found (course_of c.loop.course) (course_of w.next.new.self) w.in_ok-entry.field-0 w.in_ok-entry.ensures w.in_default.is key given so_far.stands).1
    ]

-- What a run does at a border on its way: it locks it, reads it one field a step, and, if its way leads on, unlocks it.
use Rattle.std.proofs.Common.{ℕ, zero, suc, ◌≡◌, ◌≢◌, ◌≤◌, ◌+◌, ◌-◌, ◌*◌, ◌∙◌, ◌⊎◌, inl, inr, arith, Bool, true, false, List, length, Option, Some, None, IsSome, if◌then◌else◌, refl, sym, ap, subst}
use Rattle.std.specs.Prelude.{IsSomeAnd}
use Rattle.mt_types.specs.declared.numbers.NodeNo.{NodeNo}
use Rattle.mt_slice.specs.Place.{slice_number}
use Rattle.mt_commit.specs.Log.{LogView, IsLog}
use Rattle.mt_border.specs.Border.{BorderView, right_for, with_locked, with_unlocked}
use Rattle.mt_border.specs.Order.{IsBorder}
use Rattle.mt_border.specs.declared.found.Found.{Found}
use Rattle.mt_border.specs.declared.found.Found.TheVariants.{Absent as AbsentFound, Row as RowFound, OtherSuffix, Link as LinkFound}
use Rattle.mt_border.specs.declared.unwritten.Unwritten.TheVariants.{Nothing}
use Rattle.mt_border.proofs.BorderLemmas.{unlocked_written}
use Rattle.mt_arena.specs.Node.{border_at}
use Rattle.mt_arena.specs.Arena.{ArenaView, IsArena, with_border_changed}
use Rattle.mt_arena.specs.declared.part.Part.{Part}
use Rattle.mt_tree.specs.Descent.{IsFoundAt, IsLast, found_for, to_right, visit_border}
use Rattle.mt_tree.specs.Keeping.{KeepsTree}
use Rattle.mt_tree.specs.declared.visit.Visit.{Visit}
use Rattle.mt_tree.specs.declared.visit.Visit.TheVariants.{Again, To, Below, Here as VisitHere}
use Rattle.mt_steps.specs.declared.entering.Entering.{Entering}
use Rattle.mt_steps.specs.declared.entering.Entering.TheVariants.{Locked}
use Rattle.mt_steps.specs.declared.entering.Entered.{Entered}
use Rattle.mt_steps.specs.declared.entering.Entered.TheVariants.{Enters, Right, Below as BelowEntered, Here}
use Rattle.mt_steps.specs.declared.entering.There.{There}
use Rattle.mt_steps.specs.declared.entering.There.TheVariants.{Absent, Full, Row, Other}
use Rattle.mt_steps.specs.declared.progress.Progress.{Progress}
use Rattle.mt_steps.specs.declared.progress.Progress.TheVariants.{Moved}
use Rattle.mt_steps.specs.declared.way.Way.{Way}
use Rattle.mt_steps.specs.declared.way.Went.{Went}
use Rattle.mt_steps.specs.declared.way.Went.TheVariants.{Again as WentAgain, To as WentTo, Here as WentHere}
use Rattle.mt_steps.specs.Entering.{EnteredIsTrue, entered, wants}
use Rattle.mt_steps.specs.Standing.{Lends}
use Rattle.mt_steps.specs.Way.{Finds, rest_of, went_by}
use Rattle.mt_steps.proofs.BorderLemmas.{now_named}
use Rattle.mt_steps.proofs.FoundLemmas.{some_and, some_at}
use Rattle.mt_write.specs.declared.running.WriteRun.{WriteRun}
use Rattle.mt_write.specs.declared.writing.Write.{Write}
use Rattle.mt_write.specs.declared.writing.Stage.{Stage}
use Rattle.mt_write.specs.declared.writing.Stage.TheVariants.{Seeks, Enters as StageEnters, Searched}
use Rattle.mt_write.specs.Writing.{entered_stage, way_below, way_right}
use Rattle.mt_write.specs.Follows.{MayLock, TreeStep, WriteStep}
use Rattle.mt_write.specs.declared.writing.Edit.{Edit}
use Rattle.mt_write.specs.declared.writing.Edit.TheVariants.{Put as PutEdit, Remove as RemoveEdit}
use Rattle.mt_write.specs.Runs.{HasRun, IsStraight, IsTrimmed, MayAct, MayRun, PassesAt, Running, WriteState, passed_fields, state, values_read}
use Rattle.mt_write.proofs.FindLemmas.{finds_changed, found_is}
use Rattle.mt_write.proofs.RunLemmas.{ends_run, may_again, may_step, one_step, run_step, runs_further, runs_none, stays_trimmed}
use Rattle.mt_write.proofs.StageSteps.{at_step, may_be, may_seek}
use Rattle.mt_write.proofs.LaterSteps.{enters_layer}
use Rattle.mt_write.proofs.EnterSteps.{goes_right, locks_border, reads_field}
use Rattle.mt_write.proofs.ReadLemmas.{IsLastField, Reads, reads_all, reads_right}

-- ---- the fields, one a step
-- since a state it has made `steps` steps, and has read so far
pub record HasRead (C : ℕ) (a : ArenaView) (log : LogView) (write : Write) (s : WriteState) (steps : ℕ) (next : Entered) : Type 0 where
  pub running : Running C s steps 0 (state a log (record write { stage = entered_stage next }))
  pub may : MayRun C (state a log (record write { stage = entered_stage next }))

module _ (C : ℕ) (a : ArenaView) (log : LogView) (write : Write) (is_trimmed : IsTrimmed log) (sound : IsLog log) (arena : IsArena a) (s : WriteState) where
  reads_one : (steps : ℕ) (entering : Entering) (part : Part) → Lends a write.way.node.0 (wants entering) part → HasRead C a log write s steps (Enters entering) → HasRead C a log write s (steps + 1) (entered (rest_of write.key write.way) entering part)
  reads_one steps entering part lent has =
      let here : Write = record write { stage = StageEnters entering } in
      let new : Write = record write { stage = entered_stage (entered (rest_of write.key write.way) entering part) } in
      let step = at_step C a a log log here write.stage (StageEnters entering) Moved new refl (reads_field a write entering part lent C log) in
      record {
        running = runs_further C s (state a log here) (state a log new) steps 0 (record { steps = 1; commits = 0; last = Moved }) has.running
            (one_step C (state a log here) (state a log new) 0 Moved (run_step C (state a log here) has.may a log Moved new step log (stays_trimmed log is_trimmed) sound arena arena) refl) tt;
        may = may_again C (state a log here) has.may a log Moved new step tt log (stays_trimmed log is_trimmed);
      }

  pub reads_on : (n steps : ℕ) (next final : Entered) → Reads a write.way.node.0 (rest_of write.key write.way) next n final → HasRead C a log write s steps next → HasRead C a log write s (steps + n) final
  reads_on zero steps next final is has =
      let none : steps ≡ steps + 0 = omega arith in
      subst (λ (x : Entered). HasRead C a log write s (steps + 0) x) is (subst (λ (k : ℕ). HasRead C a log write s k next) none has)
  reads_on (suc n) steps next final (entering, is, (part, lent, more)) has =
      let one : steps + 1 + n ≡ steps + suc n = omega arith in
      subst (λ (k : ℕ). HasRead C a log write s k final) one
      (reads_on n (steps + 1) (entered (rest_of write.key write.way) entering part) final more (reads_one steps entering part lent (subst (λ (x : Entered). HasRead C a log write s steps x) is has)))

-- ---- what a visit of a border leads to
-- to the right, into the layer below, or no further, if the border is not marked deleted
abbrev pub Leads : List ℕ → BorderView → Visit → Type 0
Leads rest b Again = ⊥
Leads rest b (To next) = right_for b.right (slice_number rest) ≡ Some next
Leads rest b (Below head) = (right_for b.right (slice_number rest) ≡ None) × (place : ℕ) × (found_for rest b.live ≡ LinkFound place head)
Leads rest b VisitHere = (right_for b.right (slice_number rest) ≡ None) × IsLast (found_for rest b.live)

module _ (rest : List ℕ) (b : BorderView) where
  leads_to : (right : Option NodeNo) (found : Found) → right_for b.right (slice_number rest) ≡ right → found_for rest b.live ≡ found → Leads rest b (to_right right found)
  leads_to (Some next) found right is = right
  leads_to None (AbsentFound place) right is = (right, subst IsLast (sym is) tt)
  leads_to None (RowFound place) right is = (right, subst IsLast (sym is) tt)
  leads_to None (OtherSuffix place) right is = (right, subst IsLast (sym is) tt)
  leads_to None (LinkFound place head) right is = (right, place, is)

  pub leads : (visit : Visit) → visit ≡ visit_border rest b → b.version.deleted ≡ false → Leads rest b visit
  leads visit is alive =
      let led : visit_border rest b ≡ to_right (right_for b.right (slice_number rest)) (found_for rest b.live) = ap (λ (deleted : Bool). if deleted then Again else to_right (right_for b.right (slice_number rest)) (found_for rest b.live)) alive in
      subst (λ (v : Visit). Leads rest b v) (sym (is ∙ led)) (leads_to (right_for b.right (slice_number rest)) (found_for rest b.live) refl refl)

  -- a row that it has found, or none, is no link
  no_link : (there : There) → EnteredIsTrue rest (Here there) b → IsLast (found_for rest b.live)
  no_link (Absent place) (right, (found, room)) = subst IsLast (sym found) tt
  no_link (Full place keys) (right, (found, outlined, full, noted)) = subst IsLast (sym found) tt
  no_link (Row place row) (right, (found, holds)) = subst IsLast (sym found) tt
  no_link (Other place suffix row) (right, (found, stands)) = subst IsLast (sym found) tt

  -- what it does, once it has read all
  ends_below : (place : ℕ) (head : NodeNo) → right_for b.right (slice_number rest) ≡ None → found_for rest b.live ≡ LinkFound place head → (final : Entered) → IsLastField final → EnteredIsTrue rest final b → final ≡ BelowEntered head
  ends_below place head none is (Enters entering) last true_of = absurd last
  ends_below place head none is (Right next) last true_of = absurd (let clash : ◌≡◌ {A = Option NodeNo} None (Some next) = sym none ∙ true_of in cc)
  ends_below place head none is (BelowEntered other) last (right, at, found) =
      let both : LinkFound place head ≡ LinkFound at other = sym is ∙ found in
      let same : other ≡ head = cc in
      ap BelowEntered same
  ends_below place head none is (Here there) last true_of = absurd (subst IsLast is (no_link there true_of))

  pub ends_here : right_for b.right (slice_number rest) ≡ None → IsLast (found_for rest b.live) → (final : Entered) → IsLastField final → EnteredIsTrue rest final b → (there : There) × (final ≡ Here there)
  ends_here none is (Enters entering) last true_of = absurd last
  ends_here none is (Right next) last true_of = absurd (let clash : ◌≡◌ {A = Option NodeNo} None (Some next) = sym none ∙ true_of in cc)
  ends_here none is (BelowEntered head) last (right, at, found) = absurd (subst IsLast found is)
  ends_here none is (Here there) last true_of = (there, refl)

-- it continues at what a visit leads to
abbrev pub Continues : Write → Went → Progress → Write → Type 0
Continues write went p new = (next : Way) → went ≡ WentTo next → (p ≡ Moved) × (new ≡ record write { way = next; head = new.head })
    × (((next.layer ≡ write.way.layer) × (new.head ≡ write.head)) ⊎ ((next.layer ≢ write.way.layer) × (new.head ≡ next.node)))

-- at the border of its key, which it has locked, it has read this number of fields, and may make ready
pub record AtKey (C : ℕ) (a locked : ArenaView) (log : LogView) (write : Write) (found : Found) (n : ℕ) : Type 0 where
  pub there : There
  pub act : MayAct C locked log write found there
  pub read : HasRead C locked log write (state a log write) (1 + n) (Here there)

-- the run that has come there, and continues so
pub after_reads : (C : ℕ) (a locked : ArenaView) (log : LogView) (write : Write) (found : Found) (n : ℕ) (at : AtKey C a locked log write found n) (run : WriteRun) (t : WriteState) → HasRun C (state locked log (record write { stage = Searched at.there })) run t
    → HasRun C (state a log write) (record { steps = 1 + n + run.steps; commits = 0 + run.commits; last = run.last }) t
after_reads C a locked log write found n at run t new = ends_run C (state a log write) (state locked log (record write { stage = Searched at.there })) t (1 + n) 0 run at.read.running new

-- ---- the lock
module _ (a locked : ArenaView) (number : ℕ) (lock : MayLock a number) (value : locked ≡ with_border_changed a number with_locked) where
  -- what a border that it may lock is new
  then_locked : (P : BorderView → Type 0) → ((b : BorderView) → IsBorder b → b.version.locked ≡ false → P (with_locked b)) → IsSomeAnd (border_at locked.nodes number) P
  then_locked P is =
      let (b, named, (sound, unlocked, alive)) = some_and _ (border_at a.nodes number) lock in
      let now : border_at locked.nodes number ≡ Some (with_locked b) = subst (λ (x : ArenaView). border_at x.nodes number ≡ Some (with_locked b)) (sym value) (now_named a number b with_locked named) in
      subst (λ (o : Option BorderView). IsSomeAnd o P) (sym now) (is b sound unlocked)

  pub unlock_locked : IsSomeAnd (border_at locked.nodes number) (λ b. b.version.locked ≡ true)
  unlock_locked = then_locked (λ b. b.version.locked ≡ true) (λ b sound unlocked. refl)

  pub unlock_written : IsSomeAnd (border_at locked.nodes number) (λ b. b.unwritten ≡ Nothing)
  unlock_written = then_locked (λ b. b.unwritten ≡ Nothing) (λ b sound unlocked. unlocked_written b sound unlocked)

-- on its way it is in a layer of its key
pub way_within : (a : ArenaView) (write : Write) → write.stage ≡ Seeks → (C : ℕ) × (log : LogView) × MayRun C (state a log write) → 8 * write.way.layer ≤ length write.key - 1
way_within a write idle (C, log, may) = (may_seek a write (C, log, may_be C a log write write.stage Seeks idle (may_step C (state a log write) may))).within

-- ---- what a search of a border tells
module _ (a : ArenaView) (key : List ℕ) (way : Way) (b : BorderView) (named : border_at a.nodes way.node.0 ≡ Some b) (rest : List ℕ) (is : rest ≡ rest_of key way) where
  pub here_by : visit_border rest b ≡ VisitHere → IsSomeAnd (border_at a.nodes way.node.0) (λ x. visit_border (rest_of key way) x ≡ VisitHere)
  here_by ends = subst (λ (o : Option BorderView). IsSomeAnd o (λ x. visit_border (rest_of key way) x ≡ VisitHere)) (sym named) (subst (λ (r : List ℕ). visit_border r b ≡ VisitHere) is ends)

  pub leads_by : (visit : Visit) → visit ≡ visit_border rest b → IsSomeAnd (border_at a.nodes way.node.0) (λ x. visit ≡ visit_border (rest_of key way) x)
  leads_by visit leads = subst (λ (o : Option BorderView). IsSomeAnd o (λ x. visit ≡ visit_border (rest_of key way) x)) (sym named) (subst (λ (r : List ℕ). visit ≡ visit_border r b) is leads)

  pub finds_by : (found : Found) → found ≡ found_for rest b.live → IsFoundAt rest b.live found → Finds a key way found
  finds_by found same stands = record {
    border = b;
    named = named;
    is = subst (λ (r : List ℕ). found ≡ found_for r b.live) is same;
    stands = subst (λ (r : List ℕ). IsFoundAt r b.live found) is stands;
  }

-- a border that it may lock is there
pub lock_some : (a : ArenaView) (number : ℕ) → MayLock a number → IsSome (border_at a.nodes number)
lock_some a number lock = let (b, named, may) = some_and _ (border_at a.nodes number) lock in subst (λ (o : Option BorderView). IsSome o) (sym named) refl

-- a visit that leads on leads on its way
pub stays_here : (way : Way) (visit : Visit) (went : Went) → went ≡ went_by way visit → visit ≢ VisitHere → went ≢ WentHere
stays_here way Again went is on here = (let clash : ◌≡◌ {A = Went} WentAgain WentHere = sym is ∙ here in cc)
stays_here way (To next) went is on here = (let clash : ◌≡◌ {A = Went} (WentTo (way_right way next)) WentHere = sym is ∙ here in cc)
stays_here way (Below head) went is on here = (let clash : ◌≡◌ {A = Went} (WentTo (way_below way head)) WentHere = sym is ∙ here in cc)
stays_here way VisitHere went is on here = on refl

-- the lock leaves room
straight_locked : (edit : Edit) (b : BorderView) (found : Found) → IsStraight edit b found → IsStraight edit (with_locked b) found
straight_locked (PutEdit sets only) b (AbsentFound place) room = room
straight_locked (PutEdit sets only) b (RowFound place) straight = straight
straight_locked (PutEdit sets only) b (OtherSuffix place) straight = straight
straight_locked (PutEdit sets only) b (LinkFound place head) straight = straight
straight_locked RemoveEdit b found straight = straight

module _ (C : ℕ) (a locked : ArenaView) (log : LogView) (write : Write) (may : MayRun C (state a log write)) (is_trimmed : IsTrimmed log) (idle : write.stage ≡ Seeks) (lock : MayLock a write.way.node.0) (value : locked ≡ with_border_changed a write.way.node.0 with_locked) (keeps : KeepsTree a locked) where
  abbrev at_lock : Write
  at_lock = record write { stage = StageEnters Locked }

  locks : WriteStep C a locked log log write write.stage Moved at_lock
  locks = subst (λ (st : Stage). WriteStep C a locked log log write st Moved at_lock) (sym idle) (locks_border a write locked lock value keeps C log)

  pub may_read : MayRun C (state locked log at_lock)
  may_read = may_again C (state a log write) may locked log Moved at_lock locks tt log (stays_trimmed log is_trimmed)

  module _ (arena : IsArena a) (arena_locked : IsArena locked) (sound : IsLog log) where
    first : HasRead C locked log write (state a log write) 1 (Enters Locked)
    first = record {
      running = runs_further C (state a log write) (state a log write) (state locked log at_lock) 0 0 (record { steps = 1; commits = 0; last = Moved }) (runs_none C (state a log write))
          (one_step C (state a log write) (state locked log at_lock) 0 Moved (run_step C (state a log write) may locked log Moved at_lock locks log (stays_trimmed log is_trimmed) sound arena arena_locked) refl) tt;
      may = may_read;
    }

    -- of this border, before the lock
    module _ (b : BorderView) (named : border_at a.nodes write.way.node.0 ≡ Some b) (sound_locked : IsSomeAnd (border_at locked.nodes write.way.node.0) IsBorder) where
      abbrev key_rest : List ℕ
      key_rest = rest_of write.key write.way

      named_locked : border_at locked.nodes write.way.node.0 ≡ Some (with_locked b)
      named_locked = subst (λ (x : ArenaView). border_at x.nodes write.way.node.0 ≡ Some (with_locked b)) (sym value) (now_named a write.way.node.0 b with_locked named)

      is_border : IsBorder (with_locked b)
      is_border = some_at IsBorder (border_at locked.nodes write.way.node.0) (with_locked b) sound_locked named_locked

      written : (with_locked b).unwritten ≡ Nothing
      written = let (whole, unlocked, alive) = some_at _ (border_at a.nodes write.way.node.0) b lock named in unlocked_written b whole unlocked

      -- it has read all
      module _ (none : right_for b.right (slice_number key_rest) ≡ None) where
        all : (final : Entered) × Reads locked write.way.node.0 key_rest (Enters Locked) (2 + length b.live + values_read (found_for key_rest b.live)) final × IsLastField final × EnteredIsTrue key_rest final (with_locked b)
        all = reads_all locked write.way.node.0 key_rest (with_locked b) named_locked is_border arena_locked written none

        reads_to : (final : Entered) → all.0 ≡ final → HasRead C locked log write (state a log write) (1 + (2 + length b.live + values_read (found_for key_rest b.live))) final
        reads_to final is = subst (λ (x : Entered). HasRead C locked log write (state a log write) (1 + (2 + length b.live + values_read (found_for key_rest b.live))) x) is
            (reads_on C locked log write is_trimmed sound arena_locked (state a log write) (2 + length b.live + values_read (found_for key_rest b.live)) 1 (Enters Locked) all.0 all.1 first)

        -- and has found this
        module _ (is : IsLast (found_for key_rest b.live)) where
          finds_there : (there : There) × HasRead C locked log write (state a log write) (1 + (2 + length b.live + values_read (found_for key_rest b.live))) (Here there)
          finds_there = let (there, here) = ends_here key_rest (with_locked b) none is all.0 all.2 all.3 in (there, reads_to (Here there) here)

      -- at the border of its key it has read all
      pub reads_key : (found : Found) → Finds a write.key write.way found → IsSomeAnd (border_at a.nodes write.way.node.0) (λ x. visit_border key_rest x ≡ VisitHere) → (n : ℕ) → n ≡ 2 + length b.live + values_read found → (there : There) × HasRead C locked log write (state a log write) (1 + n) (Here there)
      reads_key found finds here n count =
          let (none, last) = leads key_rest b VisitHere (sym (some_at (λ (x : BorderView). visit_border key_rest x ≡ VisitHere) (border_at a.nodes write.way.node.0) b here named)) (some_at _ (border_at a.nodes write.way.node.0) b lock named).2 in
          let (there, reads) = finds_there none last in
          let same : values_read found ≡ values_read (found_for key_rest b.live) = ap values_read (found_is a write.key write.way found finds b named) in
          let fields : 1 + (2 + length b.live + values_read (found_for key_rest b.live)) ≡ 1 + n = omega (arith, same, count) in
          (there, subst (λ (k : ℕ). HasRead C locked log write (state a log write) k (Here there)) fields reads)

      -- and may make ready, if it needs no split
      pub at_key : (found : Found) → Finds a write.key write.way found → IsSomeAnd (border_at a.nodes write.way.node.0) (λ x. visit_border key_rest x ≡ VisitHere) → IsSomeAnd (border_at a.nodes write.way.node.0) (λ x. IsStraight write.edit x found)
          → (n : ℕ) → n ≡ 2 + length b.live + values_read found → AtKey C a locked log write found n
      at_key found finds here straight n count =
          let (there, read) = reads_key found finds here n count in
          record {
            there = there;
            act = record {
              may = read.may;
              trimmed = is_trimmed;
              arena = arena_locked;
              sound = sound;
              finds = subst (λ (x : ArenaView). Finds x write.key write.way found) (sym value) (finds_changed a write.key write.way found finds (λ (x : BorderView). with_locked x) (λ x. refl));
              straight = subst (λ (o : Option BorderView). IsSomeAnd o (λ x. IsStraight write.edit x found)) (sym named_locked) (straight_locked write.edit b found (some_at (λ (x : BorderView). IsStraight write.edit x found) (border_at a.nodes write.way.node.0) b straight named));
            };
            read = read;
          }

      -- ---- it continues
      module _ (after : ArenaView) (unlocked : after ≡ with_border_changed locked write.way.node.0 with_unlocked) (kept : KeepsTree locked after) (arena_after : IsArena after) where
        leaves : (steps : ℕ) (final : Entered) (new : Write) → HasRead C locked log write (state a log write) steps final → TreeStep locked after write (entered_stage final) Moved new → PassesAt C a after log write (record { steps = steps + 1; commits = 0; last = Moved }) new
        leaves steps final new has step =
            let here : Write = record write { stage = entered_stage final } in
            let goes = at_step C locked after log log here write.stage (entered_stage final) Moved new refl (step C log) in
            record {
              runs = ends_run C (state a log write) (state locked log here) (state after log new) steps 0 (record { steps = 1; commits = 0; last = Moved }) has.running
                  (one_step C (state locked log here) (state after log new) 0 Moved (run_step C (state locked log here) has.may after log Moved new goes log (stays_trimmed log is_trimmed) sound arena_locked arena_after) refl);
              may = may_again C (state locked log here) has.may after log Moved new goes tt log (stays_trimmed log is_trimmed);
            }

        pub passes_right : (next : NodeNo) → right_for b.right (slice_number key_rest) ≡ Some next → PassesAt C a after log write (record { steps = 3; commits = 0; last = Moved }) (record write { way = way_right write.way next; stage = Seeks })
        passes_right next right = leaves 2 (Right next) (record write { way = way_right write.way next; stage = Seeks })
            (reads_on C locked log write is_trimmed sound arena_locked (state a log write) 1 1 (Enters Locked) (Right next) (reads_right locked write.way.node.0 key_rest (with_locked b) named_locked is_border arena_locked written next right) first)
            (goes_right locked write after next unlocked kept)

        pub passes_below : (place : ℕ) (head : NodeNo) → right_for b.right (slice_number key_rest) ≡ None → found_for key_rest b.live ≡ LinkFound place head → PassesAt C a after log write (record { steps = length b.live + 3 + 2; commits = 0; last = Moved }) (record write { way = way_below write.way head; head = head; stage = Seeks })
        passes_below place head none is =
            let one : values_read (found_for key_rest b.live) ≡ 1 = ap values_read is in
            let count : 1 + (2 + length b.live + values_read (found_for key_rest b.live)) + 1 ≡ length b.live + 3 + 2 = omega (arith, one) in
            subst (λ (n : ℕ). PassesAt C a after log write (record { steps = n; commits = 0; last = Moved }) (record write { way = way_below write.way head; head = head; stage = Seeks })) count
            (leaves (1 + (2 + length b.live + values_read (found_for key_rest b.live))) (BelowEntered head) (record write { way = way_below write.way head; head = head; stage = Seeks })
            (reads_to none (BelowEntered head) (ends_below key_rest (with_locked b) place head none is (all none).0 (all none).2 (all none).3))
            (enters_layer locked after write kept head unlocked))

        -- what it follows
        follows : (last : Progress) (new : Write) (next : Way) (head : NodeNo) (steps : ℕ) → last ≡ Moved → new ≡ record write { way = next; head = new.head } → new.head ≡ head → PassesAt C a after log write (record { steps = steps; commits = 0; last = Moved }) (record write { way = next; head = head; stage = Seeks })
            → PassesAt C a after log write (record { steps = steps; commits = 0; last = last }) new
        follows last new next head steps moved is same passed =
            subst (λ (p : Progress). PassesAt C a after log write (record { steps = steps; commits = 0; last = p }) new) (sym moved)
            (subst (λ (w : Write). PassesAt C a after log write (record { steps = steps; commits = 0; last = Moved }) w) (sym is)
            (subst (λ (h : NodeNo). PassesAt C a after log write (record { steps = steps; commits = 0; last = Moved }) (record write { way = next; head = h })) (sym same)
            (subst (λ (st : Stage). PassesAt C a after log write (record { steps = steps; commits = 0; last = Moved }) (record write { way = next; head = head; stage = st })) (sym idle) passed)))

        -- by where a visit of it leads
        passes_by : (visit : Visit) → Leads key_rest b visit → visit ≢ VisitHere → (last : Progress) (new : Write) → Continues write (went_by write.way visit) last new → PassesAt C a after log write (record { steps = passed_fields visit b.live + 2; commits = 0; last = last }) new
        passes_by Again led on last new to = absurd led
        passes_by (To next) led on last new to =
            let (moved, is, either) = to (way_right write.way next) refl in
            let same : new.head ≡ write.head = elim either [
              | inl stays ↦ stays.1
              | inr deeper ↦ absurd (deeper.0 refl)
            ] in
            follows last new (way_right write.way next) write.head 3 moved is same (passes_right next led)
        passes_by (Below head) (none, place, found) on last new to =
            let (moved, is, either) = to (way_below write.way head) refl in
            let same : new.head ≡ head = elim either [
              | inl stays ↦ absurd (let deeper : write.way.layer + 1 ≡ write.way.layer = stays.0 in omega (arith, deeper))
              | inr deeper ↦ deeper.1
            ] in
            follows last new (way_below write.way head) head (length b.live + 3 + 2) moved is same (passes_below place head none found)
        passes_by VisitHere led on last new to = absurd (on refl)

        pub passes : (visit : Visit) → visit ≡ visit_border key_rest b → visit ≢ VisitHere → (fields : ℕ) → fields ≡ passed_fields visit b.live → (went : Went) → went ≡ went_by write.way visit → (last : Progress) (new : Write) → Continues write went last new → PassesAt C a after log write (record { steps = fields + 2; commits = 0; last = last }) new
        passes visit is on fields count went went_is last new to = subst (λ (n : ℕ). PassesAt C a after log write (record { steps = n + 2; commits = 0; last = last }) new) (sym count)
            (passes_by visit (leads key_rest b visit is (some_at _ (border_at a.nodes write.way.node.0) b lock named).2) on last new (subst (λ (w : Went). Continues write w last new) went_is to))

-- The split of a border in a run: the upper half is copied, one value a step, and then filled, linked and cut.
use Rattle.std.proofs.Common.{ℕ, zero, suc, ◌≡◌, ◌≤◌, ◌<◌, ◌+◌, ◌-◌, ◌==◌, ◌∙◌, arith, Bool, true, false, List, [], ◌∷◌, ◌++◌, get_or, length, map, slice_get, take, Option, Some, if◌then◌else◌, refl, sym, ap, subst}
use Rattle.std.specs.Prelude.{IsSomeAnd}
use Rattle.std.proofs.lemmas.Bool.{eqb-true, eq-eqb}
use Rattle.std.proofs.lemmas.List.{length-append, map-append, take_more}
use Rattle.std.proofs.lemmas.Option.{get_or_from_slice_get}
use Rattle.mt_commit.specs.Log.{LogView, IsLog}
use Rattle.mt_types.specs.declared.numbers.NodeNo.{NodeNo}
use Rattle.mt_word.specs.declared.permutation_word.TheConstants.{SLOTS}
use Rattle.mt_border.specs.Border.{BorderView, with_locked}
use Rattle.mt_border.specs.declared.entry.Entry.{Entry}
use Rattle.mt_border.specs.declared.found.Found.TheVariants.{Absent as AbsentFound, Row as RowFound, OtherSuffix}
use Rattle.mt_border.specs.declared.unwritten.Unwritten.TheVariants.{Nothing}
use Rattle.mt_arena.specs.Node.{border_at}
use Rattle.mt_arena.specs.Arena.{ArenaView, IsArena, with_border_changed}
use Rattle.mt_tree.specs.Descent.{found_for, visit_border}
use Rattle.mt_steps.specs.Entering.{ThereIsTrue, entry_noted}
use Rattle.mt_steps.specs.declared.entering.Outline.{Outline}
use Rattle.mt_steps.specs.declared.entering.There.{There}
use Rattle.mt_steps.specs.declared.entering.There.TheVariants.{Absent, Full, Row as RowThere, Other}
use Rattle.mt_steps.specs.declared.progress.Progress.{Progress}
use Rattle.mt_steps.specs.declared.progress.Progress.TheVariants.{Moved}
use Rattle.mt_steps.specs.Way.{Finds, rest_of}
use Rattle.mt_write.specs.declared.running.WriteRun.{WriteRun}
use Rattle.mt_write.specs.declared.writing.Write.{Write}
use Rattle.mt_write.specs.declared.writing.Stage.{Stage}
use Rattle.mt_write.specs.declared.writing.Stage.TheVariants.{Seeks, Searched, Copies, GivesBack, Spared, HalfFilled, HalfLinked}
use Rattle.mt_write.specs.Follows.{MayBeAt, MayLock, TreeStep, WriteStep}
use Rattle.mt_write.specs.Splitting.{CopiesFrom, IsRead, copied_stage}
use Rattle.mt_write.specs.Runs.{HasRun, IsTrimmed, MayRun, PassesAt, Running, WriteState, state}
use Rattle.mt_write.proofs.CopyLemmas.{copies_value, gives_up, some_left}
use Rattle.mt_write.proofs.RunLemmas.{ends_run, may_again, may_step, one_step, run_step, runs_further, runs_none, stays_trimmed}
use Rattle.mt_write.proofs.StageSteps.{at_step, may_be}
use Rattle.mt_write.proofs.PassLemmas.{HasRead, reads_key}
use Rattle.mt_write.proofs.FindLemmas.{found_is}
use Rattle.mt_steps.proofs.BorderLemmas.{now_named}
use Rattle.mt_steps.proofs.FoundLemmas.{some_at}
use Rattle.mt_tree.specs.Keeping.{KeepsTree}
use Rattle.mt_tree.specs.declared.visit.Visit.TheVariants.{Here as VisitHere}
use Rattle.mt_border.specs.Order.{IsBorder}
use Rattle.mt_write.specs.Writing.{MayStage}
use Rattle.mt_steps.specs.declared.entering.Entered.TheVariants.{Here}

-- ---- steps that move
-- since a state it has made `steps` steps, and continues
pub record HasCome (C : ℕ) (log : LogView) (s : WriteState) (steps : ℕ) (a : ArenaView) (write : Write) : Type 0 where
  pub running : Running C s steps 0 (state a log write)
  pub may : MayRun C (state a log write)

abbrev pub one_moved : WriteRun
one_moved = record { steps = 1; commits = 0; last = Moved }

pub starts : (C : ℕ) (log : LogView) (a : ArenaView) (write : Write) → MayRun C (state a log write) → HasCome C log (state a log write) 0 a write
starts C log a write may = record { running = runs_none C (state a log write); may = may }

-- one step more, from the stage at which it is
module _ (C : ℕ) (log : LogView) (is_trimmed : IsTrimmed log) (sound : IsLog log) (s : WriteState) (steps : ℕ) (a after : ArenaView) (write : Write) (idle stage : Stage) (new : Write) (is : write.stage ≡ stage) (step : WriteStep C a after log log (record write { stage = idle }) stage Moved new)
    (arena : IsArena a) (arena_after : IsArena after) (has : HasCome C log s steps a write) where
  at_it : WriteStep C a after log log write write.stage Moved new
  at_it = at_step C a after log log write idle stage Moved new is step

  last_step : HasRun C (state a log write) one_moved (state after log new)
  last_step = one_step C (state a log write) (state after log new) 0 Moved (run_step C (state a log write) has.may after log Moved new at_it log (stays_trimmed log is_trimmed) sound arena arena_after) refl

  may_then : MayRun C (state after log new)
  may_then = may_again C (state a log write) has.may after log Moved new at_it tt log (stays_trimmed log is_trimmed)

  pub comes_further : HasCome C log s (steps + 1) after new
  comes_further = record { running = runs_further C s (state a log write) (state after log new) steps 0 one_moved has.running last_step tt; may = may_then }

  pub comes_last : HasRun C s (record { steps = steps + 1; commits = 0; last = Moved }) (state after log new) × MayRun C (state after log new)
  comes_last = (ends_run C s (state a log write) (state after log new) steps 0 one_moved has.running last_step, may_then)

-- it may be at the stage at which it is
pub may_be_come : (C : ℕ) (log : LogView) (s : WriteState) (steps : ℕ) (a : ArenaView) (write : Write) (idle stage : Stage) → write.stage ≡ stage → HasCome C log s steps a write → MayBeAt a (record write { stage = idle }) stage
may_be_come C log s steps a write idle stage is has = (C, log, may_be C a log write idle stage is (may_step C (state a log write) has.may))

-- ---- what it has read of a full border
pub full_there : (rest : List ℕ) (there : There) (b : BorderView) (place : ℕ) (outline : Outline) → ThereIsTrue rest there b → found_for rest b.live ≡ AbsentFound place → length b.live ≡ SLOTS → IsRead b outline → there ≡ Full place outline
full_there rest (Absent p) b place outline (found, room) absent full read = absurd (omega (arith, room, full))
full_there rest (Full p own) b place outline (found, outlined, all, keys) absent full read =
    let both : AbsentFound p ≡ AbsentFound place = sym found ∙ absent in
    let same : p ≡ place = cc in
    let right : own.right ≡ outline.right = outlined.bounded.same ∙ sym read.right in
    let order : own.order ≡ outline.order = outlined.order ∙ sym read.order in
    let noted : own.keys ≡ outline.keys = keys ∙ sym read.keys in
    let lines : own ≡ outline = λ i. record { right = right i; order = order i; keys = noted i } in
    ap (λ (n : ℕ). Full n own) same ∙ ap (λ (o : Outline). Full place o) lines
full_there rest (RowThere p row) b place outline (found, is) absent full read = absurd (let clash : RowFound p ≡ AbsentFound place = sym found ∙ absent in cc)
full_there rest (Other p suffix row) b place outline (found, is) absent full read = absurd (let clash : OtherSuffix p ≡ AbsentFound place = sym found ∙ absent in cc)

-- the keys that are noted
pub noted_more : (live : List Entry) (place : ℕ) (entry : Entry) → place < length live → slice_get live place ≡ Some entry → map entry_noted (take place live) ++ (entry_noted entry ∷ []) ≡ map entry_noted (take (place + 1) live)
noted_more live place entry inside is =
    let same : get_or live place entry ≡ entry = get_or_from_slice_get live place entry entry is in
    let more : take (place + 1) live ≡ take place live ++ (entry ∷ []) = take_more live place entry inside ∙ ap (λ (e : Entry). take place live ++ (e ∷ [])) same in
    sym (map-append entry_noted (take place live) (entry ∷ [])) ∙ ap (map entry_noted) (sym more)

-- ---- the copies
module _ (C : ℕ) (a : ArenaView) (log : LogView) (write : Write) (half : NodeNo) (cut place : ℕ) (outline : Outline) where
  abbrev pub at : Stage → Write
  at stage = record write { stage = stage }

  -- more are left
  pub not_last : (entries : List Entry) → cut + length entries < SLOTS → copied_stage half cut place outline entries ≡ Copies half cut place outline entries
  not_last entries some = go (cut + length entries == SLOTS) refl
    where
      go : (all : Bool) → (cut + length entries == SLOTS) ≡ all → (if all then Spared half cut place outline.right entries else Copies half cut place outline entries) ≡ Copies half cut place outline entries
      go true last = absurd (let all : cut + length entries ≡ SLOTS = eqb-true (cut + length entries) SLOTS last in omega (arith, all, some))
      go false more = refl

  -- or none
  pub is_last : (entries : List Entry) → cut + length entries ≡ SLOTS → copied_stage half cut place outline entries ≡ Spared half cut place outline.right entries
  is_last entries all = ap (λ (last : Bool). if last then Spared half cut place outline.right entries else Copies half cut place outline entries) (eq-eqb (cut + length entries) SLOTS all)

  module _ (is_trimmed : IsTrimmed log) (sound : IsLog log) (arena : IsArena a) (s : WriteState) (steps : ℕ) (start : List Entry) (some : cut + length start < SLOTS) (has : HasCome C log s steps a (at (Copies half cut place outline start))) where
    copies_more : (n : ℕ) (copies : List Entry) → CopiesFrom a write.way.node.0 outline cut start n copies → cut + length start + n ≤ SLOTS → (length copies ≡ length start + n) × HasCome C log s (steps + n) a (at (copied_stage half cut place outline copies))
    copies_more zero copies same within =
        let none : steps ≡ steps + 0 = omega arith in
        let long : length copies ≡ length start = ap (λ (es : List Entry). length es) same in
        let here = subst (λ (st : Stage). HasCome C log s steps a (at st)) (sym (not_last start some)) has in
        (omega (arith, long), subst (λ (k : ℕ). HasCome C log s k a (at (copied_stage half cut place outline copies))) none (subst (λ (es : List Entry). HasCome C log s steps a (at (copied_stage half cut place outline es))) (sym same) here))
    copies_more (suc n) copies (before, chain, value) within =
        let (long, so_far) = copies_more n before chain (omega (arith, within)) in
        let left : cut + length before < SLOTS = omega (arith, long, within) in
        let here = subst (λ (st : Stage). HasCome C log s (steps + n) a (at st)) (not_last before left) so_far in
        let next = comes_further C log is_trimmed sound s (steps + n) a a (at (Copies half cut place outline before)) write.stage (Copies half cut place outline before) (at (copied_stage half cut place outline copies)) refl
        (copies_value a write half cut place outline before copies value C log) arena arena here in
        let count : length copies ≡ length before + 1 = ap (λ (es : List Entry). length es) value.more ∙ length-append before (value.entry ∷ []) in
        let one : steps + n + 1 ≡ steps + suc n = omega arith in
        (omega (arith, long, count), subst (λ (k : ℕ). HasCome C log s k a (at (copied_stage half cut place outline copies))) one next)

    -- all are copied
    pub copies_all : (copies : List Entry) → CopiesFrom a write.way.node.0 outline cut start (SLOTS - (cut + length start)) copies → HasCome C log s (steps + (SLOTS - (cut + length start))) a (at (Spared half cut place outline.right copies))
    copies_all copies chain =
        let (long, come) = copies_more (SLOTS - (cut + length start)) copies chain (omega (arith, some)) in
        subst (λ (st : Stage). HasCome C log s (steps + (SLOTS - (cut + length start))) a (at st)) (is_last copies (omega (arith, long, some))) come

    -- or some, and then none can be
    pub copies_some : (n : ℕ) (copies : List Entry) → CopiesFrom a write.way.node.0 outline cut start n copies → cut + length start + n < SLOTS → HasRun C s (record { steps = steps + n + 1; commits = 0; last = Moved }) (state a log (at (GivesBack half))) × MayRun C (state a log (at (GivesBack half)))
    copies_some n copies chain within =
        let (long, come) = copies_more n copies chain (omega (arith, within)) in
        let here = subst (λ (st : Stage). HasCome C log s (steps + n) a (at st)) (not_last copies (omega (arith, long, within))) come in
        comes_last C log is_trimmed sound s (steps + n) a a (at (Copies half cut place outline copies)) write.stage (Copies half cut place outline copies) (at (GivesBack half)) refl
        (gives_up a write half cut place outline copies C log) arena arena here

-- ---- from the spare on
module _ (C : ℕ) (a : ArenaView) (log : LogView) (write : Write) (half : NodeNo) (cut place : ℕ) (outline : Outline) (start : List Entry) (may : MayRun C (state a log (record write { stage = Copies half cut place outline start }))) (is_trimmed : IsTrimmed log) (sound : IsLog log) where
  abbrev prepared : Write
  prepared = record write { stage = Copies half cut place outline start }

  begins : HasCome C log (state a log prepared) 0 a prepared
  begins = starts C log a prepared may

  -- what the copies ask for
  pub some_to_copy : cut + length start < SLOTS
  some_to_copy = some_left a write half cut place outline start (may_be_come C log (state a log prepared) 0 a prepared write.stage (Copies half cut place outline start) refl begins)

  pub read_there : IsSomeAnd (border_at a.nodes write.way.node.0) (λ b. IsRead b outline × (length b.live ≡ SLOTS) × (b.unwritten ≡ Nothing))
  read_there =
      let (b, at, flagged, c, s, read, are, p) = may.true.0 in
      subst (λ (o : Option BorderView). IsSomeAnd o (λ b. IsRead b outline × (length b.live ≡ SLOTS) × (b.unwritten ≡ Nothing))) (sym at.named) (read, c.full, at.written)

  module _ (arena : IsArena a) where
    -- a copy fails
    pub gives_up_at : (n : ℕ) (copies : List Entry) → CopiesFrom a write.way.node.0 outline cut start n copies → cut + length start + n < SLOTS → PassesAt C a a log prepared (record { steps = n + 1; commits = 0; last = Moved }) (record write { stage = GivesBack half })
    gives_up_at n copies chain within =
        let same : 0 + n + 1 ≡ n + 1 = omega arith in
        let (runs, next) = copies_some C a log write half cut place outline is_trimmed sound arena (state a log prepared) 0 start some_to_copy begins n copies chain within in
        record { runs = subst (λ (k : ℕ). HasRun C (state a log prepared) (record { steps = k; commits = 0; last = Moved }) (state a log (record write { stage = GivesBack half }))) same runs; may = next }

    -- all are copied
    module _ (copies : List Entry) (chain : CopiesFrom a write.way.node.0 outline cut start (SLOTS - (cut + length start)) copies) where
      abbrev made : ℕ
      made = 0 + (SLOTS - (cut + length start))

      abbrev spared : Write
      spared = record write { stage = Spared half cut place outline.right copies }

      spared_come : HasCome C log (state a log prepared) made a spared
      spared_come = copies_all C a log write half cut place outline is_trimmed sound arena (state a log prepared) 0 start some_to_copy begins copies chain

      pub may_fill : MayBeAt a write (Spared half cut place outline.right copies)
      may_fill = may_be_come C log (state a log prepared) made a spared write.stage (Spared half cut place outline.right copies) refl spared_come

      module _ (filled : ArenaView) (one : Write) (p : Progress) (fills : TreeStep a filled write (Spared half cut place outline.right copies) p one) (moves : p ≡ Moved) (turns : one ≡ record write { stage = HalfFilled half cut place }) (arena_filled : IsArena filled) where
        filled_come : HasCome C log (state a log prepared) (made + 1) filled one
        filled_come = comes_further C log is_trimmed sound (state a log prepared) made a filled spared write.stage (Spared half cut place outline.right copies) one refl
            (subst (λ (q : Progress). WriteStep C a filled log log write (Spared half cut place outline.right copies) q one) moves (fills C log)) arena arena_filled spared_come

        pub may_link : MayBeAt filled one (HalfFilled half cut place)
        may_link = may_be_come C log (state a log prepared) (made + 1) filled one one.stage (HalfFilled half cut place) (ap (λ (w : Write). w.stage) turns) filled_come

        module _ (linked : ArenaView) (two : Write) (q : Progress) (links : TreeStep filled linked one (HalfFilled half cut place) q two) (moves_on : q ≡ Moved) (turns_on : two ≡ record one { stage = HalfLinked half cut place }) (arena_linked : IsArena linked) where
          linked_come : HasCome C log (state a log prepared) (made + 1 + 1) linked two
          linked_come = comes_further C log is_trimmed sound (state a log prepared) (made + 1) filled linked one one.stage (HalfFilled half cut place) two (ap (λ (w : Write). w.stage) turns)
              (subst (λ (x : Progress). WriteStep C filled linked log log one (HalfFilled half cut place) x two) moves_on (links C log)) arena_filled arena_linked filled_come

          pub may_cut_half : MayBeAt linked two (HalfLinked half cut place)
          may_cut_half = may_be_come C log (state a log prepared) (made + 1 + 1) linked two two.stage (HalfLinked half cut place) (ap (λ (w : Write). w.stage) turns_on) linked_come

          module _ (after : ArenaView) (new : Write) (r : Progress) (cuts : TreeStep linked after two (HalfLinked half cut place) r new) (moves_last : r ≡ Moved) (arena_after : IsArena after) where
            pub splits_off : (left : ℕ) → left ≡ SLOTS - cut - length start → PassesAt C a after log prepared (record { steps = left + 3; commits = 0; last = Moved }) new
            splits_off left count =
                let (runs, next) = comes_last C log is_trimmed sound (state a log prepared) (made + 1 + 1) linked after two two.stage (HalfLinked half cut place) new (ap (λ (w : Write). w.stage) turns_on)
                (subst (λ (x : Progress). WriteStep C linked after log log two (HalfLinked half cut place) x new) moves_last (cuts C log)) arena_linked arena_after linked_come in
                let some = some_to_copy in
                let steps : made + 1 + 1 + 1 ≡ left + 3 = omega (arith, count, some) in
                record { runs = subst (λ (k : ℕ). HasRun C (state a log prepared) (record { steps = k; commits = 0; last = Moved }) (state after log new)) steps runs; may = next }

-- ---- from the lock of a full border on
module _ (C : ℕ) (a locked : ArenaView) (log : LogView) (write : Write) (b : BorderView) (place : ℕ) (outline : Outline) (named : border_at locked.nodes write.way.node.0 ≡ Some b) (absent : found_for (rest_of write.key write.way) b.live ≡ AbsentFound place) (full : length b.live ≡ SLOTS) (noted : IsRead b outline) where
  abbrev pub searches : Write
  searches = record write { stage = Searched (Full place outline) }

  -- it has read all of it
  pub reads_full : (there : There) (n : ℕ) → HasRead C locked log write (state a log write) n (Here there) → HasCome C log (state a log write) n locked searches
  reads_full there n read =
      let (x, at, told) = read.may.true.0 in
      let same : x ≡ b = (let both : ◌≡◌ {A = Option BorderView} (Some x) (Some b) = sym at.named ∙ named in cc) in
      let is = full_there (rest_of write.key write.way) there b place outline (subst (λ (y : BorderView). ThereIsTrue (rest_of write.key write.way) there y) same told) absent full noted in
      subst (λ (t : There). HasCome C log (state a log write) n locked (record write { stage = Searched t })) is (record { running = read.running; may = read.may })

-- a full border, which is not locked, is locked and read
module _ (C : ℕ) (a locked : ArenaView) (log : LogView) (write : Write) (may : MayRun C (state a log write)) (is_trimmed : IsTrimmed log) (idle : write.stage ≡ Seeks) (lock : MayLock a write.way.node.0) (value : locked ≡ with_border_changed a write.way.node.0 with_locked) (keeps : KeepsTree a locked) (arena : IsArena a) (arena_locked : IsArena locked) (sound : IsLog log)
    (b : BorderView) (named : border_at a.nodes write.way.node.0 ≡ Some b) (sound_locked : IsSomeAnd (border_at locked.nodes write.way.node.0) IsBorder) (place : ℕ) (finds : Finds a write.key write.way (AbsentFound place)) (here : IsSomeAnd (border_at a.nodes write.way.node.0) (λ x. visit_border (rest_of write.key write.way) x ≡ VisitHere))
    (full : IsSomeAnd (border_at a.nodes write.way.node.0) (λ x. length x.live ≡ SLOTS)) (outline : Outline) (noted : IsRead b outline) where
  abbrev reading : Write
  reading = record write { stage = Searched (Full place outline) }

  come_searched : HasCome C log (state a log write) 18 locked reading
  come_searched =
      let long : length b.live ≡ SLOTS = some_at (λ (x : BorderView). length x.live ≡ SLOTS) (border_at a.nodes write.way.node.0) b full named in
      let now : border_at locked.nodes write.way.node.0 ≡ Some (with_locked b) = subst (λ (x : ArenaView). border_at x.nodes write.way.node.0 ≡ Some (with_locked b)) (sym value) (now_named a write.way.node.0 b with_locked named) in
      let (there, read) = reads_key C a locked log write may is_trimmed idle lock value keeps arena arena_locked sound b named sound_locked (AbsentFound place) finds here 17 (omega (arith, long)) in
      reads_full C a locked log write (with_locked b) place outline now (sym (found_is a write.key write.way (AbsentFound place) finds b named)) long (record { right = noted.right; order = noted.order; keys = noted.keys }) there 18 read

  pub may_ready : MayStage C locked log write (Searched (Full place outline))
  may_ready = may_be C locked log reading write.stage (Searched (Full place outline)) refl (may_step C (state locked log reading) come_searched.may)

  -- and its split is prepared, or it has failed
  module _ (spared : ArenaView) (stage : Stage) (ready : WriteStep C locked spared log log write (Searched (Full place outline)) Moved (record write { stage = stage })) (arena_spared : IsArena spared) where
    come_ready : HasCome C log (state a log write) 19 spared (record write { stage = stage })
    come_ready = comes_further C log is_trimmed sound (state a log write) 18 locked spared reading write.stage (Searched (Full place outline)) (record write { stage = stage }) refl ready arena_locked arena_spared come_searched

    pub stops_there : HasRun C (state a log write) (record { steps = 19; commits = 0; last = Moved }) (state spared log (record write { stage = stage })) × MayRun C (state spared log (record write { stage = stage }))
    stops_there = comes_last C log is_trimmed sound (state a log write) 18 locked spared reading write.stage (Searched (Full place outline)) (record write { stage = stage }) refl ready arena_locked arena_spared come_searched

    pub may_split : (at : Stage) → stage ≡ at → MayRun C (state spared log (record write { stage = at }))
    may_split at is = subst (λ (st : Stage). MayRun C (state spared log (record write { stage = st }))) is come_ready.may

    pub splits_there : (at : Stage) → stage ≡ at → (part : WriteRun) (after : ArenaView) (new : Write) → PassesAt C spared after log (record write { stage = at }) part new → HasRun C (state a log write) (record { steps = 19 + part.steps; commits = part.commits; last = part.last }) (state after log new)
    splits_there at is part after new passes =
        let come = subst (λ (st : Stage). HasCome C log (state a log write) 19 spared (record write { stage = st })) is come_ready in
        let all : 0 + part.commits ≡ part.commits = omega arith in
        subst (λ (k : ℕ). HasRun C (state a log write) (record { steps = 19 + part.steps; commits = k; last = part.last }) (state after log new)) all
        (ends_run C (state a log write) (state spared log (record write { stage = at })) (state after log new) 19 0 part come.running passes.runs)

-- A write knows the head of its layer at each stage, and posts the right half of the border that it has split.
use Rattle.std.proofs.Common.{ℕ, ◌≡◌, ◌≢◌, ◌≤◌, ◌+◌, ◌⊎◌, inl, inr, List, [], ◌∷◌, Option, Some, None, IsSome, true, false, refl, sym, ap, subst, ◌∙◌}
use Rattle.std.specs.Prelude.{IsSomeAnd}
use Rattle.std.specs.Option.{option_and_then}
use Rattle.mt_slice.specs.Place.{slices_above}
use Rattle.mt_types.specs.declared.numbers.NodeNo.{NodeNo}
use Rattle.mt_types.specs.declared.event.Request.{Request}
use Rattle.mt_commit.specs.Log.{LogView}
use Rattle.mt_border.specs.declared.unwritten.Unwritten.TheVariants.{Nothing}
use Rattle.mt_border.specs.Border.{BorderView, with_unlocked}
use Rattle.mt_arena.specs.Node.{border_at, border_of}
use Rattle.mt_arena.specs.Arena.{ArenaView, with_border_changed}
use Rattle.mt_chart.specs.Tree.{Among, first, later}
use Rattle.mt_chart.specs.Chart.{Spot, spot, at_level, top, on, Evolves}
use Rattle.mt_chart.proofs.Walk.{known_kept}
use Rattle.mt_tree.specs.Keeping.{KeepsTree, IsIndexAt}
use Rattle.mt_steps.specs.declared.way.Way.{Way}
use Rattle.mt_steps.specs.declared.progress.Progress.{Progress}
use Rattle.mt_steps.specs.declared.progress.Progress.TheVariants.{Moved, Waits, Committed, Answered, Refused}
use Rattle.mt_steps.specs.World.{World, IsWorld, RowsAreOfKeys, NotAmong, Goes, GoesBy}
use Rattle.mt_steps.specs.Way.{prefix_of, IsHeadOf}
use Rattle.mt_steps.specs.Step.{Held, Truth, StepLaw, ThenTrue, IsQuiet}
use Rattle.mt_steps.proofs.BorderLemmas.{others_named, goes_border, locked_may, keys_same, mine_free, among_one}
use Rattle.mt_post.specs.declared.posting.Posting.{Posting}
use Rattle.mt_post.specs.declared.posting.PostEnd.{PostEnd}
use Rattle.mt_post.specs.declared.posting.Progressed.TheVariants.{Moved as WentOn, Waits as Again, Ended}
use Rattle.mt_post.specs.Posting.{PostLaw, PostingIsTrue, NewPostingIsTrue, owned as posting_owned}
use Rattle.mt_write.specs.declared.writing.Edit.{Edit}
use Rattle.mt_write.specs.declared.writing.Halves.{Halves}
use Rattle.mt_write.specs.declared.writing.Ending.{Ending}
use Rattle.mt_write.specs.declared.writing.Ending.TheVariants.{Stored as EndStored, Failed as EndFailed}
use Rattle.mt_write.specs.declared.writing.Stage.{Stage}
use Rattle.mt_write.specs.declared.writing.Stage.TheVariants.{Posts, Stored, Failed}
use Rattle.mt_write.specs.Held.{edit_request, stage_held, owned, ending_stage}
use Rattle.mt_write.specs.Writing.{StageIsTrue, HeadedStage, HasLocked, MayEnd}
use Rattle.mt_steps.specs.World.{IsLockedBorder}
use Rattle.mt_steps.specs.declared.way.Went.{Went}
use Rattle.mt_steps.specs.declared.way.Went.TheVariants.{To}
use Rattle.mt_steps.specs.Way.{GoesTo, Visits}
use Rattle.mt_tree.proofs.AgeLemmas.{ages_unlocked}
use Rattle.mt_steps.proofs.WayLemmas.{starts_at_head}
use Rattle.mt_steps.proofs.FrameLemmas.{goes_same, quiet_same}
use Rattle.mt_write.specs.declared.writing.Stage.TheVariants.{Seeks}
use Rattle.mt_write.proofs.WriteLemmas.{seek_again, otherwise_tells, split_otherwise, quiet_step}

-- ---- what is true of a call after a step, with more that lasts
goes_more : {commit : Option ℕ} (now : ℕ) (a after : ArenaView) (w : World) (owned owns : List ℕ) (Then More : World → Type 0) → (g : GoesBy commit now a after w owned owns Then) → (((begun : ℕ) → begun ≤ now → Evolves begun w.chart g.next.chart) → Then g.next → More g.next) → GoesBy commit now a after w owned owns More
goes_more now a after w owned owns Then More g more = record { next = g.next; world = g.world; evolves = g.evolves; leaves = g.leaves; takes = g.takes; spots = g.spots; age = g.age; true = more g.evolves g.true }

then_more : (p : Progress) (moves : ℕ) (True More : ℕ → World → Type 0) (next : World) → ((m : ℕ) → True m next → More m next) → ThenTrue p moves True next → ThenTrue p moves More next
then_more Moved moves True More next more truth = more (moves + 1) truth
then_more Waits moves True More next more truth = more 0 truth
then_more (Committed number) moves True More next more truth = more 0 truth
then_more (Answered answer) moves True More next more truth = tt
then_more (Refused refusal) moves True More next more truth = tt

-- ---- the head of the layer, which others' steps and a write's own leave known
module _ (C : ℕ) (a after : ArenaView) (log left : LogView) (request : Request) (key : List ℕ) (edit : Edit) (way next_way : Way) (head : NodeNo) (stage new : Stage) (held then : Held) (p : Progress) (same : prefix_of key way ≡ prefix_of key next_way) where
  pub headed : StepLaw C a after log left request held p then (λ begun moves past x w. StageIsTrue C key edit way stage begun x w) (λ begun moves past x w. StageIsTrue C key edit next_way new begun x w)
      → StepLaw C a after log left request held p then (λ begun moves past x w. HeadedStage C key edit way head stage begun x w) (λ begun moves past x w. HeadedStage C key edit next_way head new begun x w)
  headed law = record {
    steps = λ now begun moves past w world before truth.
        let s = law.steps now begun moves past w world before truth.0 in
        record {
          goes = goes_more now a after w _ _ _ _ s.goes (λ evolves. then_more p moves (λ m x. StageIsTrue C key edit next_way new begun after x) (λ m x. HeadedStage C key edit next_way head new begun after x) s.goes.next
              (λ m t. (t, subst (λ (q : List ℕ). IsHeadOf s.goes.next begun head.0 q) same (known_kept begun head.0 top (prefix_of key way) 0 w.chart s.goes.next.chart (evolves begun before) truth.1))));
          does = s.does;
          reserved = s.reserved;
          bounds = s.bounds;
          blocked = s.blocked;
          may = s.may;
        };
  }

-- if the call ends, nothing need be true of it then
pub headed_end : (C : ℕ) (a after : ArenaView) (log left : LogView) (request : Request) (key : List ℕ) (edit : Edit) (way : Way) (head : NodeNo) (stage : Stage) (held then : Held) (p : Progress) (Then : Truth)
    → StepLaw C a after log left request held p then (λ begun moves past x w. StageIsTrue C key edit way stage begun x w) Then → StepLaw C a after log left request held p then (λ begun moves past x w. HeadedStage C key edit way head stage begun x w) Then
headed_end C a after log left request key edit way head stage held then p Then law = record { steps = λ now begun moves past w world before truth. law.steps now begun moves past w world before truth.0 }

-- on its way again from the head of layer 0
module _ (C : ℕ) (a : ArenaView) (key : List ℕ) (edit : Edit) (way : Way) (head : NodeNo) (log : LogView) where
  abbrev start : Way
  start = record { node = record { 0 = 0 }; layer = 0 }

  pub restarts : StepLaw C a a log log (edit_request key edit) (stage_held way.node.0 Seeks) Waits (stage_held 0 Seeks) (λ begun moves past x w. HeadedStage C key edit way head Seeks begun x w) (λ begun moves past x w. HeadedStage C key edit start start.node Seeks begun x w)
  restarts = record {
    steps = λ now begun moves past w world before truth.
        let s = (seek_again C a key edit way log).steps now begun moves past w world before truth.0 in
        record {
          goes = record { next = s.goes.next; world = s.goes.world; evolves = s.goes.evolves; leaves = s.goes.leaves; takes = s.goes.takes; spots = s.goes.spots; age = s.goes.age; true = (s.goes.true, starts_at_head a now s.goes.next begun s.goes.world) };
          does = s.does;
          reserved = s.reserved;
          bounds = s.bounds;
          blocked = s.blocked;
          may = s.may;
        };
  }

  -- it moves on, in its layer or to the head of the next
  pub moves_on : (went : Went) → Visits a key way went → (next : Way) (new_head : NodeNo) → went ≡ To next → ((next.layer ≡ way.layer) × (new_head ≡ head)) ⊎ ((next.layer ≢ way.layer) × (new_head ≡ next.node))
      → StepLaw C a a log log (edit_request key edit) (stage_held way.node.0 Seeks) Moved (stage_held next.node.0 Seeks) (λ begun moves past x w. HeadedStage C key edit way head Seeks begun x w) (λ begun moves past x w. HeadedStage C key edit next new_head Seeks begun x w)
  moves_on went visits next new_head is either = record {
    steps = λ now begun moves past w world before truth.
        let (way_on, move, deeper) = subst (λ (t : Went). GoesTo a begun key way w t) is (visits.goes now w begun world truth.0) in
        quiet_step key edit
        (goes_same now a w _ [] [] refl world (
          way_on,
          elim either [
            | inl stays ↦ subst (λ (h : NodeNo). IsHeadOf w begun h.0 (prefix_of key next)) (sym stays.1) (subst (λ (l : ℕ). IsHeadOf w begun head.0 (slices_above l key)) (sym stays.0) truth.1)
            | inr goes ↦ subst (λ (h : NodeNo). IsHeadOf w begun h.0 (prefix_of key next)) (sym goes.1) (elim deeper [ inl same ↦ absurd (goes.0 same) | inr known ↦ known.1 ])
          ],
        ))
        (quiet_same a log).content refl refl (inl refl);
  }

-- ---- the left half is unlocked
module _ (C : ℕ) (a : ArenaView) (log : LogView) (key : List ℕ) (edit : Edit) (way : Way) (split : Halves) (after : ArenaView) (is : after ≡ with_border_changed a split.left.0 with_unlocked) (keeps : KeepsTree a after) where
  abbrev on_half : Way
  on_half = record { node = split.half; layer = way.layer }

  among_two : (other : ℕ) → Among other (split.half.0 ∷ split.left.0 ∷ []) → other ≢ split.left.0 → Among other (split.half.0 ∷ [])
  among_two other first ne = first
  among_two other (later first) ne = absurd (ne refl)
  among_two other (later (later i)) ne = elim i [ ]

  widen : (other : ℕ) → Among other (split.half.0 ∷ []) → Among other (split.half.0 ∷ split.left.0 ∷ [])
  widen other first = first
  widen other (later i) = elim i [ ]

  unlocks : (now : ℕ) (w : World) (Then : World → Type 0) → IsWorld a now w → HasLocked (prefix_of key way) a w way.node.0 (Some split) → Then w
      → Goes now a after w (split.half.0 ∷ split.left.0 ∷ []) (split.half.0 ∷ []) Then × IsQuiet a after log log
  unlocks now w Then world has truth =
      let kept = keeps.keeps now w.twins w.chart world.index in
      let left = has.locked split.left.0 (later first) in
      let unlock : BorderView → BorderView = λ x. with_unlocked x in
      let new : ArenaView = with_border_changed a split.left.0 unlock in (
        subst (λ (x : ArenaView). Goes now a x w (split.half.0 ∷ split.left.0 ∷ []) (split.half.0 ∷ []) Then) (sym is)
            (goes_border a split.left.0 left.b unlock left.named now w (split.half.0 ∷ split.left.0 ∷ []) (split.half.0 ∷ []) Then world (λ known. (ages_unlocked left.b, inr refl)) (subst (λ (x : ArenaView). IsIndexAt x now w.twins w.chart) is kept.index)
            (subst (λ (x : ArenaView). RowsAreOfKeys x) is (keys_same a after kept.content world.keys))
            (mine_free a split.left.0 w (split.half.0 ∷ split.left.0 ∷ []) (later first)) (λ other i. inl (widen other i)) (λ other ne i. among_two other i ne)
            (λ taken. absurd (elim taken [ inl locked ↦ (let clash : false ≡ true = locked in cc) | inr none ↦ (let some : IsSome (let nothing : Option Spot = None in nothing) = subst (λ (x : Option Spot). IsSome x) none left.known in cc) ])) (locked_may a split.left.0 left.b unlock left.named now w world left.locked left.free (inr left.alive)) truth),
        record { content = kept.content; trimmed = refl; deltas = refl; rows = refl },
      )

  module _ (head : NodeNo) (posting : Posting) (head_is : posting.head ≡ head) (half_is : posting.half ≡ split.half) (r : BorderView) (read : border_at a.nodes split.half.0 ≡ Some r) (low_is : posting.low ≡ r.low) (new : NewPostingIsTrue posting) where
    -- the posting begins
    begins : (begun : ℕ) (w : World) → HasLocked (prefix_of key way) a w way.node.0 (Some split) → IsHeadOf w begun head.0 (prefix_of key way) → PostingIsTrue begun posting after w × (posting_owned posting ≡ posting.half.0 ∷ [])
    begins begun w has known =
        let k = has.locked split.half.0 first in
        let differ : split.half.0 ≢ split.left.0 = λ e. has.halves.apart (sym e) in
        let left = has.locked split.left.0 (later first) in
        let here : border_at after.nodes split.half.0 ≡ Some k.b = subst (λ (x : ArenaView). border_at x.nodes split.half.0 ≡ Some k.b) (sym is) (ap (option_and_then border_of) (others_named a split.left.0 left.b with_unlocked left.named split.half.0 differ) ∙ k.named) in
        let low : posting.low ≡ has.halves.low = low_is ∙ has.halves.low_is r read in
        new.begins after w begun (prefix_of key way) (record {
          b = k.b;
          named = ap (λ (h : NodeNo). border_at after.nodes h.0) half_is ∙ here;
          low_is = has.halves.low_is k.b k.named ∙ sym low;
          locked = k.locked;
          alive = k.alive;
          written = k.written;
          place = ap (λ (h : NodeNo). w.chart h.0) half_is ∙ (has.halves.place ∙ ap (λ (l : ℕ). Some (spot (at_level 0) (prefix_of key way) l (on false))) (sym low));
          free = subst (λ (h : NodeNo). NotAmong h.0 w.closing) (sym half_is) k.free;
        }) (subst (λ (h : NodeNo). IsHeadOf w begun h.0 (prefix_of key way)) (sym head_is) known)

    abbrev Posted : Ending → ℕ → World → Type 0
    Posted ending begun next = HeadedStage C key edit on_half head (Posts posting ending) begun after next

    goes_on : (now begun : ℕ) (w : World) (ending : Ending) → IsWorld a now w → begun ≤ now → HasLocked (prefix_of key way) a w way.node.0 (Some split) → MayEnd key edit ending → IsHeadOf w begun head.0 (prefix_of key way)
        → Goes now a after w (owned way.node.0 (Some split)) (posting_owned posting) (Posted ending begun) × IsQuiet a after log log
    goes_on now begun w ending world before has may known =
        let (truth, owns) = begins begun w has known in
        let (goes, quiet) = unlocks now w (Posted ending begun) world has ((truth, half_is, may), known) in
        (subst (λ (l : List ℕ). Goes now a after w (owned way.node.0 (Some split)) l (Posted ending begun)) (sym (owns ∙ ap (λ (h : NodeNo). h.0 ∷ []) half_is)) goes, quiet)

    pub unlocks_left : (ending : Ending) → StepLaw C a after log log (edit_request key edit) (stage_held way.node.0 (ending_stage ending (Some split))) Moved (stage_held split.half.0 (Posts posting ending))
        (λ begun moves past x w. HeadedStage C key edit way head (ending_stage ending (Some split)) begun x w) (λ begun moves past x w. HeadedStage C key edit on_half head (Posts posting ending) begun x w)
    unlocks_left (EndStored commit) = record {
      steps = λ now begun moves past w world before truth.
          let (goes, quiet) = goes_on now begun w (EndStored commit) world before truth.0 tt truth.1 in
          quiet_step key edit goes quiet.content refl refl (inl refl);
    }
    unlocks_left (EndFailed refusal) = record {
      steps = λ now begun moves past w world before truth.
          let (goes, quiet) = goes_on now begun w (EndFailed refusal) world before truth.0.0 (record { may = truth.0.1; otherwise = split_otherwise a w key way refusal split truth.0.2 }) truth.1 in
          quiet_step key edit goes quiet.content refl refl (inl refl);
    }

-- both halves are locked
pub halves_locked : (C begun : ℕ) (a : ArenaView) (w : World) (key : List ℕ) (edit : Edit) (way : Way) (split : Halves) (ending : Ending) → StageIsTrue C key edit way (ending_stage ending (Some split)) begun a w → IsLockedBorder a w split.left.0 × IsLockedBorder a w split.half.0
halves_locked C begun a w key edit way split (EndStored commit) truth = (truth.locked split.left.0 (later first), truth.locked split.half.0 first)
halves_locked C begun a w key edit way split (EndFailed refusal) truth = (truth.0.locked split.left.0 (later first), truth.0.locked split.half.0 first)

pub is_locked_border : (a : ArenaView) (w : World) (number : ℕ) → IsLockedBorder a w number → IsSomeAnd (border_at a.nodes number) (λ b. b.version.locked ≡ true)
is_locked_border a w number k = subst (λ (o : Option BorderView). IsSomeAnd o (λ b. b.version.locked ≡ true)) (sym k.named) k.locked

pub is_written_border : (a : ArenaView) (w : World) (number : ℕ) → IsLockedBorder a w number → IsSomeAnd (border_at a.nodes number) (λ b. b.unwritten ≡ Nothing)
is_written_border a w number k = subst (λ (o : Option BorderView). IsSomeAnd o (λ b. b.unwritten ≡ Nothing)) (sym k.named) k.written

-- ---- a step of the posting
module _ (C : ℕ) (a after : ArenaView) (log : LogView) (key : List ℕ) (edit : Edit) (way : Way) (head : NodeNo) (posting then : Posting) (ending : Ending) (same : then ≡ record posting { waiting = then.waiting; stage = then.stage }) where
  abbrev PostingStep : Progress → Stage → Type 0
  PostingStep p stage = StepLaw C a after log log (edit_request key edit) (stage_held way.node.0 (Posts posting ending)) p (stage_held way.node.0 stage) (λ begun moves past x w. HeadedStage C key edit way head (Posts posting ending) begun x w) (λ begun moves past x w. HeadedStage C key edit way head stage begun x w)

  known_on : (begun : ℕ) (w next : World) → Evolves begun w.chart next.chart → IsHeadOf w begun head.0 (prefix_of key way) → IsHeadOf next begun head.0 (prefix_of key way)
  known_on begun w next evolves known = known_kept begun head.0 top (prefix_of key way) 0 w.chart next.chart evolves known

  pub posts_on : PostLaw a after posting WentOn then → PostingStep Moved (Posts then ending)
  posts_on law = record {
    steps = λ now begun moves past w world before truth.
        let (goes, content) = law.steps now begun w world before truth.0.0 in
        quiet_step key edit
        (goes_more now a after w _ _ _ (λ x. HeadedStage C key edit way head (Posts then ending) begun after x) goes (λ evolves t. ((t, ap (λ (q : Posting). q.half) same ∙ truth.0.1, truth.0.2), known_on begun w goes.next (evolves begun before) truth.1)))
        content refl refl (inl refl);
  }

  pub posts_again : PostLaw a after posting Again then → PostingStep Waits (Posts then ending)
  posts_again law = record {
    steps = λ now begun moves past w world before truth.
        let (goes, content) = law.steps now begun w world before truth.0.0 in
        record {
          goes = goes_more now a after w _ _ _ (λ x. HeadedStage C key edit way head (Posts then ending) begun after x) goes (λ evolves t. ((t, ap (λ (q : Posting). q.half) same ∙ truth.0.1, truth.0.2), known_on begun w goes.next (evolves begun before) truth.1));
          does = (record { content = content; trimmed = refl; deltas = refl; rows = refl }, refl);
          reserved = refl;
          bounds = refl;
          blocked = inl refl;
          may = tt;
        };
  }

  -- the border is locked still
  still : (next : World) → then.half ≡ way.node → IsLockedBorder after next then.half.0 → HasLocked (prefix_of key way) after next way.node.0 None
  still next half_is k = record {
    locked = λ other i. subst (λ (m : ℕ). IsLockedBorder after next m) (sym (among_one other way.node.0 i)) (subst (λ (h : NodeNo). IsLockedBorder after next h.0) half_is k);
    own = first;
    halves = tt;
  }

  ends_posting : (end : PostEnd) (now begun : ℕ) (w : World) (More : World → Type 0) → IsWorld a now w → begun ≤ now → PostLaw a after posting (Ended end) then → PostingIsTrue begun posting a w → posting.half ≡ way.node → ((next : World) → Evolves begun w.chart next.chart → HasLocked (prefix_of key way) after next way.node.0 None → More next)
      → Goes now a after w (posting_owned posting) (way.node.0 ∷ []) More × IsQuiet a after log log
  ends_posting end now begun w More world before law truth half_is more =
      let (goes, content) = law.steps now begun w world before truth in (
        subst (λ (h : NodeNo). Goes now a after w (posting_owned posting) (h.0 ∷ []) More) (ap (λ (q : Posting). q.half) same ∙ half_is)
            (goes_more now a after w _ _ _ More goes (λ evolves t. more goes.next (evolves begun before) (still goes.next (ap (λ (q : Posting). q.half) same ∙ half_is) t))),
        record { content = content; trimmed = refl; deltas = refl; rows = refl },
      )

  pub posts_end : (end : PostEnd) → PostLaw a after posting (Ended end) then → PostingStep Moved (ending_stage ending None)
  posts_end end law = go ending refl
    where
      go : (e : Ending) → ending ≡ e → StepLaw C a after log log (edit_request key edit) (stage_held way.node.0 (Posts posting e)) Moved (stage_held way.node.0 (ending_stage e None)) (λ begun moves past x w. HeadedStage C key edit way head (Posts posting e) begun x w) (λ begun moves past x w. HeadedStage C key edit way head (ending_stage e None) begun x w)
      go (EndStored commit) is = record {
        steps = λ now begun moves past w world before truth.
            let (goes, quiet) = ends_posting end now begun w (λ x. HeadedStage C key edit way head (Stored commit None) begun after x) world before law truth.0.0 truth.0.1 (λ next evolves has. (has, known_on begun w next evolves truth.1)) in
            quiet_step key edit goes quiet.content refl refl (inl refl);
      }
      go (EndFailed refusal) is = record {
        steps = λ now begun moves past w world before truth.
            let (goes, quiet) = ends_posting end now begun w (λ x. HeadedStage C key edit way head (Failed refusal None) begun after x) world before law truth.0.0 truth.0.1 (λ next evolves has. ((has, truth.0.2.may, otherwise_tells after next key way refusal None truth.0.2.otherwise), known_on begun w next evolves truth.1)) in
            quiet_step key edit goes quiet.content refl refl (inl refl);
      }

-- The steps of a put or remove that locks a border on its way, and reads it, one field a step.
use Rattle.std.proofs.Common.{ℕ, ◌≡◌, ◌≤◌, ◌+◌, ◌*◌, inl, inr, List, [], ◌∷◌, length, slice_get, zero, suc, Option, Some, None, IsSome, Bool, true, false, if◌then◌else◌, refl, sym, ap, subst, ◌∙◌, arith}
use Rattle.std.specs.Prelude.{IsSomeAnd}
use Rattle.mt_types.specs.declared.numbers.NodeNo.{NodeNo}
use Rattle.mt_types.specs.declared.refusal.Refusal.TheVariants.{NoMemory}
use Rattle.mt_slice.specs.Place.{slice_number}
use Rattle.mt_commit.specs.Log.{LogView}
use Rattle.mt_border.specs.Border.{BorderView, right_for, with_locked, with_unlocked}
use Rattle.mt_border.specs.Order.{IsBorder}
use Rattle.mt_border.specs.declared.entry.Content.TheVariants.{Link}
use Rattle.mt_border.specs.declared.entry.Entry.{Entry}
use Rattle.mt_border.specs.declared.found.Found.{Found}
use Rattle.mt_border.specs.declared.found.Found.TheVariants.{Absent as AbsentFound, Row as RowFound, OtherSuffix, Link as LinkFound}
use Rattle.mt_border.proofs.BorderLemmas.{unlocked_written}
use Rattle.mt_interior.specs.Interior.{InteriorView}
use Rattle.std.specs.Option.{option_and_then}
use Rattle.mt_arena.specs.Node.{border_at, border_of, node_at}
use Rattle.mt_arena.specs.declared.node.Node.{Node}
use Rattle.mt_arena.specs.Arena.{ArenaView, IsArena, with_border_changed}
use Rattle.mt_arena.specs.declared.node.Node.TheVariants.{Head as HeadNode, Interior as InteriorNode, Border as BorderNode}
use Rattle.mt_arena.specs.declared.part.Part.{Part}
use Rattle.mt_arena.proofs.NodeLemmas.{node-from_border}
use Rattle.mt_chart.specs.Tree.{Among, first, later}
use Rattle.mt_chart.specs.Chart.{OnBorder, at_level}
use Rattle.mt_chart.proofs.Rise.{border_on}
use Rattle.mt_tree.specs.Seen.{arena_seen, border_seen}
use Rattle.mt_tree.specs.Keeping.{KeepsTree}
use Rattle.mt_tree.specs.Descent.{is_marked, IsLast, MayVisitNode, found_for, to_right, visit_border}
use Rattle.mt_tree.specs.declared.visit.Visit.{Visit}
use Rattle.mt_tree.specs.declared.visit.Visit.TheVariants.{Again as VisitAgain, To as VisitTo, Below, Here as VisitHere}
use Rattle.mt_tree.proofs.AgeLemmas.{ages_locked}
use Rattle.mt_tree.proofs.RowLemmas.{stands_at}
use Rattle.mt_tree.proofs.SeenLemmas.{seen-border}
use Rattle.mt_steps.specs.declared.way.Way.{Way}
use Rattle.mt_steps.specs.declared.way.Went.{Went}
use Rattle.mt_steps.specs.declared.way.Went.TheVariants.{Again as WentAgain, To, Here}
use Rattle.mt_steps.specs.declared.progress.Progress.TheVariants.{Moved}
use Rattle.mt_steps.specs.declared.entering.Entering.{Entering}
use Rattle.mt_steps.specs.declared.entering.Entering.TheVariants.{Locked}
use Rattle.mt_steps.specs.declared.entering.Entered.{Entered}
use Rattle.mt_steps.specs.declared.entering.Entered.TheVariants.{Enters as EntersNext, Right as EntersRight, Below as EntersBelow, Here as EntersHere}
use Rattle.mt_steps.specs.declared.entering.There.{There}
use Rattle.mt_steps.specs.declared.entering.There.TheVariants.{Absent as AbsentThere, Full as FullThere, Row as RowThere, Other as OtherThere}
use Rattle.mt_steps.specs.Entering.{EnteredIsTrue, IsEntering, ThereIsTrue, TakesMemory, entered, wants}
use Rattle.mt_steps.specs.Standing.{Lends}
use Rattle.mt_steps.specs.Step.{MayRefuse, StepLaw}
use Rattle.mt_steps.specs.World.{World, IsWorld, IsLockedBorder}
use Rattle.mt_steps.specs.Way.{prefix_of, rest_of, IsAtPlace, IsOnWay, Names, VisitIs, Visits, went_by}
use Rattle.mt_steps.proofs.BorderLemmas.{alive_changed, among_one, goes_border, keys_same, now_named, on_kept, unlocked_free, unlocked_root}
use Rattle.mt_steps.proofs.EnterLemmas.{entered_is, entering_reads}
use Rattle.mt_steps.specs.Causes.{IsMarkedAt}
use Rattle.mt_steps.proofs.FoundLemmas.{some_and, some_at}
use Rattle.mt_steps.proofs.FrameLemmas.{goes_same, quiet_same}
use Rattle.mt_steps.proofs.PartLemmas.{lends_field}
use Rattle.mt_steps.proofs.WayLemmas.{no_border_here, went_in}
use Rattle.mt_write.specs.declared.writing.Write.{Write}
use Rattle.mt_write.specs.declared.writing.Edit.{Edit}
use Rattle.mt_write.specs.declared.writing.Edit.TheVariants.{Put as PutEdit, Remove as RemoveEdit}
use Rattle.mt_write.specs.declared.writing.Stage.{Stage}
use Rattle.mt_write.specs.declared.writing.Stage.TheVariants.{Seeks, Enters, Rightward, Failed}
use Rattle.mt_write.specs.Held.{edit_request, stage_held}
use Rattle.mt_write.specs.Writing.{HasLocked, IsLockedAt, StageIsTrue, entered_stage, way_below, way_right}
use Rattle.mt_write.specs.Causes.{FailsReading}
use Rattle.mt_write.specs.Follows.{MayBeAt, MayLock, TreeStep, WriteStep}
use Rattle.mt_write.proofs.CommitLemmas.{ends}
use Rattle.mt_write.proofs.StageSteps.{leads}
use Rattle.mt_write.proofs.WriteLemmas.{known_on, quiet_step}

-- what was found is the last on the way of the key
found_last : (rest : List ℕ) (b : BorderView) (there : There) → ThereIsTrue rest there b → IsLast (found_for rest b.live)
found_last rest b (AbsentThere place) told = subst IsLast (sym told.0) tt
found_last rest b (FullThere place outline) told = subst IsLast (sym told.0) tt
found_last rest b (RowThere place row) told = subst IsLast (sym told.0) tt
found_last rest b (OtherThere place suffix row) told = subst IsLast (sym told.0) tt

among_read : (live : List Entry) (place : ℕ) (entry : Entry) → slice_get live place ≡ Some entry → Among entry live
among_read [] place entry is = absurd (let clash : ◌≡◌ {A = Option Entry} None (Some entry) = is in cc)
among_read (one ∷ live) zero entry is = (let both : ◌≡◌ {A = Option Entry} (Some one) (Some entry) = is in let same : one ≡ entry = cc in subst (λ (e : Entry). Among e (one ∷ live)) same first)
among_read (one ∷ live) (suc place) entry is = later (among_read live place entry is)

-- ---- what was read of a border that a write has locked leads on as a visit of it does
module _ (a : ArenaView) (w : World) (key : List ℕ) (way : Way) (k : IsLockedBorder a w way.node.0) (sound : IsBorder k.b) (arena : IsArena a) where
  names : Names a way.node.0 (BorderNode k.b)
  names = record { named = node-from_border a.nodes way.node.0 k.b k.named; sound = arena }

  may : MayVisitNode (BorderNode k.b) (slice_number (rest_of key way))
  may = record { has_child = λ i is. absurd (let clash : ◌≡◌ {A = Option InteriorView} None (Some i) = is in cc) }

  visits : (visit : Visit) → visit ≡ visit_border (rest_of key way) k.b → Visits a key way (went_by way visit)
  visits visit value = went_in key way (BorderNode k.b) (rest_of key way) refl visit value sound may a names

  alive_visit : (next : Option NodeNo) (found : Found) → right_for k.b.right (slice_number (rest_of key way)) ≡ next → found_for (rest_of key way) k.b.live ≡ found → to_right next found ≡ visit_border (rest_of key way) k.b
  alive_visit next found right is = sym (ap (λ (d : Bool). if d then VisitAgain else to_right (right_for k.b.right (slice_number (rest_of key way))) (found_for (rest_of key way) k.b.live)) k.alive
      ∙ (ap (λ (r : Option NodeNo). to_right r (found_for (rest_of key way) k.b.live)) right ∙ ap (λ (f : Found). to_right next f) is))

  pub right_visits : (next : NodeNo) → right_for k.b.right (slice_number (rest_of key way)) ≡ Some next → Visits a key way (To (way_right way next))
  right_visits next is = visits (VisitTo next) (alive_visit (Some next) (found_for (rest_of key way) k.b.live) is refl)

  pub below_visits : (place : ℕ) (head : NodeNo) → right_for k.b.right (slice_number (rest_of key way)) ≡ None → found_for (rest_of key way) k.b.live ≡ LinkFound place head → Visits a key way (To (way_below way head))
  below_visits place head none found = visits (Below head) (alive_visit None (LinkFound place head) none found)

  pub here_visits : right_for k.b.right (slice_number (rest_of key way)) ≡ None → IsLast (found_for (rest_of key way) k.b.live) → Visits a key way Here
  here_visits none last = go (found_for (rest_of key way) k.b.live) refl last
    where
      go : (found : Found) → found_for (rest_of key way) k.b.live ≡ found → IsLast found → Visits a key way Here
      go (AbsentFound place) is last = visits VisitHere (alive_visit None (AbsentFound place) none is)
      go (RowFound place) is last = visits VisitHere (alive_visit None (RowFound place) none is)
      go (OtherSuffix place) is last = visits VisitHere (alive_visit None (OtherSuffix place) none is)
      go (LinkFound place head) is last = absurd last

-- ---- in a world
module _ (C begun now : ℕ) (a : ArenaView) (w : World) (world : IsWorld a now w) (key : List ℕ) (edit : Edit) (way : Way) where
  -- a border on its way that isn't marked deleted is on
  pub on_here : (b : BorderView) → border_at a.nodes way.node.0 ≡ Some b → b.version.deleted ≡ false → IsOnWay begun key way w → OnBorder (arena_seen a) w.chart way.node.0 (prefix_of key way) (border_seen b)
  on_here b named alive way_on = (border_on (arena_seen a) w.chart world.index.tree begun way.node.0 way_on.held.role (prefix_of key way) way_on.held.low way_on.held.standing way_on.held.place (border_seen b) (seen-border a way.node.0 b named) alive).0

  -- what it does next is right
  read_true : (k : IsLockedBorder a w way.node.0) → IsOnWay begun key way w → IsBorder k.b → IsArena a → (e : Entered) → EnteredIsTrue (rest_of key way) e k.b → StageIsTrue C key edit way (entered_stage e) begun a w
  read_true k way_on sound arena (EntersNext entering) true_of = (k, way_on, true_of)
  read_true k way_on sound arena (EntersRight next) true_of = (k, ((right_visits a w key way k sound arena next true_of).goes now w begun world way_on).0)
  read_true k way_on sound arena (EntersBelow head) (none, place, found) =
      let goes = (below_visits a w key way k sound arena place head none found).goes now w begun world way_on in
      let stands = on_here k.b k.named k.alive way_on in
      let there : slice_get k.b.live place ≡ Some (record { slice = slice_number (rest_of key way); content = Link head }) = stands_at k.b sound (rest_of key way) (LinkFound place head) found in (
        record {
          border = k;
          stands = record { low = (border_seen k.b).low; posted = stands.posted; place = stands.place };
          slice = slice_number (rest_of key way);
          linked = among_read k.b.live place (record { slice = slice_number (rest_of key way); content = Link head }) there;
        },
        goes.0,
        elim goes.2 [
          | inl same ↦ absurd (let deeper : way.layer + 1 ≡ way.layer = same in omega (arith, deeper))
          | inr below ↦ below.1
        ],
      )
  read_true k way_on sound arena (EntersHere there) (none, told) =
      let at : IsAtPlace a key way w = (here_visits a w key way k sound arena none (found_last (rest_of key way) k.b there told)).goes now w begun world way_on in
      let same : at.here.border ≡ k.b = (let both : ◌≡◌ {A = Option BorderView} (Some at.here.border) (Some k.b) = sym at.here.named ∙ k.named in cc) in
      (k.b, subst (λ (x : BorderView). IsLockedAt a key way x w) same (locked_here at same), told)
    where
      locked_here : (at : IsAtPlace a key way w) → at.here.border ≡ k.b → IsLockedAt a key way at.here.border w
      locked_here at same = record {
        layer = at.layer;
        named = at.here.named;
        stands = at.here.stands;
        alive = at.alive;
        last = at.last;
        locked = subst (λ (x : BorderView). x.version.locked ≡ true) (sym same) k.locked;
        written = subst (λ (x : BorderView). x.unwritten ≡ Rattle.mt_border.specs.declared.unwritten.Unwritten.TheVariants.Nothing) (sym same) k.written;
        free = k.free;
      }

-- ---- the lock
module _ (C : ℕ) (a : ArenaView) (key : List ℕ) (edit : Edit) (way : Way) (log : LogView) where
  locks : (b : BorderView) → border_at a.nodes way.node.0 ≡ Some b → IsBorder b → b.version.locked ≡ false → b.version.deleted ≡ false → KeepsTree a (with_border_changed a way.node.0 with_locked)
      → StepLaw C a (with_border_changed a way.node.0 with_locked) log log (edit_request key edit) (stage_held way.node.0 Seeks) Moved (stage_held way.node.0 (Enters Locked)) (λ begun moves past x w. StageIsTrue C key edit way Seeks begun x w) (λ begun moves past x w. StageIsTrue C key edit way (Enters Locked) begun x w)
  locks b named sound unlocked alive keeps = record {
    steps = λ now begun moves past w world before truth.
        let stands = on_here C begun now a w world key edit way b named alive truth in
        let kept = keeps.keeps now w.twins w.chart world.index in
        let known = known_on (arena_seen a) w.chart way.node.0 (prefix_of key way) (border_seen b) stands in
        quiet_step key edit
        (goes_border a way.node.0 b with_locked named now w [] (way.node.0 ∷ []) _ world (λ known. (ages_locked b, inr refl)) kept.index (keys_same a (with_border_changed a way.node.0 with_locked) kept.content world.keys)
        (unlocked_free a way.node.0 b with_locked named w [] unlocked known)
        (λ other i. inr (among_one other way.node.0 i)) (λ other ne i. elim i [ ]) (λ locked. first) (on_kept a now w.chart way.node.0 (at_level 0) (prefix_of key way) b.low stands.posted stands.place world.retired, λ i. refl, alive_changed a way.node.0 b with_locked named w.chart (inl refl)) (
          record {
            b = with_locked b;
            named = now_named a way.node.0 b with_locked named;
            known = known;
            locked = refl;
            alive = alive;
            written = unlocked_written b sound unlocked;
            free = unlocked_root a w.closing w.chart way.node.0 b named unlocked world.heads;
          },
          truth,
          tt,
        ))
        (kept.content) refl refl (inl refl);
  }

-- ---- a field
module _ (C : ℕ) (a : ArenaView) (key : List ℕ) (edit : Edit) (way : Way) (log : LogView) (entering : Entering) where
  abbrev ReadLaw : Stage → Type 0
  ReadLaw stage = StepLaw C a a log log (edit_request key edit) (stage_held way.node.0 (Enters entering)) Moved (stage_held way.node.0 stage) (λ begun moves past x w. StageIsTrue C key edit way (Enters entering) begun x w) (λ begun moves past x w. StageIsTrue C key edit way stage begun x w)

  -- a step that changes nothing, to a stage that is true after it, and that owns the border alone
  abbrev NowTrue : Stage → Type 0
  NowTrue stage = (now begun : ℕ) (w : World) → IsWorld a now w → StageIsTrue C key edit way (Enters entering) begun a w → StageIsTrue C key edit way stage begun a w

  reads : (e : Entered) → NowTrue (entered_stage e) → ReadLaw (entered_stage e)
  reads (EntersNext next) true_of = record {
    steps = λ now begun moves past w world before truth. quiet_step key edit (goes_same now a w _ (way.node.0 ∷ []) (way.node.0 ∷ []) refl world (true_of now begun w world truth)) (quiet_same a log).content refl refl (inl refl);
  }
  reads (EntersRight next) true_of = record {
    steps = λ now begun moves past w world before truth. quiet_step key edit (goes_same now a w _ (way.node.0 ∷ []) (way.node.0 ∷ []) refl world (true_of now begun w world truth)) (quiet_same a log).content refl refl (inl refl);
  }
  reads (EntersBelow head) true_of = record {
    steps = λ now begun moves past w world before truth. quiet_step key edit (goes_same now a w _ (way.node.0 ∷ []) (way.node.0 ∷ []) refl world (true_of now begun w world truth)) (quiet_same a log).content refl refl (inl refl);
  }
  reads (EntersHere there) true_of = record {
    steps = λ now begun moves past w world before truth. quiet_step key edit (goes_same now a w _ (way.node.0 ∷ []) (way.node.0 ∷ []) refl world (true_of now begun w world truth)) (quiet_same a log).content refl refl (inl refl);
  }

  -- it is out of memory
  fails : ReadLaw (Failed NoMemory None)
  fails = record {
    steps = λ now begun moves past w world before truth.
        quiet_step key edit (goes_same now a w _ (way.node.0 ∷ []) (way.node.0 ∷ []) refl world (alone_border w truth.0, may_memory edit, tt)) (quiet_same a log).content refl refl (inl refl);
  }
    where
      alone_border : (w : World) → IsLockedBorder a w way.node.0 → HasLocked (prefix_of key way) a w way.node.0 None
      alone_border w k = record { locked = λ other i. subst (λ (m : ℕ). IsLockedBorder a w m) (sym (among_one other way.node.0 i)) k; own = first; halves = tt }

      may_memory : (edit : Edit) → MayRefuse (edit_request key edit) NoMemory
      may_memory (PutEdit sets None) = tt
      may_memory (PutEdit sets (Some version)) = tt
      may_memory RemoveEdit = tt

never_fails : (entering : Entering) (e : Entered) → FailsReading entering (entered_stage e)
never_fails entering (EntersNext next) = tt
never_fails entering (EntersRight next) = tt
never_fails entering (EntersBelow head) = tt
never_fails entering (EntersHere there) = tt

-- ---- on its way: a node that is a border
module _ (a : ArenaView) (number : ℕ) (node : Node) (b : BorderView) (named : node_at a.nodes number ≡ Some node) (is : node ≡ BorderNode b) where
  pub border_named : border_at a.nodes number ≡ Some b
  border_named = ap (option_and_then border_of) named ∙ ap border_of is

  pub border_marked : b.version.deleted ≡ true → IsMarkedAt a number
  border_marked marked = subst (λ (n : Option Node). IsSomeAnd n (λ x. is_marked x ≡ true)) (sym named) (ap is_marked is ∙ marked)

-- and one that is none
pub no_border : (a : ArenaView) (number : ℕ) (node : Node) → node_at a.nodes number ≡ Some node → ((b : BorderView) → node ≡ BorderNode b → ⊥) → border_at a.nodes number ≡ None
no_border a number (HeadNode h) named not = ap (option_and_then border_of) named
no_border a number (InteriorNode i) named not = ap (option_and_then border_of) named
no_border a number (BorderNode b) named not = absurd (not b refl)

pub again_visits : (a : ArenaView) (key : List ℕ) (way : Way) → Visits a key way WentAgain
again_visits a key way = record { goes = λ now w begun world on. tt }

pub never_here : (a : ArenaView) (key : List ℕ) (way : Way) (node : Node) (went : Went) → node_at a.nodes way.node.0 ≡ Some node → VisitIs a key way went → ((b : BorderView) → node ≡ BorderNode b → ⊥) → went ≡ Here → ⊥
never_here a key way node went named value not e = no_border_here (rest_of key way) way node went (some_at _ (node_at a.nodes way.node.0) node value named) not e

-- ---- what its calls ask for
module _ (a : ArenaView) (write : Write) where
  pub border_read : (entering : Entering) → MayBeAt a write (Enters entering) → IsSome (border_at a.nodes write.way.node.0)
  border_read entering (C, log, may) = let (k, way_on, told) = may.true.0 in subst (λ (o : Option BorderView). IsSome o) (sym k.named) refl

  pub rest_read : (entering : Entering) → MayBeAt a write (Enters entering) → 8 * write.way.layer ≤ length write.key
  rest_read entering (C, log, may) = let (k, way_on, told) = may.true.0 in let within = way_on.layer.within in omega (arith, within)

  pub field_read : (entering : Entering) → MayBeAt a write (Enters entering) → (b : BorderView) → border_at a.nodes write.way.node.0 ≡ Some b → IsBorder b → IsEntering entering
  field_read entering (C, log, may) b named sound =
      let (k, way_on, told) = may.true.0 in
      let same : b ≡ k.b = (let both : ◌≡◌ {A = Option BorderView} (Some b) (Some k.b) = sym named ∙ k.named in cc) in
      entering_reads (rest_of write.key write.way) k.b (subst IsBorder same sound) entering told

-- ---- the steps, whole
module _ (a : ArenaView) (write : Write) where
  pub locks_border : (after : ArenaView) → MayLock a write.way.node.0 → after ≡ with_border_changed a write.way.node.0 with_locked → KeepsTree a after → TreeStep a after write Seeks Moved (record write { stage = Enters Locked })
  locks_border after may_lock value keeps = λ C log.
      let (b, named, lockable) = some_and _ (border_at a.nodes write.way.node.0) may_lock in
      let (sound, unlocked, alive) = lockable in
      subst (λ (x : ArenaView). WriteStep C a x log log write Seeks Moved (record write { stage = Enters Locked })) (sym value)
      (leads C a (with_border_changed a write.way.node.0 with_locked) log log write Seeks Moved (Enters Locked) write.way refl
      (locks C a write.key write.edit write.way log b named sound unlocked alive (subst (λ (x : ArenaView). KeepsTree a x) value keeps)) tt (tt, tt) (inl (refl, refl)) (inl (refl, refl)) tt tt)

  module _ (entering : Entering) where
    -- it is lent the field that it wants
    pub reads_field : (part : Part) → Lends a write.way.node.0 (wants entering) part → TreeStep a a write (Enters entering) Moved (record write { stage = entered_stage (entered (rest_of write.key write.way) entering part) })
    reads_field part lent = λ C log.
        leads C a a log log write (Enters entering) Moved (entered_stage next) write.way refl
        (reads C a write.key write.edit write.way log entering next (λ now begun w world truth.
        let (k, way_on, true_of) = truth in
        let field = lends_field a write.way.node.0 (wants entering) part lent k.b k.named in
        read_true C begun now a w world write.key write.edit write.way k way_on field.sound lent.arena next (entered_is (rest_of write.key write.way) k.b field.sound k.written entering true_of part field.is)))
        tt (tt, never_fails entering next) (inl (part, lent, refl), refl) refl tt tt
      where
        next : Entered
        next = entered (rest_of write.key write.way) entering part

    -- the same of what it does, and of its stage then
    pub reads_to : (rest : List ℕ) → rest ≡ rest_of write.key write.way → (part : Part) → Lends a write.way.node.0 (wants entering) part → (next : Entered) → next ≡ entered rest entering part → (stage : Stage) → stage ≡ entered_stage next
        → TreeStep a a write (Enters entering) Moved (record write { stage = stage })
    reads_to rest rest_is part lent next does stage stage_is = subst (λ (s : Stage). TreeStep a a write (Enters entering) Moved (record write { stage = s }))
        (sym (stage_is ∙ ap entered_stage (does ∙ ap (λ (r : List ℕ). entered r entering part) rest_is))) (reads_field part lent)

    pub fails_reading : TakesMemory entering → TreeStep a a write (Enters entering) Moved (record write { stage = Failed NoMemory None })
    fails_reading takes = λ C log. leads C a a log log write (Enters entering) Moved (Failed NoMemory None) write.way refl (fails C a write.key write.edit write.way log entering) tt (tt, (refl, takes)) (inr refl, refl) refl tt tt

  -- it unlocks its border, and continues to the right
  pub goes_right : (after : ArenaView) (next : NodeNo) → after ≡ with_border_changed a write.way.node.0 with_unlocked → KeepsTree a after → TreeStep a after write (Rightward next) Moved (record write { way = way_right write.way next; stage = Seeks })
  goes_right after next is keeps = λ C log.
      leads C a after log log write (Rightward next) Moved Seeks (way_right write.way next) refl (record {
        steps = λ now begun moves past w world before truth.
            let (goes, quiet) = ends C a log write.key write.edit write.way (λ other. StageIsTrue C write.key write.edit (way_right write.way next) Seeks begun after other) now w after is keeps world truth.0 truth.1 in
            quiet_step write.key write.edit goes quiet.content refl refl (inl refl);
      }) tt (tt, tt) (refl, refl) refl tt tt

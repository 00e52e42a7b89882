-- What a step does, of a tidy that is at a stage.
use Rattle.std.proofs.Common.{ℕ, ◌≡◌, inl, List, [], ◌∷◌, length, Option, Some, None, IsSome, Bool, true, false, refl, sym, ap, subst, ◌∙◌, arith}
use Rattle.std.specs.Prelude.{◌&&◌, not, IsSomeAnd, if◌then◌else◌}
use Rattle.std.specs.Option.{option_and_then}
use Rattle.mt_types.specs.declared.numbers.NodeNo.{NodeNo}
use Rattle.mt_border.specs.Border.{BorderView}
use Rattle.mt_interior.specs.Interior.{InteriorView}
use Rattle.mt_interior.specs.declared.child.Child.{Child}
use Rattle.mt_arena.specs.Node.{node_at, interior_at, interior_of, border_at, border_of}
use Rattle.mt_arena.specs.Arena.{ArenaView}
use Rattle.mt_arena.specs.declared.node.Node.{Node}
use Rattle.mt_arena.specs.declared.node.Node.TheVariants.{Head, Interior, Border}
use Rattle.mt_chart.specs.Chart.{Holds}
use Rattle.mt_chart.specs.Steps.{SameContent}
use Rattle.mt_tree.specs.Seen.{arena_seen}
use Rattle.mt_tree.proofs.HeldLemmas.{held_may_visit}
use Rattle.mt_steps.specs.declared.progress.Progress.{Progress}
use Rattle.mt_steps.specs.World.{World, IsWorld}
use Rattle.mt_steps.specs.Step.{left_with}
use Rattle.mt_steps.proofs.FrameLemmas.{goes_same}
use Rattle.mt_remove.specs.declared.tidy.Tidy.{Tidy}
use Rattle.mt_steps.specs.declared.reader.Reader.TheVariants.{Begins, Looked, Bounded, Reads, AtValue, Settles}
use Rattle.mt_steps.specs.Finding.{Finding}
use Rattle.mt_remove.specs.declared.stage.Stage.{Stage}
use Rattle.mt_remove.specs.declared.stage.Stage.TheVariants.{Seeks, LooksAgain, LooksRight, Locked, Dropped, Marked, LeftLocked, LeftNames, LeftMissed, LeftWritten, Unlinked, Lonely, LoneLocked, Bypassed, RootLocked, AboveLocked, AboveBounded, AboveSearched, AboveFound, LinkFound, HeadMarked, RootMarked, LinkHidden, LayerGone, RootRetired, KeepsLayer, KeepsBorder, KeepsInterior}
use Rattle.mt_remove.specs.Seen.{free_interior, is_only, lone_of, is_lone, place_in, not_first, later_place, is_free_border}
use Rattle.mt_remove.specs.Tidy.{stage_owns, tidy_held, StageIsTrue, IsTidied, ThenTidy, StageReads, StageLaw, MayTidy}
use Rattle.mt_remove.specs.Known.{IsKnownIn}
use Rattle.mt_remove.specs.Follows.{Follows, StageWaits, then_retired, TidyStep}

-- ---- a step at a stage
pub at_stage : (epoch : ℕ) (a after : ArenaView) (tidy : Tidy) (stage : Stage) (p : Progress) (next : Tidy) → tidy.stage ≡ stage → next.key ≡ tidy.key → after.retired ≡ then_retired epoch stage a.retired → StageLaw epoch a after tidy stage p next → IsTidied p → StageWaits a tidy stage p → Follows a tidy stage p next → TidyStep epoch a after tidy p next
at_stage epoch a after tidy stage p next is key retires law tidied waits follows = record {
  key = key;
  law = subst (λ (s : Stage). StageLaw epoch a after tidy s p next) (sym is) law;
  tidied = tidied;
  waits = subst (λ (s : Stage). StageWaits a tidy s p) (sym is) waits;
  follows = subst (λ (s : Stage). Follows a tidy s p next) (sym is) follows;
  retires = subst (λ (s : Stage). after.retired ≡ then_retired epoch s a.retired) (sym is) retires;
}

-- a change of a node, by what was read, retires nothing
pub none_retired : {T : Type 0} (o : Option T) (a after : ArenaView) (change : T → ArenaView) → ((x : T) → (change x).retired ≡ a.retired) → IsSomeAnd o (λ x. after ≡ change x) → after.retired ≡ a.retired
none_retired None a after change same h = absurd h
none_retired (Some x) a after change same h = ap (λ (v : ArenaView). v.retired) h ∙ same x

-- what is true of the stage where it is
pub true_at : (epoch : ℕ) (a : ArenaView) (tidy : Tidy) (stage : Stage) → tidy.stage ≡ stage → (may : MayTidy epoch a tidy) → StageIsTrue may.begun tidy.key tidy.way tidy.finding stage a may.w
true_at epoch a tidy stage is may = subst (λ (s : Stage). StageIsTrue may.begun tidy.key tidy.way tidy.finding s a may.w) is may.true

-- ---- a step that changes no node
-- a step that changes no node reads alone
pub reads_same : (a : ArenaView) (finding : Finding) (stage : Stage) → StageReads a a finding stage
reads_same a Begins (Seeks noted) = refl
reads_same a (Looked counters) (Seeks noted) = refl
reads_same a (Bounded counters right) (Seeks noted) = refl
reads_same a (Reads notes) (Seeks noted) = refl
reads_same a (AtValue notes kind) (Seeks noted) = refl
reads_same a (Settles counters sight) (Seeks noted) = tt
reads_same a Begins (Marked u) = refl
reads_same a (Looked counters) (Marked u) = refl
reads_same a (Bounded counters right) (Marked u) = inl refl
reads_same a (Reads notes) (Marked u) = refl
reads_same a (AtValue notes kind) (Marked u) = refl
reads_same a (Settles counters sight) (Marked u) = refl
reads_same a finding (LooksAgain border head emptied glance) = tt
reads_same a finding (LooksRight border head emptied right) = tt
reads_same a finding (Locked border head parent) = tt
reads_same a finding (Dropped border head) = tt
reads_same a finding (LeftLocked u) = tt
reads_same a finding (LeftNames u) = tt
reads_same a finding (LeftMissed u) = tt
reads_same a finding (LeftWritten border left) = tt
reads_same a finding (Unlinked border) = tt
reads_same a finding (Lonely lone) = tt
reads_same a finding (LoneLocked lone) = tt
reads_same a finding (Bypassed interior rule) = tt
reads_same a finding (RootLocked layer) = tt
reads_same a finding (AboveLocked layer) = tt
reads_same a finding (AboveBounded layer) = tt
reads_same a finding (AboveSearched layer order place at) = tt
reads_same a finding (AboveFound layer slot) = tt
reads_same a finding (LinkFound layer) = tt
reads_same a finding (HeadMarked layer) = tt
reads_same a finding (RootMarked layer) = tt
reads_same a finding (LinkHidden layer) = tt
reads_same a finding (LayerGone root head) = tt
reads_same a finding (RootRetired head) = tt
reads_same a finding (KeepsLayer above root) = tt
reads_same a finding (KeepsBorder border) = tt
reads_same a finding (KeepsInterior interior) = tt

pub same_content : (a : ArenaView) → SameContent (arena_seen a) (arena_seen a)
same_content a key row = ((λ h. h), (λ h. h))

pub law_same : (epoch : ℕ) (a : ArenaView) (tidy : Tidy) (stage : Stage) (p : Progress) (next : Tidy) → stage_owns stage ≡ (left_with p (tidy_held next)).owns
    → ((begun : ℕ) (w : World) → IsWorld a epoch w → StageIsTrue begun tidy.key tidy.way tidy.finding stage a w → ThenTidy p begun next a w) → StageLaw epoch a a tidy stage p next
law_same epoch a tidy stage p next owns goes = record {
  reads = reads_same a tidy.finding stage;
  steps = λ begun w world before truth. (goes_same epoch a w _ (stage_owns stage) (left_with p (tidy_held next)).owns owns world (goes begun w world truth), same_content a);
}

-- ---- what is known
-- what a call knows it holds, from its low on
pub holds_known : (begun : ℕ) (w : World) (number : ℕ) (prefix : List ℕ) (k : IsKnownIn w begun number prefix) → Holds w.chart begun number prefix k.low
holds_known begun w number prefix k = record { role = k.role; low = k.low; standing = k.known.standing; place = k.known.place; at_most = omega arith; since = k.known.since }

-- it is there
pub known_there : (a : ArenaView) (now begun : ℕ) (w : World) (number : ℕ) (prefix : List ℕ) → IsWorld a now w → IsKnownIn w begun number prefix → IsSome (node_at a.nodes number)
known_there a now begun w number prefix world k = (held_may_visit a now w.twins w.chart begun number k.low prefix world.index (holds_known begun w number prefix k)).named

-- ---- what is seen of an interior
pub record IsSeen (o : Option Node) : Type 0 where
  pub i : InteriorView
  pub is : o ≡ Some (Interior i)
  pub alive : i.version.deleted ≡ false
  pub unlocked : i.version.locked ≡ false

pub named_so : (a : ArenaView) (number : ℕ) (s : IsSeen (node_at a.nodes number)) → interior_at a.nodes number ≡ Some s.i
named_so a number s = ap (option_and_then interior_of) s.is

free_is : (node : Node) (i : InteriorView) → free_interior node ≡ Some i → (node ≡ Interior i) × (i.version.deleted ≡ false) × (i.version.locked ≡ false)
free_is (Head h) i e = absurd (let clash : ◌≡◌ {A = Option InteriorView} None (Some i) = e in cc)
free_is (Border b) i e = absurd (let clash : ◌≡◌ {A = Option InteriorView} None (Some i) = e in cc)
free_is (Interior j) i e = go j.version.deleted j.version.locked refl refl e
  where
    same : (x y : InteriorView) → ◌≡◌ {A = Option InteriorView} (Some x) (Some y) → x ≡ y
    same x y e = cc

    go : (deleted locked : Bool) → j.version.deleted ≡ deleted → j.version.locked ≡ locked → (if deleted then None else (if locked then None else Some j)) ≡ Some i → (Interior j ≡ Interior i) × (i.version.deleted ≡ false) × (i.version.locked ≡ false)
    go true locked d l e = absurd (let clash : ◌≡◌ {A = Option InteriorView} None (Some i) = e in cc)
    go false true d l e = absurd (let clash : ◌≡◌ {A = Option InteriorView} None (Some i) = e in cc)
    go false false d l e = let is = same j i e in (ap Interior is, ap (λ (x : InteriorView). x.version.deleted) (sym is) ∙ d, ap (λ (x : InteriorView). x.version.locked) (sym is) ∙ l)

placed : (f : InteriorView → Option ℕ) (o : Option InteriorView) (place : ℕ) → option_and_then f o ≡ Some place → (i : InteriorView) × (o ≡ Some i)
placed f None place e = absurd (let clash : ◌≡◌ {A = Option ℕ} None (Some place) = e in cc)
placed f (Some i) place e = (i, refl)

-- a child was found in it
pub place_seen : (o : Option Node) (child : NodeNo) (place : ℕ) → IsSomeAnd o (λ node. Some place ≡ place_in node child) → IsSeen o
place_seen None child place h = absurd h
place_seen (Some node) child place h =
    let (i, free) = placed _ (free_interior node) place (sym h) in
    let (is, alive, unlocked) = free_is node i free in
    record { i = i; is = ap Some is; alive = alive; unlocked = unlocked }

later_is : (o : Option ℕ) (place : ℕ) → Some place ≡ not_first o → (there : ℕ) × (o ≡ Some there)
later_is None place e = absurd (let clash : ◌≡◌ {A = Option ℕ} (Some place) None = e in cc)
later_is (Some there) place e = (there, refl)

pub later_seen : (o : Option Node) (child : NodeNo) (place : ℕ) → IsSomeAnd o (λ node. Some place ≡ later_place node child) → IsSeen o
later_seen None child place h = absurd h
later_seen (Some node) child place h = let (there, is) = later_is (place_in node child) place h in place_seen (Some node) child there (sym is)

only_one : (child : NodeNo) (children : List Child) → true ≡ is_only child children → length children ≡ 1
only_one child [] e = absurd (let clash : true ≡ false = e in cc)
only_one child (one ∷ []) e = refl
only_one child (one ∷ other ∷ children) e = absurd (let clash : true ≡ false = e in cc)

-- it has one child
pub record IsSeenLone (o : Option Node) : Type 0 where
  pub seen : IsSeen o
  pub one : length seen.i.children ≡ 1

pub lone_seen : (o : Option Node) (child : NodeNo) → IsSomeAnd o (λ node. true ≡ is_lone node child) → IsSeenLone o
lone_seen None child h = absurd h
lone_seen (Some node) child h = go (free_interior node) refl h
  where
    go : (f : Option InteriorView) → free_interior node ≡ f → true ≡ lone_of child f → IsSeenLone (Some node)
    go None e lone = absurd (let clash : true ≡ false = lone in cc)
    go (Some i) e lone =
        let (is, alive, unlocked) = free_is node i e in
        record { seen = record { i = i; is = ap Some is; alive = alive; unlocked = unlocked }; one = only_one child i.children lone }

-- ---- what is seen of a border
pub record IsSeenBorder (o : Option Node) : Type 0 where
  pub b : BorderView
  pub is : o ≡ Some (Border b)
  pub alive : b.version.deleted ≡ false
  pub unlocked : b.version.locked ≡ false

pub border_named : (a : ArenaView) (number : ℕ) (s : IsSeenBorder (node_at a.nodes number)) → border_at a.nodes number ≡ Some s.b
border_named a number s = ap (option_and_then border_of) s.is

pub free_seen : (o : Option Node) → IsSomeAnd o (λ node. true ≡ is_free_border node) → IsSeenBorder o
free_seen None h = absurd h
free_seen (Some (Head x)) h = absurd (let clash : true ≡ false = h in cc)
free_seen (Some (Interior i)) h = absurd (let clash : true ≡ false = h in cc)
free_seen (Some (Border b)) h = go b.version.deleted b.version.locked refl refl h
  where
    go : (deleted locked : Bool) → b.version.deleted ≡ deleted → b.version.locked ≡ locked → true ≡ (not deleted && not locked) → IsSeenBorder (Some (Border b))
    go false false d l is = record { b = b; is = refl; alive = d; unlocked = l }
    go true locked d l is = absurd (let clash : true ≡ false = is in cc)
    go false true d l is = absurd (let clash : true ≡ false = is in cc)

-- a fact about a node that is so by another
pub some_by : {T : Type 0} (o : Option T) (P Q : T → Type 0) → ((x : T) → P x → Q x) → IsSomeAnd o P → IsSomeAnd o Q
some_by None P Q f h = h
some_by (Some x) P Q f h = f x h

-- The steps of a tidy on its way.
use Rattle.std.proofs.Common.{ℕ, ◌≡◌, ◌≢◌, ◌≤◌, ◌+◌, ◌==◌, not, inl, inr, List, [], ◌∷◌, length, Option, Some, None, Bool, true, false, refl, sym, ap, subst, ◌∙◌, arith, add-one}
use Rattle.std.specs.Prelude.{IsSome, IsSomeAnd, if◌then◌else◌}
use Rattle.std.proofs.lemmas.Bool.{eq-eqb}
use Rattle.mt_types.specs.declared.numbers.NodeNo.{NodeNo}
use Rattle.mt_slice.specs.Place.{AreBytes, slices_above, slice_number}
use Rattle.mt_border.specs.Border.{BorderView}
use Rattle.mt_arena.specs.Node.{node_at, border_at}
use Rattle.mt_arena.specs.Arena.{ArenaView}
use Rattle.mt_arena.specs.declared.node.Node.{Node}
use Rattle.mt_arena.specs.declared.node.Node.TheVariants.{Head, Interior, Border}
use Rattle.mt_chart.specs.Tree.{Arena}
use Rattle.mt_chart.specs.Steps.{SameContent}
use Rattle.mt_chart.proofs.HeldNodes.{border_is_on}
use Rattle.mt_tree.specs.Seen.{arena_seen, border_seen}
use Rattle.mt_tree.proofs.SeenLemmas.{seen-border}
use Rattle.mt_steps.specs.declared.finding.Sight.TheVariants.{Absent as AbsentSight, Row as RowSight, Link as LinkSight}
use Rattle.mt_steps.specs.declared.reader.Counters.{Counters}
use Rattle.mt_steps.specs.declared.reader.Reader.TheVariants.{Begins, Looked, Bounded, Reads, AtValue, Settles}
use Rattle.mt_steps.specs.declared.reader.Reading.TheVariants.{Restarts, Repeats, GoesOn, To, Finds}
use Rattle.mt_steps.specs.declared.way.Way.{Way}
use Rattle.mt_steps.specs.declared.progress.Progress.{Progress}
use Rattle.mt_steps.specs.declared.progress.Progress.TheVariants.{Moved, Waits, Committed, Answered, Refused}
use Rattle.mt_steps.specs.declared.finding.Kind.TheVariants.{Row as RowKind, Link as LinkKind}
use Rattle.mt_steps.specs.Finding.{Finding, FindReading, FindingWaits}
use Rattle.mt_steps.specs.Getting.{AtBorder}
use Rattle.mt_steps.specs.Reader.{IsReader, MayRead, ReadWaits}
use Rattle.mt_steps.specs.Step.{left_with}
use Rattle.mt_steps.specs.World.{World, IsWorld, Goes}
use Rattle.mt_steps.specs.Way.{start, prefix_of, rest_of, IsOnWay, IsHeadOf, LeadsToHead, MayGo}
use Rattle.mt_steps.proofs.GetLemmas.{may_go}
use Rattle.mt_steps.proofs.FrameLemmas.{goes_same}
use Rattle.mt_steps.proofs.WayLemmas.{starts, starts_at_head}
use Rattle.mt_steps.proofs.SplitLemmas.{eqb-ne}
use Rattle.mt_remove.specs.declared.noted.Came.{Came}
use Rattle.mt_remove.specs.declared.noted.Came.TheVariants.{Head as FromHead, Child as AsChild, Left as FromLeft}
use Rattle.mt_remove.specs.declared.noted.OneChild.{OneChild}
use Rattle.mt_remove.specs.declared.noted.Noted.{Noted}
use Rattle.mt_remove.specs.declared.tidy.Tidy.{Tidy}
use Rattle.mt_remove.specs.declared.stage.Stage.TheVariants.{Seeks}
use Rattle.mt_remove.specs.Noted.{namer, namer_of, noted_below, noted_at, noted_from, AtOrder, glanced}
use Rattle.mt_remove.specs.Reading.{SeekReads, seek_reading}
use Rattle.mt_remove.specs.Tidy.{StageIsTrue, IsAtItsPlace, StageReads, ThenTidy, IsTidied, MayTidy, tidy_held}
use Rattle.mt_remove.specs.Known.{NotedIsTrue, NamerIsKnown, CameIsKnown, IfLone, IfAbove, LoneIsKnown, IsKnownIn, SeekFinding}
use Rattle.mt_remove.specs.Follows.{AtPlace, not_noted, FollowsReading, advanced, unread, ReadChanges, ReadStep, TidyStep, StageWaits}
use Rattle.mt_remove.proofs.NoFinds.{NoFinds, seek_none}
use Rattle.mt_remove.proofs.SeekReads.{SeekLeads, seek_leads}
use Rattle.mt_remove.proofs.SeekWaits.{seek_waits}
use Rattle.mt_remove.proofs.StageLemmas.{at_stage, same_content, true_at}

-- ---- what is noted
-- what a call holds on its way it knows
known_on_way : (begun : ℕ) (key : List ℕ) (way : Way) (w : World) → IsOnWay begun key way w → IsKnownIn w begun way.node.0 (prefix_of key way)
known_on_way begun key way w on = record { role = on.held.role; low = on.held.low; known = record { standing = on.held.standing; place = on.held.place; since = on.held.since } }

namer_known : (begun : ℕ) (prefix : List ℕ) (w : World) (came : Came) (head : NodeNo) → IsHeadOf w begun head.0 prefix → CameIsKnown begun prefix w came → NamerIsKnown begun prefix w (namer came head)
namer_known begun prefix w FromHead head known came = known
namer_known begun prefix w FromLeft head known came = known
namer_known begun prefix w (AsChild parent is_one) head known came = came

lone_known : (begun : ℕ) (prefix : List ℕ) (w : World) (one : Bool) (lone : OneChild) (otherwise : Option OneChild) → LoneIsKnown begun prefix w lone → IfLone begun prefix w otherwise → IfLone begun prefix w (if one then Some lone else otherwise)
lone_known begun prefix w true lone otherwise known if_lone = known
lone_known begun prefix w false lone otherwise known if_lone = if_lone

-- in the same layer
noted_on : (begun : ℕ) (key : List ℕ) (way : Way) (w : World) (node : Node) (next : NodeNo) (noted : Noted) → IsOnWay begun key way w → NotedIsTrue begun key way noted w → NotedIsTrue begun key way (noted_at node way.node next noted) w
noted_on begun key way w (Head h) next noted on t = record { head = t.head; above = t.above; came = tt; lone = t.lone }
noted_on begun key way w (Interior i) next noted on t = record {
  head = t.head;
  above = t.above;
  came = known_on_way begun key way w on;
  lone = lone_known begun (prefix_of key way) w (length i.children == 1) (record { interior = way.node; child = next; namer = namer_of noted }) noted.lone (known_on_way begun key way w on, namer_known begun (prefix_of key way) w noted.came noted.head t.head t.came) t.lone;
}
noted_on begun key way w (Border b) next noted on t = record { head = t.head; above = t.above; came = tt; lone = t.lone }

noted_true : (begun : ℕ) (key : List ℕ) (way next : Way) (w : World) (node : Node) (noted : Noted) → IsOnWay begun key way w → NotedIsTrue begun key way noted w → LeadsToHead begun key w way next → NotedIsTrue begun key next (noted_from node way next noted) w
noted_true begun key way next w node noted on t (inl same) =
    let is : noted_from node way next noted ≡ noted_at node way.node next.node noted = ap (λ (b : Bool). if not b then noted_below way.node next.node else noted_at node way.node next.node noted) (eq-eqb next.layer way.layer same) in
    let u = noted_on begun key way w node next.node noted on t in
    let v : Noted = noted_at node way.node next.node noted in
    subst (λ (x : Noted). NotedIsTrue begun key next x w) (sym is) (record {
      head = subst (λ (l : ℕ). IsHeadOf w begun v.head.0 (slices_above l key)) (sym same) u.head;
      above = subst (λ (l : ℕ). IfAbove begun key l w v.above) (sym same) u.above;
      came = subst (λ (l : ℕ). CameIsKnown begun (slices_above l key) w v.came) (sym same) u.came;
      lone = subst (λ (l : ℕ). IfLone begun (slices_above l key) w v.lone) (sym same) u.lone;
    })
noted_true begun key way next w node noted on t (inr (deeper, known)) =
    let is : noted_from node way next noted ≡ noted_below way.node next.node = ap (λ (b : Bool). if not b then noted_below way.node next.node else noted_at node way.node next.node noted) (eqb-ne next.layer way.layer (λ e. omega (arith, deeper, e))) in
    subst (λ (x : Noted). NotedIsTrue begun key next x w) (sym is) (record { head = known; above = (way.layer, deeper, known_on_way begun key way w on); came = tt; lone = tt })

-- what is noted of a border
glanced_true : (begun : ℕ) (key : List ℕ) (way : Way) (w : World) (finding : Finding) (o : Option BorderView) (noted : Noted) → NotedIsTrue begun key way noted w → NotedIsTrue begun key way (glanced finding o noted) w
glanced_true begun key way w (Bounded counters right) (Some b) noted t = record { head = t.head; above = t.above; came = t.came; lone = t.lone }
glanced_true begun key way w (Bounded counters right) None noted t = t
glanced_true begun key way w Begins o noted t = t
glanced_true begun key way w (Looked counters) o noted t = t
glanced_true begun key way w (Reads notes) o noted t = t
glanced_true begun key way w (AtValue notes kind) o noted t = t
glanced_true begun key way w (Settles counters sight) o noted t = t

-- ---- what it asks
module _ (epoch : ℕ) (a : ArenaView) (tidy : Tidy) (noted : Noted) (is : tidy.stage ≡ Seeks noted) (may : MayTidy epoch a tidy) where
  abbrev at_node : ℕ
  at_node = tidy.way.node.0

  truth : StageIsTrue may.begun tidy.key tidy.way tidy.finding (Seeks noted) a may.w
  truth = true_at epoch a tidy (Seeks noted) is may

  go_there : MayGo a tidy.key tidy.way
  go_there = may_go a tidy.key tidy.way epoch may.begun may.w may.world truth.0

  pub may_named : IsSome (node_at a.nodes at_node)
  may_named = go_there.may.named

  within : (past : List Arena) (finding : Finding) → SeekFinding tidy.key tidy.way finding may.begun (arena_seen a ∷ past) a may.w → IsReader finding
  within past Begins on = tt
  within past (Looked counters) at = tt
  within past (Bounded counters right) t = tt
  within past (Reads notes) (at, bound, (less, fits), searches) = less
  within past (AtValue notes RowKind) t = absurd t
  within past (AtValue notes LinkKind) (at, (less, fits), deep, is_true) = less
  within past (Settles counters sight) t = tt

  -- it reads the order of a border
  pub at_order : AtOrder tidy.finding → IsSome (border_at a.nodes at_node)
  at_order = go tidy.finding truth.2.1
    where
      go : (finding : Finding) → SeekFinding tidy.key tidy.way finding may.begun (arena_seen a ∷ truth.2.0) a may.w → AtOrder finding → IsSome (border_at a.nodes at_node)
      go (Bounded counters right) (at, bound) order = subst (λ (o : Option BorderView). IsSome o) (sym at.here.named) refl
      go Begins t order = absurd order
      go (Looked counters) t order = absurd order
      go (Reads notes) t order = absurd order
      go (AtValue notes kind) t order = absurd order
      go (Settles counters sight) t order = absurd order

  pub may_want : IsReader tidy.finding
  may_want = within truth.2.0 tidy.finding truth.2.1

  not_none : (b : BorderView) → border_at a.nodes at_node ≡ Some b → border_at a.nodes at_node ≡ None → (finding : Finding) → finding ≡ Begins
  not_none b named none finding = absurd (let clash : ◌≡◌ {A = Option BorderView} (Some b) None = sym named ∙ none in cc)

  begins : (past : List Arena) (finding : Finding) → SeekFinding tidy.key tidy.way finding may.begun (arena_seen a ∷ past) a may.w → border_at a.nodes at_node ≡ None → finding ≡ Begins
  begins past Begins on none = refl
  begins past (Looked counters) at none = not_none at.here.b at.here.named none (Looked counters)
  begins past (Bounded counters right) (at, bound) none = not_none at.here.b at.here.named none (Bounded counters right)
  begins past (Reads notes) (at, bound, place, searches) none = not_none at.here.b at.here.named none (Reads notes)
  begins past (AtValue notes RowKind) t none = absurd t
  begins past (AtValue notes LinkKind) (at, place, deep, is_true) none = not_none at.here.b at.here.named none (AtValue notes LinkKind)
  begins past (Settles counters AbsentSight) at none = not_none at.here.b at.here.named none (Settles counters AbsentSight)
  begins past (Settles counters (RowSight row)) at none = not_none at.here.b at.here.named none (Settles counters (RowSight row))
  begins past (Settles counters (LinkSight head)) (at, fits, is_true) none = not_none at.here.b at.here.named none (Settles counters (LinkSight head))

  pub may_read : MayRead a at_node (slice_number (rest_of tidy.key tidy.way)) tidy.finding
  may_read = record { begins = begins truth.2.0 tidy.finding truth.2.1; child = go_there.may.has_child }

-- ---- on its way
module _ (epoch : ℕ) (a : ArenaView) (tidy : Tidy) (noted : Noted) (is : tidy.stage ≡ Seeks noted) where
  abbrev seen : Noted
  seen = glanced tidy.finding (border_at a.nodes tidy.way.node.0) noted

  abbrev Truth : ℕ → World → Type 0
  Truth begun w = StageIsTrue begun tidy.key tidy.way tidy.finding (Seeks noted) a w

  abbrev Law : ArenaView → Progress → Tidy → Type 0
  Law after p new = (begun : ℕ) (w : World) → IsWorld a epoch w → begun ≤ epoch → Truth begun w
      → Goes epoch a after w [] (left_with p (tidy_held new)).owns (ThenTidy p begun new after) × SameContent (arena_seen a) (arena_seen after)

  -- no node is changed
  unchanged : (after : ArenaView) (p q : Progress) (new next : Tidy) → after ≡ a → p ≡ q → new ≡ next → [] ≡ (left_with q (tidy_held next)).owns → ((begun : ℕ) (w : World) → IsWorld a epoch w → Truth begun w → ThenTidy q begun next a w) → Law after p new
  unchanged after p q new next same p_is then_is owns goes begun w world before truth =
      subst (λ (x : ArenaView). Goes epoch a x w [] (left_with p (tidy_held new)).owns (ThenTidy p begun new x) × SameContent (arena_seen a) (arena_seen x)) (sym same)
      (subst (λ (x : Progress). Goes epoch a a w [] (left_with x (tidy_held new)).owns (ThenTidy x begun new a) × SameContent (arena_seen a) (arena_seen a)) (sym p_is)
      (subst (λ (x : Tidy). Goes epoch a a w [] (left_with q (tidy_held x)).owns (ThenTidy q begun x a) × SameContent (arena_seen a) (arena_seen a)) (sym then_is)
      (goes_same epoch a w _ [] (left_with q (tidy_held next)).owns owns world (goes begun w world truth), same_content a)))

  abbrev Leads : FindReading → Type 0
  Leads reading = (begun : ℕ) (w : World) (world : IsWorld a epoch w) → Truth begun w → (past : List Arena) × SeekLeads a epoch w world begun tidy.key tidy.way past tidy.finding reading

  abbrev Changes : FindReading → ArenaView → Progress → Tidy → Type 0
  Changes reading after p new = ReadChanges epoch a after (unread tidy) seen reading p new

  abbrev Reading : FindReading → Progress → Tidy → Type 0
  Reading reading p new = FollowsReading a (unread tidy) seen reading p new

  seen_true : (begun : ℕ) (w : World) → Truth begun w → NotedIsTrue begun tidy.key tidy.way seen w
  seen_true begun w truth = glanced_true begun tidy.key tidy.way w tidy.finding (border_at a.nodes tidy.way.node.0) noted truth.1

  -- it advances
  advances : (next : Way) (after : ArenaView) (p : Progress) (new : Tidy) → after ≡ a → (p ≡ Moved) × IsSomeAnd (node_at a.nodes tidy.way.node.0) (λ node. new ≡ advanced (unread tidy) node next seen)
      → ((begun : ℕ) (w : World) → IsWorld a epoch w → Truth begun w → IsOnWay begun tidy.key next w × LeadsToHead begun tidy.key w tidy.way next) → Law after p new
  advances next after p new same (p_is, then_is) leads = go (node_at a.nodes tidy.way.node.0) then_is
    where
      go : (o : Option Node) → IsSomeAnd o (λ node. new ≡ advanced (unread tidy) node next seen) → Law after p new
      go None h = absurd h
      go (Some node) h = unchanged after p Moved new (advanced (unread tidy) node next seen) same p_is h refl (λ begun w world truth.
          let (on, deeper) = leads begun w world truth in
          (on, noted_true begun tidy.key tidy.way next w node seen truth.0 (seen_true begun w truth) deeper, ([], on)))

  at_place : (begun : ℕ) (w : World) → IsWorld a epoch w → Truth begun w → (counters : Counters) (at : AtBorder begun tidy.key tidy.way counters a w) → at.here.b.version.deleted ≡ false → IsAtItsPlace begun tidy.key tidy.way seen a w
  at_place begun w world truth counters at alive =
      let b = at.here.b in
      let (on_border, low) = border_is_on (arena_seen a) w.chart world.index.tree begun tidy.way.node.0 (slice_number (rest_of tidy.key tidy.way)) (prefix_of tidy.key tidy.way) (border_seen b) truth.0.held (seen-border a tidy.way.node.0 b at.here.named) alive in
      record { layer = at.layer; b = b; named = at.here.named; alive = alive; posted = on_border.posted; place = on_border.place; noted = seen_true begun w truth }

  law : (reading : FindReading) → Leads reading → (after : ArenaView) (p : Progress) (new : Tidy) → Changes reading after p new → Reading reading p new → Law after p new
  law Restarts leads after p new same (p_is, then_is) = unchanged after p Waits new (record (unread tidy) { way = start; stage = Seeks not_noted }) same p_is then_is refl (λ begun w world truth.
      let on = starts a epoch w begun tidy.key world in
      (on, record { head = starts_at_head a epoch w begun world; above = tt; came = tt; lone = tt }, ([], on)))
  law Repeats leads after p new same (p_is, then_is) = unchanged after p Waits new (record (unread tidy) { stage = Seeks seen }) same p_is then_is refl (λ begun w world truth. (truth.0, seen_true begun w truth, ([], truth.0)))
  law (GoesOn next) leads after p new same (p_is, then_is) = unchanged after p Moved new (record (unread tidy) { finding = next; stage = Seeks seen }) same p_is then_is refl (λ begun w world truth.
      let (past, led) = leads begun w world truth in
      (truth.0, seen_true begun w truth, (arena_seen a ∷ past, led.0)))
  law (To node) leads after p new same follows = advances (record { node = node; layer = tidy.way.layer }) after p new same follows (λ begun w world truth. ((leads begun w world truth).1, inl refl))
  law (Finds (LinkSight head)) leads after p new same follows = advances (record { node = head; layer = tidy.way.layer + 1 }) after p new same follows (λ begun w world truth.
      let (past, (on, known)) = leads begun w world truth in
      (on, inr (refl, subst (λ (m : ℕ). IsHeadOf w begun head.0 (slices_above m tidy.key)) (sym (add-one tidy.way.layer)) known)))
  law (Finds AbsentSight) leads after p new place follows = λ begun w world before truth.
      let (past, (counters, at, alive)) = leads begun w world truth in
      place.steps begun w world before (at_place begun w world truth counters at alive)
  law (Finds (RowSight row)) leads after p new place follows = λ begun w world before truth.
      let (past, (counters, at, alive)) = leads begun w world truth in
      place.steps begun w world before (at_place begun w world truth counters at alive)

  retired : (reading : FindReading) (after : ArenaView) (p : Progress) (new : Tidy) → Changes reading after p new → after.retired ≡ a.retired
  retired Restarts after p new same = ap (λ (x : ArenaView). x.retired) same
  retired Repeats after p new same = ap (λ (x : ArenaView). x.retired) same
  retired (GoesOn next) after p new same = ap (λ (x : ArenaView). x.retired) same
  retired (To node) after p new same = ap (λ (x : ArenaView). x.retired) same
  retired (Finds (LinkSight head)) after p new same = ap (λ (x : ArenaView). x.retired) same
  retired (Finds AbsentSight) after p new place = place.retires
  retired (Finds (RowSight row)) after p new place = place.retires

  tidied : (reading : FindReading) (after : ArenaView) (p : Progress) (new : Tidy) → Changes reading after p new → Reading reading p new → IsTidied p
  tidied Restarts after p new same (p_is, then_is) = subst IsTidied (sym p_is) tt
  tidied Repeats after p new same (p_is, then_is) = subst IsTidied (sym p_is) tt
  tidied (GoesOn next) after p new same (p_is, then_is) = subst IsTidied (sym p_is) tt
  tidied (To node) after p new same (p_is, then_is) = subst IsTidied (sym p_is) tt
  tidied (Finds (LinkSight head)) after p new same (p_is, then_is) = subst IsTidied (sym p_is) tt
  tidied (Finds AbsentSight) after p new place follows = place.tidied
  tidied (Finds (RowSight row)) after p new place follows = place.tidied

  no_wait : (p : Progress) → p ≢ Waits → StageWaits a tidy (Seeks noted) p
  no_wait Moved differ = tt
  no_wait Waits differ = absurd (differ refl)
  no_wait (Committed number) differ = tt
  no_wait (Answered answer) differ = tt
  no_wait (Refused refusal) differ = tt

  waits : (reading : FindReading) (after : ArenaView) (p : Progress) (new : Tidy) → Changes reading after p new → Reading reading p new → ReadWaits (FindingWaits tidy.finding) a tidy.way.node.0 reading → StageWaits a tidy (Seeks noted) p
  waits Restarts after p new same (p_is, then_is) why = subst (λ (x : Progress). StageWaits a tidy (Seeks noted) x) (sym p_is) why
  waits Repeats after p new same (p_is, then_is) why = subst (λ (x : Progress). StageWaits a tidy (Seeks noted) x) (sym p_is) why
  waits (GoesOn next) after p new same (p_is, then_is) why = subst (λ (x : Progress). StageWaits a tidy (Seeks noted) x) (sym p_is) tt
  waits (To node) after p new same (p_is, then_is) why = subst (λ (x : Progress). StageWaits a tidy (Seeks noted) x) (sym p_is) tt
  waits (Finds (LinkSight head)) after p new same (p_is, then_is) why = subst (λ (x : Progress). StageWaits a tidy (Seeks noted) x) (sym p_is) tt
  waits (Finds AbsentSight) after p new place follows why = no_wait p place.waits_not
  waits (Finds (RowSight row)) after p new place follows why = no_wait p place.waits_not

  -- WHAT A STEP on its way does
  module _ (bytes : AreBytes tidy.key) (may : MayTidy epoch a tidy) (reading : FindReading) (reads_it : SeekReads a tidy.way.node.0 (rest_of tidy.key tidy.way) tidy.finding reading) where
    leads : Leads reading
    leads begun w world (on, t, (past, truth)) = (
      past,
      subst (λ (r : FindReading). SeekLeads a epoch w world begun tidy.key tidy.way past tidy.finding r) (sym reads_it.does) (seek_leads a epoch w world begun tidy.key tidy.way past bytes tidy.finding truth reads_it.part reads_it.lent),
    )

    why : ReadWaits (FindingWaits tidy.finding) a tidy.way.node.0 reading
    why = subst (λ (r : FindReading). ReadWaits (FindingWaits tidy.finding) a tidy.way.node.0 r) (sym reads_it.does) (seek_waits a tidy.way.node.0 (rest_of tidy.key tidy.way) tidy.finding (may_read epoch a tidy noted is may) reads_it.part reads_it.lent)

    -- it is at its place at a border
    pub at_border : AtPlace a tidy.way.node.0 reading
    at_border = go (leads may.begun may.w may.world (truth epoch a tidy noted is may)).0 reading (leads may.begun may.w may.world (truth epoch a tidy noted is may)).1
      where
        go : (past : List Arena) (r : FindReading) → SeekLeads a epoch may.w may.world may.begun tidy.key tidy.way past tidy.finding r → AtPlace a tidy.way.node.0 r
        go past Restarts led = tt
        go past Repeats led = tt
        go past (GoesOn next) led = tt
        go past (To node) led = tt
        go past (Finds (LinkSight head)) led = tt
        go past (Finds AbsentSight) (counters, at, alive) = subst (λ (o : Option BorderView). IsSome o) (sym at.here.named) refl
        go past (Finds (RowSight row)) (counters, at, alive) = subst (λ (o : Option BorderView). IsSome o) (sym at.here.named) refl

    -- no node is changed before it looks at the version again
    unchanged_by : (r : FindReading) → NoFinds r → (after : ArenaView) (p : Progress) (new : Tidy) → Changes r after p new → after ≡ a
    unchanged_by Restarts none after p new same = same
    unchanged_by Repeats none after p new same = same
    unchanged_by (GoesOn next) none after p new same = same
    unchanged_by (To node) none after p new same = same
    unchanged_by (Finds sight) none after p new same = absurd none

    read_so : (finding : Finding) → reading ≡ seek_reading finding (rest_of tidy.key tidy.way) reads_it.part → (after : ArenaView) (p : Progress) (new : Tidy) → Changes reading after p new → StageReads a after finding (Seeks noted)
    read_so Begins is after p new changes = unchanged_by reading (subst NoFinds (sym is) (seek_none Begins (λ e. e) _ reads_it.part)) after p new changes
    read_so (Looked counters) is after p new changes = unchanged_by reading (subst NoFinds (sym is) (seek_none (Looked counters) (λ e. e) _ reads_it.part)) after p new changes
    read_so (Bounded counters right) is after p new changes = unchanged_by reading (subst NoFinds (sym is) (seek_none (Bounded counters right) (λ e. e) _ reads_it.part)) after p new changes
    read_so (Reads notes) is after p new changes = unchanged_by reading (subst NoFinds (sym is) (seek_none (Reads notes) (λ e. e) _ reads_it.part)) after p new changes
    read_so (AtValue notes kind) is after p new changes = unchanged_by reading (subst NoFinds (sym is) (seek_none (AtValue notes kind) (λ e. e) _ reads_it.part)) after p new changes
    read_so (Settles counters sight) is after p new changes = tt

    pub reads : (after : ArenaView) (p : Progress) (new : Tidy) → ReadStep epoch a after (unread tidy) seen reading p new → TidyStep epoch a after tidy p new
    reads after p new step = at_stage epoch a after tidy (Seeks noted) p new is step.key (retired reading after p new step.changes)
        (record { steps = law reading leads after p new step.changes step.follows; reads = read_so tidy.finding reads_it.does after p new step.changes }) (tidied reading after p new step.changes step.follows)
        (waits reading after p new step.changes step.follows why)
        (record { part = reads_it.part; lent = reads_it.lent; does = subst (λ (r : FindReading). FollowsReading a (unread tidy) seen r p new) reads_it.does step.follows })

-- ---- as the code has it: what it had read, what is left of its key, and what it notes, each by its name
module _ (epoch : ℕ) (a : ArenaView) (tidy : Tidy) (noted : Noted) (is : tidy.stage ≡ Seeks noted) (may : MayTidy epoch a tidy) (finding : Finding) (finding_is : finding ≡ tidy.finding) where
  pub order_named : AtOrder finding → IsSome (border_at a.nodes tidy.way.node.0)
  order_named order = at_order epoch a tidy noted is may (subst AtOrder finding_is order)

  pub lent_reader : IsReader finding
  lent_reader = subst IsReader (sym finding_is) (may_want epoch a tidy noted is may)

  module _ (rest : List ℕ) (rest_is : rest ≡ rest_of tidy.key tidy.way) where
    pub lent_may : MayRead a tidy.way.node.0 (slice_number rest) finding
    lent_may = subst (λ (r : List ℕ). MayRead a tidy.way.node.0 (slice_number r) finding) (sym rest_is) (subst (λ (f : Finding). MayRead a tidy.way.node.0 (slice_number (rest_of tidy.key tidy.way)) f) (sym finding_is) (may_read epoch a tidy noted is may))

    module _ (bytes : AreBytes tidy.key) (reading : FindReading) (reads_it : SeekReads a tidy.way.node.0 rest finding reading) where
      own_reads : SeekReads a tidy.way.node.0 (rest_of tidy.key tidy.way) tidy.finding reading
      own_reads = subst (λ (r : List ℕ). SeekReads a tidy.way.node.0 r tidy.finding reading) rest_is (subst (λ (f : Finding). SeekReads a tidy.way.node.0 rest f reading) finding_is reads_it)

      pub place_there : AtPlace a tidy.way.node.0 reading
      place_there = at_border epoch a tidy noted is bytes may reading own_reads

      pub reads_by : (dest : Finding) → dest ≡ Begins → (notes : Noted) → notes ≡ glanced finding (border_at a.nodes tidy.way.node.0) noted → (after : ArenaView) (p : Progress) (new : Tidy)
          → ReadStep epoch a after (record tidy { finding = dest }) notes reading p new → TidyStep epoch a after tidy p new
      reads_by dest dest_is notes notes_is after p new step = reads epoch a tidy noted is bytes may reading own_reads after p new
          (subst (λ (x : Noted). ReadStep epoch a after (unread tidy) x reading p new) (notes_is ∙ ap (λ (f : Finding). glanced f (border_at a.nodes tidy.way.node.0) noted) finding_is)
          (subst (λ (f : Finding). ReadStep epoch a after (record tidy { finding = f }) notes reading p new) dest_is step))

-- The step of a get that reads one field: its law, by what it is lent.
use Rattle.std.proofs.Common.{ℕ, suc, ◌≡◌, ◌<◌, ◌≤◌, ◌+◌, ◌*◌, inl, inr, List, [], ◌∷◌, length, Option, Some, None, refl, sym, ap, subst, ◌∙◌, arith}
use Rattle.std.specs.Prelude.{◌-◌, slice_index, Result, Ok, IsSome, IfOk}
use Rattle.mt_types.specs.declared.refusal.NoMemory.{NoMemory as NoMemoryError}
use Rattle.std.specs.Option.{option_and_then}
use Rattle.mt_slice.specs.Place.{AreBytes, slice_number}
use Rattle.mt_slice.proofs.Slices.{bytes-drop}
use Rattle.mt_commit.specs.Log.{LogView}
use Rattle.mt_border.specs.Border.{BorderView}
use Rattle.mt_arena.specs.Arena.{ArenaView}
use Rattle.mt_arena.specs.Node.{node_at, border_at, border_of, IsNode}
use Rattle.mt_arena.specs.Parts.{IsPart}
use Rattle.mt_arena.specs.declared.node.Node.{Node}
use Rattle.mt_arena.specs.declared.node.Node.TheVariants.{Head as HeadNode, Interior as InteriorNode, Border as BorderNode}
use Rattle.mt_arena.specs.declared.part.Part.{Part}
use Rattle.mt_chart.specs.Tree.{Arena}
use Rattle.mt_chart.specs.Walk.{Trail}
use Rattle.mt_tree.specs.Seen.{arena_seen}
use Rattle.mt_interior.specs.Head.{HeadView}
use Rattle.mt_interior.specs.Interior.{InteriorView}
use Rattle.mt_arena.specs.declared.part.Field.TheVariants.{Version as VersionField, Right as RightField, Order as OrderField, Key as KeyField, Value as ValueField}
use Rattle.mt_tree.specs.Descent.{visit_head, visit_interior}
use Rattle.mt_steps.specs.Reader.{by_visit, wants, IsReader, MayRead}
use Rattle.mt_steps.specs.Standing.{Lends}
use Rattle.mt_steps.specs.declared.way.Way.{Way}
use Rattle.mt_steps.specs.declared.finding.Sight.TheVariants.{Absent as AbsentSight, Row as RowSight, Link as LinkSight}
use Rattle.mt_steps.specs.Finding.{Finding, FindReads}
use Rattle.mt_steps.specs.declared.reader.Reader.TheVariants.{Begins, Looked, Bounded, Reads, AtValue, Settles}
use Rattle.mt_steps.specs.Finding.{FindReading}
use Rattle.mt_steps.specs.declared.reader.Reading.TheVariants.{Restarts, Repeats, GoesOn, To, Finds}
use Rattle.mt_steps.specs.declared.getting.Get.{Get}
use Rattle.mt_steps.specs.Getting.{reading_of, progress_of, get_after, GetFollows, FindingIsTrue, reads_made, MovesOn, GetIsTrue, get_request}
use Rattle.mt_steps.specs.World.{World, IsWorld}
use Rattle.mt_steps.specs.Way.{IsOnWay, MayGo, Names, rest_of}
use Rattle.mt_types.specs.declared.limits.TheConstants.{MAX_NODES}
use Rattle.mt_types.specs.declared.refusal.Refusal.TheVariants.{NoMemory}
use Rattle.mt_promise.specs.declared.limits.TheConstants.{MAX_READS}
use Rattle.mt_steps.specs.declared.progress.Progress.TheVariants.{Refused}
use Rattle.mt_steps.specs.Step.{StepLaw, Stepped, MayStep, nothing}
use Rattle.mt_steps.specs.declared.progress.Progress.{Progress}
use Rattle.mt_steps.proofs.FieldLemmas.{LeadsTo, on_way, leads_looked, leads_bounded, leads_ordered, leads_value, leads_settled, leads_inner}
use Rattle.mt_steps.proofs.KeyLemmas.{leads_key}
use Rattle.mt_steps.proofs.GetLemmas.{may_go, may_go_at}
use Rattle.mt_steps.proofs.PartLemmas.{lends_field, version_part, right_part, order_part, key_part, value_part, head_part, interior_part}
use Rattle.mt_steps.proofs.FrameLemmas.{goes_same, quiet_same, moves_bounded, trail_begins}
use Rattle.mt_steps.proofs.WayLemmas.{starts, went_in}

-- ---- what is true where it leads
module _ (a : ArenaView) (now : ℕ) (w : World) (world : IsWorld a now w) (begun : ℕ) (key asked : List ℕ) (way : Way) (past : List Arena) (bytes : AreBytes key) where
  abbrev get_at : Finding → Get
  get_at finding = record { key = key; columns = asked; way = way; finding = finding }

  rest_bytes : AreBytes (rest_of key way)
  rest_bytes = bytes-drop (8 * way.layer) key bytes

  -- at a head or an interior node, or at a border of which it has read nothing
  at_head : IsOnWay begun key way w → (h : HeadView) → Names a way.node.0 (HeadNode h) → IsNode (HeadNode h) → (part : Part) → IsPart (HeadNode h) VersionField part → LeadsTo key asked way Begins begun past a w (reading_of (get_at Begins) part)
  at_head on h names sound part is =
      let (own, one, view) = head_part h VersionField part is in
      subst (λ (p : Part). LeadsTo key asked way Begins begun past a w (reading_of (get_at Begins) p)) (sym one)
      (subst (λ (x : HeadView). LeadsTo key asked way Begins begun past a w (by_visit (visit_head x))) (sym view)
      (leads_inner a now w world begun key asked way past (visit_head h)
      (went_in key way (HeadNode h) (rest_of key way) refl (visit_head h) refl sound (record { has_child = λ i of alive. absurd (let clash : ◌≡◌ {A = Option InteriorView} None (Some i) = of in cc) }) a names) on))

  at_interior : IsOnWay begun key way w → (i : InteriorView) → Names a way.node.0 (InteriorNode i) → IsNode (InteriorNode i) → (part : Part) → IsPart (InteriorNode i) VersionField part → LeadsTo key asked way Begins begun past a w (reading_of (get_at Begins) part)
  at_interior on i names sound part is =
      let (own, one, view) = interior_part i VersionField part is in
      subst (λ (p : Part). LeadsTo key asked way Begins begun past a w (reading_of (get_at Begins) p)) (sym one)
      (subst (λ (x : InteriorView). LeadsTo key asked way Begins begun past a w (by_visit (visit_interior (slice_number (rest_of key way)) x))) (sym view)
      (leads_inner a now w world begun key asked way past (visit_interior (slice_number (rest_of key way)) i)
      (went_in key way (InteriorNode i) (rest_of key way) refl (visit_interior (slice_number (rest_of key way)) i) refl sound (record {
        has_child = (may_go_at a key way (InteriorNode i) names (may_go a key way now begun w world on)).may.has_child;
      }) a names) on))

  at_node : IsOnWay begun key way w → (node : Node) → Names a way.node.0 node → IsNode node → (part : Part) → IsPart node VersionField part → LeadsTo key asked way Begins begun past a w (reading_of (get_at Begins) part)
  at_node on (HeadNode h) names sound part is = at_head on h names sound part is
  at_node on (InteriorNode i) names sound part is = at_interior on i names sound part is
  at_node on (BorderNode b) names sound part is =
      subst (λ (p : Part). LeadsTo key asked way Begins begun past a w (reading_of (get_at Begins) p)) (sym (version_part b part is))
      (leads_looked a now w world begun key asked way past b (ap (option_and_then border_of) names.named) sound on)

  -- WHAT IT READS LEADS where it says
  pub leads : (finding : Finding) → FindingIsTrue key asked way finding begun (arena_seen a ∷ past) a w → (part : Part) → Lends a way.node.0 (wants finding) part
      → LeadsTo key asked way finding begun past a w (reading_of (get_at finding) part)
  leads Begins on part lent = at_node on lent.node (record { named = lent.named; sound = lent.arena }) lent.sound part lent.is
  leads (Looked counters) at part lent =
      let field = lends_field a way.node.0 RightField part lent at.here.b at.here.named in
      subst (λ (p : Part). LeadsTo key asked way (Looked counters) begun past a w (reading_of (get_at (Looked counters)) p)) (sym (right_part at.here.b part field.is)) (leads_bounded a now w world begun key asked way past counters at)
  leads (Bounded counters right) (at, bound) part lent =
      let field = lends_field a way.node.0 OrderField part lent at.here.b at.here.named in
      subst (λ (p : Part). LeadsTo key asked way (Bounded counters right) begun past a w (reading_of (get_at (Bounded counters right)) p)) (sym (order_part at.here.b part field.is))
      (leads_ordered a now w world begun key asked way past counters at field.sound right bound)
  leads (Reads notes) (at, bound, (within, fits), searches) part lent =
      let n = slice_index notes.glance.order.live notes.place in
      let field = lends_field a way.node.0 (KeyField n) part lent at.here.b at.here.named in
      let (own, one, is) = key_part at.here.b n part field.is in
      subst (λ (p : Part). LeadsTo key asked way (Reads notes) begun past a w (reading_of (get_at (Reads notes)) p)) (sym one)
      (leads_key a now w world begun key asked way past notes.glance.counters at field.sound rest_bytes notes.glance.right notes.glance.order notes.place within fits bound searches own is)
  leads (AtValue notes kind) (at, fits, deep, is_true) part lent =
      let n = slice_index notes.glance.order.live notes.place in
      let field = lends_field a way.node.0 (ValueField n) part lent at.here.b at.here.named in
      let (own, one, is) = value_part at.here.b n part field.is in
      subst (λ (p : Part). LeadsTo key asked way (AtValue notes kind) begun past a w (reading_of (get_at (AtValue notes kind)) p)) (sym one)
      (leads_value a now w world begun key asked way past notes.glance.counters at notes.glance.order notes.glance.right notes.place kind fits deep is_true own is)
  leads (Settles counters sight) (at, fits, is_true) part lent =
      let field = lends_field a way.node.0 VersionField part lent at.here.b at.here.named in
      subst (λ (p : Part). LeadsTo key asked way (Settles counters sight) begun past a w (reading_of (get_at (Settles counters sight)) p)) (sym (version_part at.here.b part field.is))
      (leads_settled a now w world begun key asked way past counters at bytes sight fits is_true)

-- ---- the law of its step
-- at one node it makes few moves
pub reads_few : (finding : Finding) (key asked : List ℕ) (way : Way) (begun : ℕ) (arenas : List Arena) (a : ArenaView) (w : World) → FindingIsTrue key asked way finding begun arenas a w → reads_made finding ≤ 20
reads_few Begins key asked way begun arenas a w truth = omega arith
reads_few (Looked counters) key asked way begun arenas a w truth = omega arith
reads_few (Bounded counters right) key asked way begun arenas a w truth = omega arith
reads_few (Reads notes) key asked way begun arenas a w truth = let (within, fits) = truth.2 in omega (arith, within, fits)
reads_few (AtValue notes kind) key asked way begun arenas a w truth = let (within, fits) = truth.1 in omega (arith, within, fits)
reads_few (Settles counters sight) key asked way begun arenas a w truth = omega arith

module _ (a : ArenaView) (get : Get) (part : Part) (lent : Lends a get.way.node.0 (wants get.finding) part) (bytes : AreBytes get.key) (C : ℕ) (log : LogView) where
  module _ (now begun moves : ℕ) (past : List Arena) (w : World) (world : IsWorld a now w) (truth : GetIsTrue get begun moves past a w) where
    few : reads_made get.finding ≤ 20
    few = reads_few get.finding get.key get.columns get.way begun (arena_seen a ∷ past) a w truth.0

    -- its run of moves is short
    short : moves < MAX_READS * MAX_NODES
    short =
        let least = moves_bounded a w.chart begun get.way.node.0 truth.1.came lent.arena world.index.tree truth.1.trail in
        let most = truth.1.few in
        omega (arith, least, most, few)

    -- and continues, one move longer
    one_more : (next : Way) → ((made : ℕ) → Trail begun w.chart get.way.node.0 made → Trail begun w.chart next.node.0 (suc made)) → MovesOn begun (moves + 1) next Begins w
    one_more next climbs = record { came = suc truth.1.came; trail = climbs truth.1.came truth.1.trail; few = let most = truth.1.few in omega (arith, most, few) }

    stepped : (reading : FindReading) → LeadsTo get.key get.columns get.way get.finding begun past a w reading
        → Stepped C now moves past a a log log w (get_request get) nothing (progress_of reading) nothing (λ m next. GetIsTrue (get_after get reading) begun m (arena_seen a ∷ past) a next)
    stepped Restarts led =
        let on = starts a now w begun get.key world in
        record { goes = goes_same now a w _ [] [] refl world (on, record { came = 0; trail = trail_begins w.chart begun 0 _ _ on.held; few = omega arith }); does = (quiet_same a log, refl); reserved = refl; bounds = refl; blocked = inl refl; may = tt }
    stepped Repeats on =
        record { goes = goes_same now a w _ [] [] refl world (on, record { came = truth.1.came; trail = truth.1.trail; few = omega arith }); does = (quiet_same a log, refl); reserved = refl; bounds = refl; blocked = inl refl; may = tt }
    stepped (GoesOn next) led =
        record {
          goes = goes_same now a w _ [] [] refl world (led.0, record { came = truth.1.came; trail = truth.1.trail; few = let most = truth.1.few in let more = led.1 in omega (arith, most, more) });
          does = (quiet_same a log, refl);
          reserved = refl;
          bounds = refl;
          blocked = inl refl;
          may = λ is_get. short;
        }
    stepped (To node) led = record { goes = goes_same now a w _ [] [] refl world (led.on, one_more (record { node = node; layer = get.way.layer }) led.climbs); does = (quiet_same a log, refl); reserved = refl; bounds = refl; blocked = inl refl; may = λ is_get. short }
    stepped (Finds (LinkSight head)) led = record { goes = goes_same now a w _ [] [] refl world (led.on, one_more (record { node = head; layer = get.way.layer + 1 }) led.climbs); does = (quiet_same a log, refl); reserved = refl; bounds = refl; blocked = inl refl; may = λ is_get. short }
    stepped (Finds AbsentSight) right = record { goes = goes_same now a w _ [] [] refl world tt; does = (quiet_same a log, right); reserved = refl; bounds = refl; blocked = tt; may = tt }
    stepped (Finds (RowSight row)) right = record { goes = goes_same now a w _ [] [] refl world tt; does = (quiet_same a log, right); reserved = refl; bounds = refl; blocked = tt; may = tt }

  pub get_reads : StepLaw C a a log log (get_request get) nothing (progress_of (reading_of get part)) nothing (GetIsTrue get) (GetIsTrue (get_after get (reading_of get part)))
  get_reads = record {
    steps = λ now begun moves past w world before truth.
        stepped now begun moves past w world truth (reading_of get part) (leads a now w world begun get.key get.columns get.way past bytes get.finding truth.0 part lent);
  }

-- if memory is refused it ends
pub get_fails : (a : ArenaView) (get : Get) (dest : Finding) (C : ℕ) (log : LogView) → StepLaw C a a log log (get_request get) nothing (Refused NoMemory) nothing (GetIsTrue get) (GetIsTrue (record get { finding = dest }))
get_fails a get dest C log = record {
  steps = λ now begun moves past w world before truth. record { goes = goes_same now a w _ [] [] refl world tt; does = (quiet_same a log, refl, tt, tt); reserved = refl; bounds = refl; blocked = refl; may = tt };
}

-- ---- as the code has it: what is left of its key, what it had read, and its reading, each by its name
module _ (a : ArenaView) (log : LogView) (get : Get) (may : MayStep a log nothing (GetIsTrue get)) where
  abbrev Truth : Finding → Type 0
  Truth finding = FindingIsTrue get.key get.columns get.way finding may.begun (arena_seen a ∷ may.past) a may.w

  goes : MayGo a get.key get.way
  goes = may_go a get.key get.way may.now may.begun may.w may.world (on_way a may.now may.w may.world may.begun get.key get.columns get.way may.past get.finding may.true.0)

  pub get_within : 8 * get.way.layer ≤ length get.key - 1
  get_within = goes.within

  -- the node where it stands is there
  pub get_node : IsSome (node_at a.nodes get.way.node.0)
  get_node = goes.may.named

  within : (finding : Finding) → Truth finding → IsReader finding
  within Begins on = tt
  within (Looked counters) at = tt
  within (Bounded counters right) truth = tt
  within (Reads notes) (at, bound, (less, fits), searches) = less
  within (AtValue notes kind) (at, (less, fits), deep, is_true) = less
  within (Settles counters sight) truth = tt

  not_none : (b : BorderView) → border_at a.nodes get.way.node.0 ≡ Some b → border_at a.nodes get.way.node.0 ≡ None → (finding : Finding) → finding ≡ Begins
  not_none b named none finding = absurd (let clash : ◌≡◌ {A = Option BorderView} (Some b) None = sym named ∙ none in cc)

  begins : (finding : Finding) → Truth finding → border_at a.nodes get.way.node.0 ≡ None → finding ≡ Begins
  begins Begins on none = refl
  begins (Looked counters) at none = not_none at.here.b at.here.named none (Looked counters)
  begins (Bounded counters right) (at, bound) none = not_none at.here.b at.here.named none (Bounded counters right)
  begins (Reads notes) (at, bound, place, searches) none = not_none at.here.b at.here.named none (Reads notes)
  begins (AtValue notes kind) (at, place, deep, is_true) none = not_none at.here.b at.here.named none (AtValue notes kind)
  begins (Settles counters sight) (at, fits, is_true) none = not_none at.here.b at.here.named none (Settles counters sight)

  module _ (rest : List ℕ) (rest_is : rest ≡ rest_of get.key get.way) (finding : Finding) (finding_is : finding ≡ get.finding) where
    pub get_reader : IsReader finding
    get_reader = subst IsReader (sym finding_is) (within get.finding may.true.0)

    pub get_may_read : MayRead a get.way.node.0 (slice_number rest) finding
    get_may_read =
        subst (λ (r : List ℕ). MayRead a get.way.node.0 (slice_number r) finding) (sym rest_is)
        (subst (λ (x : Finding). MayRead a get.way.node.0 (slice_number (rest_of get.key get.way)) x) (sym finding_is)
        (record { begins = begins get.finding may.true.0; child = goes.may.has_child }))

after_same : (get : Get) (dest : Finding) (reading : FindReading) → get_after (record get { finding = dest }) reading ≡ get_after get reading
after_same get dest Restarts = refl
after_same get dest Repeats = refl
after_same get dest (GoesOn finding) = refl
after_same get dest (To node) = refl
after_same get dest (Finds AbsentSight) = refl
after_same get dest (Finds (RowSight row)) = refl
after_same get dest (Finds (LinkSight head)) = refl

module _ (a : ArenaView) (get : Get) (rest : List ℕ) (rest_is : rest ≡ rest_of get.key get.way) (finding : Finding) (finding_is : finding ≡ get.finding) (result : Result FindReading NoMemoryError) (reads : FindReads a get.way.node.0 rest get.columns finding result) where
  own_reads : FindReads a get.way.node.0 (rest_of get.key get.way) get.columns get.finding result
  own_reads =
      subst (λ (r : List ℕ). FindReads a get.way.node.0 r get.columns get.finding result) rest_is
      (subst (λ (x : Finding). FindReads a get.way.node.0 rest get.columns x result) finding_is reads)

  module _ (reading : FindReading) (is : result ≡ Ok reading) (dest : Finding) (p : Progress) (progress : p ≡ progress_of reading) (new : Get) (after : new ≡ get_after (record get { finding = dest }) reading) where
    abbrev part : Part
    part = own_reads.part

    of : reading ≡ reading_of get part
    of = subst (λ (r : Result FindReading NoMemoryError). IfOk r (λ x. x ≡ reading_of get part)) is own_reads.does

    pub follows : GetFollows a get p new
    follows = record { part = part; lent = own_reads.lent; does = inr (progress ∙ ap progress_of of, after ∙ (after_same get dest reading ∙ ap (get_after get) of)) }

    pub step_law : AreBytes get.key → (C : ℕ) (log : LogView) → StepLaw C a a log log (get_request get) nothing p nothing (GetIsTrue get) (GetIsTrue new)
    step_law bytes C log =
        subst (λ (q : Progress). StepLaw C a a log log (get_request get) nothing q nothing (GetIsTrue get) (GetIsTrue new)) (sym (progress ∙ ap progress_of of))
        (subst (λ (g : Get). StepLaw C a a log log (get_request get) nothing (progress_of (reading_of get part)) nothing (GetIsTrue get) (GetIsTrue g)) (sym (after ∙ (after_same get dest reading ∙ ap (get_after get) of)))
        (get_reads a get part own_reads.lent bytes C log))

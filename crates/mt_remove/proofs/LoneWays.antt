-- A tidy that runs alone comes nearer to its end on its ways: to its place, and to the border before the one that it unlinks.
use Rattle.std.proofs.Common.{ℕ, ◌≡◌, ◌<◌, ◌≤◌, ◌+◌, ◌*◌, ◌-◌, ◌==◌, ◌⊎◌, not, inl, inr, List, [], ◌∷◌, length, Option, Some, None, Bool, true, false, refl, sym, ap, subst, ◌∙◌, arith, add-one}
use Rattle.std.specs.Prelude.{IsSomeAnd, if◌then◌else◌}
use Rattle.mt_types.specs.declared.numbers.NodeNo.{NodeNo}
use Rattle.mt_types.specs.declared.event.Answer.TheVariants.{Tidied}
use Rattle.mt_types.specs.declared.event.TidyRule.{TidyRule}
use Rattle.mt_types.specs.declared.event.TidyRule.TheVariants.{Nothing as NoRule}
use Rattle.mt_types.specs.declared.limits.TheConstants.{MAX_KEY_BYTES}
use Rattle.mt_slice.specs.Place.{AreBytes, slice_number}
use Rattle.mt_border.specs.Border.{BorderView, with_locked}
use Rattle.mt_border.specs.declared.entry.RightLink.{RightLink}
use Rattle.mt_arena.specs.Node.{node_at, border_at}
use Rattle.mt_arena.specs.Arena.{ArenaView, with_border_changed}
use Rattle.mt_arena.specs.declared.node.Node.{Node}
use Rattle.mt_arena.specs.declared.node.Node.TheVariants.{Head, Interior, Border}
use Rattle.std.specs.Option.{option_map}
use Rattle.std.proofs.lemmas.Bool.{eq-eqb}
use Rattle.mt_chart.specs.Tree.{Arena, Among, Below, Right}
use Rattle.mt_chart.specs.Chart.{Role, at_level, Standing, on, spot, Chart}
use Rattle.mt_chart.specs.Walk.{all_heights, Moves, IsOn}
use Rattle.mt_chart.proofs.TreeLemmas.{left_found}
use Rattle.mt_tree.specs.Seen.{arena_seen, border_seen, right_seen}
use Rattle.mt_tree.proofs.SeenLemmas.{seen-border}
use Rattle.mt_steps.specs.declared.finding.Kind.TheVariants.{Row as RowKind, Link as LinkKind}
use Rattle.mt_steps.specs.declared.finding.Sight.TheVariants.{Absent as AbsentSight, Row as RowSight, Link as LinkSight}
use Rattle.mt_steps.specs.declared.reader.Reader.TheVariants.{Begins, Looked, Bounded, Reads, AtValue, Settles}
use Rattle.mt_steps.specs.declared.reader.Reading.TheVariants.{Restarts, Repeats, GoesOn, To, Finds}
use Rattle.mt_steps.specs.declared.way.Way.{Way}
use Rattle.mt_steps.specs.declared.progress.Progress.TheVariants.{Moved, Waits, Answered}
use Rattle.mt_steps.specs.Finding.{Finding, FindReading}
use Rattle.mt_steps.specs.Getting.{reads_made}
use Rattle.mt_steps.specs.Way.{prefix_of, rest_of, IsOnWay, IsHeadOf}
use Rattle.mt_steps.specs.World.{World, IsWorld, IsTaken, NotAmong}
use Rattle.mt_steps.proofs.BorderLemmas.{now_named}
use Rattle.mt_steps.specs.Reader.{wants, by_visit}
use Rattle.mt_steps.specs.Standing.{Lends}
use Rattle.mt_arena.specs.declared.part.Field.TheVariants.{Right as RightField}
use Rattle.mt_arena.specs.declared.part.Part.{Part}
use Rattle.mt_arena.specs.declared.part.Part.TheVariants.{Head as HeadPart, Interior as InteriorPart, Version as VersionPart, Right as RightPart, Order as OrderPart, Key as KeyPartOf, Value as ValuePartOf}
use Rattle.mt_tree.specs.Descent.{visit_head, visit_interior}
use Rattle.mt_tree.specs.declared.visit.Visit.{Visit}
use Rattle.mt_tree.specs.declared.visit.Visit.TheVariants.{Again as VisitAgain, To as VisitTo, Below as VisitBelow, Here as VisitHere}
use Rattle.mt_steps.proofs.PartLemmas.{lends_field, right_part}
use Rattle.mt_steps.proofs.ReaderLemmas.{looked_by, bounded_by}
use Rattle.mt_steps.proofs.LoneFinding.{FindStands, FindGoes}
use Rattle.mt_steps.proofs.LoneLemmas.{untaken_alive, untaken_unlocked}
use Rattle.mt_steps.proofs.LoneWay.{way_left, StandsIn, on_height, MovesOn, moves_on, layers_above, IsOnThere, move_nearer}
use Rattle.mt_steps.proofs.RangeLemmas.{slice_back}
use Rattle.mt_remove.specs.declared.noted.Noted.{Noted}
use Rattle.mt_remove.specs.declared.sign.Sign.{Sign}
use Rattle.mt_remove.specs.declared.sign.Sign.TheVariants.{Nothing, Empty, LoneChild}
use Rattle.mt_remove.specs.declared.tidy.Tidy.{Tidy}
use Rattle.mt_remove.specs.declared.stage.Unlinking.{Unlinking}
use Rattle.mt_remove.specs.declared.stage.Stage.{Stage}
use Rattle.mt_remove.specs.declared.stage.Stage.TheVariants.{Seeks, Marked, LeftLocked}
use Rattle.mt_remove.specs.Noted.{noted_below, noted_at, glanced, sign_of}
use Rattle.mt_remove.specs.Reading.{seek_reading}
use Rattle.mt_remove.specs.Tidy.{stage_owns, tidy_held, StageIsTrue, StageReads}
use Rattle.mt_remove.specs.Locked.{HasLeft}
use Rattle.mt_remove.specs.Known.{SeekFinding, AtLock}
use Rattle.mt_remove.specs.Follows.{Did, GoesTo, names, slice_rest, unread, advanced, approached, approach_progress, LocksLeftBy, BeginsAt, BeginsBy, FollowsReading, Follows}
use Rattle.mt_remove.proofs.LoneReads.{LeftStands, LeftGoes, settles_not, NotOn}
use Rattle.mt_remove.proofs.SeekReads.{SeekLeads, seek_leads}
use Rattle.mt_remove.proofs.LoneStages.{LeftNamesIt, before_apart, goes_left, goes_there, head_apart, head_stands, left_free, left_made, not_the_one, same_prefix, same_standing, some_gives, stage_left, stage_stands}

-- ---- what is left falls
pub not_done : (rule : TidyRule) → Did rule Moved → ⊥
not_done rule done = let clash : Moved ≡ Answered (Tidied rule) = done in cc

-- what is noted on the way names a head that is on
noted_on : (chart : Chart) (node : Node) (from to : NodeNo) (noted : Noted) (same : Bool) → IsOn chart to.0 → IsOn chart noted.head.0 → IsOn chart (if not same then noted_below from to else noted_at node from to noted).head.0
noted_on chart node from to noted false there head = there
noted_on chart (Head h) from to noted true there head = head
noted_on chart (Interior i) from to noted true there head = head
noted_on chart (Border b) from to noted true there head = head

-- noting what was read of a border changes no head
glanced_head : (finding : Finding) (o : Option BorderView) (noted : Noted) → (glanced finding o noted).head ≡ noted.head
glanced_head (Bounded counters right) (Some b) noted = refl
glanced_head (Bounded counters right) None noted = refl
glanced_head Begins o noted = refl
glanced_head (Looked counters) o noted = refl
glanced_head (Reads notes) o noted = refl
glanced_head (AtValue notes kind) o noted = refl
glanced_head (Settles counters sight) o noted = refl

field_falls : (big way one other : ℕ) → one < other → other ≤ 20 → big + (32 * way + (24 - other)) < big + (32 * way + (24 - one))
field_falls big way one other more few = omega (arith, more, few)

node_falls : (big way left one other : ℕ) → left < way → big + (32 * left + (24 - one)) < big + (32 * way + (24 - other))
node_falls big way left one other less = omega (arith, less)

left_falls : (one other layer number to : ℕ) (a after : ArenaView) → one ≡ layer → other ≡ layer → way_left after layer to ≡ way_left a layer to → way_left a one to < way_left a other number → way_left after layer to < way_left a layer number
left_falls one other layer number to a after is is_too same falls =
    let there : way_left a layer to < way_left a other number = subst (λ (n : ℕ). way_left a n to < way_left a other number) is falls in
    let both : way_left a layer to < way_left a layer number = subst (λ (n : ℕ). way_left a layer to < way_left a n number) is_too there in
    subst (λ (n : ℕ). n < way_left a layer number) (sym same) both

made_few : (finding : Finding) → left_made finding ≤ 2
made_few Begins = omega arith
made_few (Looked counters) = omega arith
made_few (Bounded counters right) = omega arith
made_few (Reads notes) = omega arith
made_few (AtValue notes kind) = omega arith
made_few (Settles counters sight) = omega arith

-- a reading of the border before it leads on
abbrev Rises : ℕ → FindReading → Type 0
Rises made (GoesOn to) = made < left_made to
Rises made _ = Unit {0}

visit_rises : (made : ℕ) (visit : Visit) → Rises made (by_visit visit)
visit_rises made VisitAgain = tt
visit_rises made (VisitTo to) = tt
visit_rises made (VisitBelow head) = tt
visit_rises made VisitHere = tt

begins_rises : (rest : List ℕ) (part : Part) → Rises 0 (seek_reading Begins rest part)
begins_rises rest (HeadPart own) = visit_rises 0 (visit_head own.now)
begins_rises rest (InteriorPart own) = visit_rises 0 (visit_interior (slice_number rest) own.now)
begins_rises rest (VersionPart version) = looked_by (Rises 0) version (λ e. tt) (λ e. tt) (λ e. omega arith)
begins_rises rest (RightPart right) = tt
begins_rises rest (OrderPart order) = tt
begins_rises rest (KeyPartOf own) = tt
begins_rises rest (ValuePartOf own) = tt

left_rises : (a : ArenaView) (node : NodeNo) (rest : List ℕ) (slice : ℕ) (finding : Finding) → (AtLock finding → ⊥) → LeftStands a slice node.0 finding → (part : Part) → Lends a node.0 (wants finding) part → Rises (left_made finding) (seek_reading finding rest part)
left_rises a node rest slice Begins before stands part lent = begins_rises rest part
left_rises a node rest slice (Looked counters) before (b, now) part lent =
    let field = lends_field a node.0 RightField part lent b now.named in
    subst (λ (p : Part). Rises 1 (seek_reading (Looked counters) rest p)) (sym (right_part b part field.is)) (bounded_by (Rises 1) (slice_number rest) counters b.right (λ to e least. tt) (λ e. omega arith))
left_rises a node rest slice (Bounded counters right) before stands part lent = absurd (before tt)
left_rises a node rest slice (Reads notes) before stands part lent = absurd stands
left_rises a node rest slice (AtValue notes kind) before stands part lent = absurd stands
left_rises a node rest slice (Settles counters sight) before stands part lent = absurd stands

pub most_heights : (a : ArenaView) (layer number : ℕ) → way_left a layer number ≤ all_heights
most_heights a layer number = omega arith

module _ (a after : ArenaView) (now begun : ℕ) (w next : World) (world : IsWorld a now w) (world_next : IsWorld after now next) (tidy : Tidy) (bytes : AreBytes tidy.key) (fits : length tidy.key ≤ MAX_KEY_BYTES) (all_owned : (number : ℕ) → IsTaken a w number → Among number (tidy_held tidy).owns) where
  -- nothing stands elsewhere than before, but for what the tidy owned or owns
  abbrev Spots : List ℕ → List ℕ → Type 0
  Spots owned owns = (number : ℕ) → NotAmong number owned → NotAmong number owns → next.chart number ≡ w.chart number

  -- it stands so after the step, and is nearer to its end than at this stage
  abbrev Nearer : Finding → Stage → Tidy → Type 0
  Nearer finding stage new = stage_stands after next new.key new.way new.finding new.stage × (stage_left after new.way new.finding new.stage < stage_left a tidy.way finding stage)

  abbrev Comes : Stage → Tidy → Type 0
  Comes stage new = Spots (stage_owns stage) (stage_owns new.stage) → StageIsTrue begun new.key new.way new.finding new.stage after next → Nearer tidy.finding stage new

  goes : (stage to : Stage) (new : Tidy) → GoesTo tidy Moved new to → Comes stage (record tidy { stage = to }) → Comes stage new
  goes stage to new follows comes = subst (λ (t : Tidy). Comes stage t) (sym follows.1) comes

  stays_on : (number : ℕ) → IsOn w.chart number → next.chart number ≡ w.chart number → IsOn next.chart number
  stays_on number there same = record { role = there.role; prefix = there.prefix; low = there.low; posted = there.posted; place = same ∙ there.place }

  -- the spot of its node determines what is left of a way
  left_same : (layer number : ℕ) (role : Role) (prefix : List ℕ) (low : ℕ) (posted : Bool) → length prefix ≡ layer → w.chart number ≡ Some (spot role prefix low (on posted)) → next.chart number ≡ w.chart number → way_left after layer number ≡ way_left a layer number
  left_same layer number role prefix low posted deep place same =
      subst (λ (n : ℕ). way_left after n number ≡ way_left a n number) deep
      (ap (λ (h : ℕ). all_heights - h) (on_height (arena_seen after) next.chart world_next.index.tree number role prefix low posted (same ∙ place) ∙ sym (on_height (arena_seen a) w.chart world.index.tree number role prefix low posted place)))

  -- ---- on its way
  module _ (noted : Noted) (is : tidy.stage ≡ Seeks noted) (truth : StageIsTrue begun tidy.key tidy.way tidy.finding (Seeks noted) a w) (stands : stage_stands a w tidy.key tidy.way tidy.finding (Seeks noted)) (reads : StageReads a after tidy.finding (Seeks noted)) (new : Tidy) where
    abbrev here_n : ℕ
    here_n = tidy.way.node.0

    owned : (number : ℕ) → IsTaken a w number → Among number []
    owned number taken = subst (λ (s : Stage). Among number (stage_owns s)) is (all_owned number taken)

    same_at : Spots [] [] → (number : ℕ) → next.chart number ≡ w.chart number
    same_at spots number = spots number (λ i. elim i [ ]) (λ i. elim i [ ])

    there_still : Spots [] [] → IsOnThere next tidy.key tidy.way
    there_still spots = record { posted = stands.0.posted; role = stands.0.role; low = stands.0.low; place = same_at spots here_n ∙ stands.0.place }

    abbrev seen : Noted
    seen = glanced tidy.finding (border_at a.nodes here_n) noted

    head_still : Spots [] [] → IsOn next.chart seen.head.0
    head_still spots = subst (λ (h : NodeNo). IsOn next.chart h.0) (sym (glanced_head tidy.finding (border_at a.nodes here_n) noted)) (stays_on noted.head.0 stands.1 (same_at spots noted.head.0))

    -- it reads on: no node was changed
    reads_on : (finding : Finding) → (finding ≡ tidy.finding) → StageReads a after finding (Seeks noted) → (rest : List ℕ) (part : Part) (to : Finding) → seek_reading finding rest part ≡ GoesOn to → after ≡ a
    reads_on Begins f same rest part to led_on = same
    reads_on (Looked counters) f same rest part to led_on = same
    reads_on (Bounded counters right) f same rest part to led_on = same
    reads_on (Reads notes) f same rest part to led_on = same
    reads_on (AtValue notes kind) f same rest part to led_on = same
    reads_on (Settles counters sight) f same rest part to led_on = absurd (subst NotOn led_on (settles_not counters sight rest part))

    reads_few : (finding : Finding) (past : List Arena) → SeekFinding tidy.key tidy.way finding begun (arena_seen a ∷ past) a w → reads_made finding ≤ 20
    reads_few Begins past t = omega arith
    reads_few (Looked counters) past t = omega arith
    reads_few (Bounded counters right) past t = omega arith
    reads_few (Reads notes) past t = let (within, few) = t.2 in omega (arith, within, few)
    reads_few (AtValue notes RowKind) past t = absurd t
    reads_few (AtValue notes LinkKind) past t = let (within, few) = t.1 in omega (arith, within, few)
    reads_few (Settles counters sight) past t = omega arith

    moves_nearer : (to : Way) → IsOnWay begun tidy.key to w → Moves (arena_seen a) here_n to.node.0 → IsSomeAnd (node_at a.nodes here_n) (λ node. new ≡ advanced (unread tidy) node to seen) → Comes (Seeks noted) new
    moves_nearer to further move new_is = some_gives (node_at a.nodes here_n) _ (Comes (Seeks noted) new) (λ node h. subst (λ (t : Tidy). Comes (Seeks noted) t) (sym h) (by_node node)) new_is
      where
        by_node : (node : Node) → Comes (Seeks noted) (advanced (unread tidy) node to seen)
        by_node node spots new_true =
            let (there, falls) = move_nearer a now begun w tidy.key tidy.way to world bytes fits truth.0 stands.0 further move in
            let same = same_at spots in
            let place = same to.node.0 ∙ there.place in
            let left = left_same to.layer to.node.0 there.role (prefix_of tidy.key to) there.low there.posted (layers_above to.layer tidy.key) there.place (same to.node.0) in (
              (
                record { posted = there.posted; role = there.role; low = there.low; place = place },
                noted_on next.chart node tidy.way.node to.node seen (to.layer == tidy.way.layer) (record { role = there.role; prefix = prefix_of tidy.key to; low = there.low; posted = there.posted; place = place }) (head_still spots),
                tt,
              ),
              node_falls (8 * all_heights + 64) (way_left a tidy.way.layer here_n) (way_left after to.layer to.node.0) 0 (reads_made tidy.finding) (subst (λ (x : ℕ). x < way_left a tidy.way.layer here_n) (sym left) falls),
            )

    head_stays : Spots [] (here_n ∷ []) → (head : NodeNo) → IsOn w.chart head.0 → (prefix layer : List ℕ) (low : ℕ) (standing : Standing) → IsHeadOf next begun head.0 prefix → next.chart here_n ≡ Some (spot (at_level 0) layer low standing) → head_stands next tidy.key tidy.way head
    head_stays spots head there prefix layer low standing known place =
        let apart = not_the_one head.0 here_n (head_apart next.chart head.0 here_n _ _ _ _ _ _ known.place place) in
        (stays_on head.0 there (spots head.0 (λ i. elim i [ ]) apart), truth.0.layer.within)

    seen_head : IsOn w.chart seen.head.0
    seen_head = subst (λ (h : NodeNo). IsOn w.chart h.0) (sym (glanced_head tidy.finding (border_at a.nodes here_n) noted)) stands.1

    by_sign : (sign : Sign) → BeginsBy (unread tidy) seen sign Moved new → Comes (Seeks noted) new
    by_sign Nothing done = absurd (not_done NoRule done)
    by_sign (Empty emptied glance) follows = subst (λ (t : Tidy). Comes (Seeks noted) t) (sym follows.1) (λ spots new_true.
        (head_stays spots seen.head seen_head _ _ _ _ new_true.0.headed new_true.0.own.place, omega arith))
    by_sign (LoneChild lone) follows = subst (λ (t : Tidy). Comes (Seeks noted) t) (sym follows.1) (λ spots new_true. (tt, omega arith))

    begins_nearer : IsSomeAnd (border_at a.nodes here_n) (λ b. BeginsAt (unread tidy) seen b Moved new) → Comes (Seeks noted) new
    begins_nearer begins = some_gives (border_at a.nodes here_n) _ (Comes (Seeks noted) new) (λ b h. elim h [ inl locked ↦ absurd (not_done NoRule locked.1) | inr other ↦ by_sign (sign_of b.low seen) other.1 ]) begins

    by_reading : (part : Part) (reading : FindReading) → seek_reading tidy.finding (rest_of tidy.key tidy.way) part ≡ reading → FindGoes a here_n reading → SeekLeads a now w world begun tidy.key tidy.way truth.2.0 tidy.finding reading → FollowsReading a (unread tidy) seen reading Moved new → Comes (Seeks noted) new
    by_reading part Restarts is_so moves led follows = absurd moves
    by_reading part Repeats is_so moves led follows = absurd moves
    by_reading part (GoesOn to) is_so noted_there led follows = subst (λ (t : Tidy). Comes (Seeks noted) t) (sym follows.1) (λ spots new_true.
        let same : after ≡ a = reads_on tidy.finding refl reads (rest_of tidy.key tidy.way) part to is_so in
        let left = left_same tidy.way.layer here_n stands.0.role (prefix_of tidy.key tidy.way) stands.0.low stands.0.posted (layers_above tidy.way.layer tidy.key) stands.0.place (same_at spots here_n) in (
          (there_still spots, head_still spots, subst (λ (x : ArenaView). FindStands x here_n to) (sym same) noted_there),
          subst (λ (x : ℕ). (8 * all_heights + 64) + (32 * x + (24 - reads_made to)) < (8 * all_heights + 64) + (32 * way_left a tidy.way.layer here_n + (24 - reads_made tidy.finding))) (sym left)
              (field_falls (8 * all_heights + 64) (way_left a tidy.way.layer here_n) (reads_made tidy.finding) (reads_made to) led.1 (reads_few to (arena_seen a ∷ truth.2.0) led.0)),
        ))
    by_reading part (To node) is_so move led follows = moves_nearer (record { node = node; layer = tidy.way.layer }) led move follows.1
    by_reading part (Finds (LinkSight head)) is_so move led follows = moves_nearer (record { node = head; layer = tidy.way.layer + 1 }) led.0 move follows.1
    by_reading part (Finds AbsentSight) is_so moves led follows = begins_nearer follows
    by_reading part (Finds (RowSight row)) is_so moves led follows = begins_nearer follows

    pub seeks_nearer : Follows a tidy (Seeks noted) Moved new → Comes (Seeks noted) new
    seeks_nearer follows = by_reading follows.part (seek_reading tidy.finding (rest_of tidy.key tidy.way) follows.part) refl (goes_there a now begun w world tidy noted truth stands owned Moved new follows)
        (seek_leads a now w world begun tidy.key tidy.way truth.2.0 bytes tidy.finding truth.2.1 follows.part follows.lent) follows.does

  -- ---- an empty border
  -- the head is still on
  pub head_beside : (border : ℕ) (head : NodeNo) (stands : head_stands w tidy.key tidy.way head) (prefix layer : List ℕ) (low : ℕ) (standing : Standing) → Spots (border ∷ []) (border ∷ []) → IsHeadOf next begun head.0 prefix → next.chart border ≡ Some (spot (at_level 0) layer low standing) → head_stands next tidy.key tidy.way head
  head_beside border head stands prefix layer low standing spots known place =
      let apart = not_the_one head.0 border (head_apart next.chart head.0 border _ _ _ _ _ _ known.place place) in
      (stays_on head.0 stands.0 (spots head.0 apart apart), stands.1)

  -- ---- on its way to the border before it
  module _ (u : Unlinking) (is : tidy.stage ≡ Marked u) (truth : StageIsTrue begun tidy.key tidy.way tidy.finding (Marked u) a w) (stands : stage_stands a w tidy.key tidy.way tidy.finding (Marked u)) (reads : StageReads a after tidy.finding (Marked u)) (new : Tidy) where
    owned_left : (number : ℕ) → IsTaken a w number → Among number (u.border.0 ∷ [])
    owned_left number taken = subst (λ (s : Stage). Among number (stage_owns s)) is (all_owned number taken)

    abbrev layer_prefix : List ℕ
    layer_prefix = prefix_of tidy.key tidy.way

    at_left : StandsIn w.chart u.node.0 layer_prefix
    at_left = record {
      role = truth.1.role;
      low = truth.1.low;
      posted = stands.1.posted;
      place =
          truth.1.place
          ∙ ap (λ (s : Standing). Some (spot truth.1.role layer_prefix truth.1.low s)) (same_standing truth.1.role stands.1.role layer_prefix stands.1.prefix truth.1.low stands.1.low truth.1.standing (on stands.1.posted) (sym truth.1.place ∙ stands.1.place));
      fits = let most = truth.1.at_most in let within = truth.0.fits in omega (arith, most, within);
    }

    -- it advances
    to_nearer : (to : NodeNo) → Moves (arena_seen a) u.node.0 to.0 → Comes (Marked u) (record tidy { finding = Begins; stage = Marked (record u { node = to }) })
    to_nearer to move spots new_true =
        let many = layers_above tidy.way.layer tidy.key in
        let in_key = stands.0.1 in
        let on_next : MovesOn a w.chart to.0 (way_left a (length layer_prefix) u.node.0) = moves_on a now w world u.node.0 to.0 layer_prefix at_left (omega (arith, many, in_key, fits)) move in
        let apart = not_the_one to.0 u.border.0 (before_apart after begun next (record u { node = to }) layer_prefix new_true.0 new_true.1) in
        let same = spots to.0 apart apart in
        let layer : on_next.prefix ≡ layer_prefix = same_prefix w.chart next.chart to.0 _ _ on_next.prefix layer_prefix _ _ _ _ on_next.place same new_true.1.place in
        let reached : length on_next.prefix ≡ tidy.way.layer = ap (λ (p : List ℕ). length p) layer ∙ many in
        let falls = left_falls (length on_next.prefix) (length layer_prefix) tidy.way.layer u.node.0 to.0 a after reached many (left_same tidy.way.layer to.0 on_next.role on_next.prefix on_next.low on_next.posted reached on_next.place same) on_next.falls in
        let few = made_few tidy.finding in (
          (
            head_beside u.border.0 u.head stands.0 _ _ _ _ spots new_true.0.headed new_true.0.border.place,
            record { role = on_next.role; prefix = on_next.prefix; low = on_next.low; posted = on_next.posted; place = same ∙ on_next.place },
            tt,
          ),
          omega (arith, falls, few),
        )

    -- what is left of the way where it stays is as it was
    stays_left : Spots (u.border.0 ∷ []) (u.border.0 ∷ []) → way_left after tidy.way.layer u.node.0 ≡ way_left a tidy.way.layer u.node.0
    stays_left spots =
        let apart = not_the_one u.node.0 u.border.0 (before_apart a begun w u layer_prefix truth.0 truth.1) in
        left_same tidy.way.layer u.node.0 at_left.role layer_prefix at_left.low at_left.posted (layers_above tidy.way.layer tidy.key) at_left.place (spots u.node.0 apart apart)

    on_nearer : (to : Finding) → after ≡ a → left_made tidy.finding < left_made to → LeftStands a u.slice u.node.0 to → Comes (Marked u) (record tidy { finding = to; stage = Marked u })
    on_nearer to same more stands_then spots new_true =
        let apart = not_the_one u.node.0 u.border.0 (before_apart a begun w u layer_prefix truth.0 truth.1) in
        let left = stays_left spots in (
          (
            head_beside u.border.0 u.head stands.0 _ _ _ _ spots new_true.0.headed new_true.0.border.place,
            stays_on u.node.0 stands.1 (spots u.node.0 apart apart),
            subst (λ (x : ArenaView). LeftStands x u.slice u.node.0 to) (sym same) stands_then,
          ),
          omega (arith, left, more, made_few to),
        )

    left_unchanged : (finding : Finding) → (AtLock finding → ⊥) → StageReads a after finding (Marked u) → after ≡ a
    left_unchanged Begins before same = same
    left_unchanged (Looked counters) before same = same
    left_unchanged (Bounded counters right) before same = absurd (before tt)
    left_unchanged (Reads notes) before same = same
    left_unchanged (AtValue notes kind) before same = same
    left_unchanged (Settles counters sight) before same = same

    -- the border before is locked: it names the border, since nobody else has changed it
    lock_nearer : AtLock tidy.finding → Comes (Marked u) (record tidy { finding = Begins; stage = LeftLocked u })
    lock_nearer lock spots new_true = (by_finding tidy.finding lock stands.2 reads, let few = made_few tidy.finding in omega (arith, few))
      where
        by_finding : (finding : Finding) → AtLock finding → LeftStands a u.slice u.node.0 finding → StageReads a after finding (Marked u) → LeftNamesIt after u
        by_finding (Bounded counters right) lock (b, named, below) changed = (new_true.left.b, new_true.left.named, named_by changed)
          where
            k : HasLeft begun after next layer_prefix u
            k = new_true

            right_same : (after ≡ a) ⊎ (after ≡ with_border_changed a u.node.0 with_locked) → new_true.left.b.right ≡ b.right
            right_same (inl same) = ap (λ (x : BorderView). x.right) (let both : ◌≡◌ {A = Option BorderView} (Some new_true.left.b) (Some b) = sym new_true.left.named ∙ (ap (λ (x : ArenaView). border_at x.nodes u.node.0) same ∙ named) in let one : new_true.left.b ≡ b = cc in one)
            right_same (inr same) = ap (λ (x : BorderView). x.right) (let both : ◌≡◌ {A = Option BorderView} (Some new_true.left.b) (Some (with_locked b)) = sym new_true.left.named ∙ (ap (λ (x : ArenaView). border_at x.nodes u.node.0) same ∙ now_named a u.node.0 b with_locked named) in let one : new_true.left.b ≡ with_locked b = cc in one)

            names_by : (right : Option RightLink) (low : ℕ) → option_map right_seen right ≡ Some (record { low = low; number = u.border.0 }) → names right u.border ≡ true
            names_by None low e = absurd (let clash : ◌≡◌ {A = Option Right} None (Some (record { low = low; number = u.border.0 })) = e in cc)
            names_by (Some link) low e = eq-eqb link.node.0 u.border.0 (let both : ◌≡◌ {A = Option Right} (Some (right_seen link)) (Some (record { low = low; number = u.border.0 })) = e in let one : right_seen link ≡ record { low = low; number = u.border.0 } = cc in ap (λ (x : Right). x.number) one)

            named_by : (after ≡ a) ⊎ (after ≡ with_border_changed a u.node.0 with_locked) → names new_true.left.b.right u.border ≡ true
            named_by changed = names_by new_true.left.b.right k.unlinking.border.b.low
                (left_found (arena_seen after) next.chart world_next.index.tree u.node.0 u.border.0 u.slice layer_prefix (border_seen k.left.b) (border_seen k.unlinking.border.b)
                (record { posted = k.left.posted; place = k.left.place; node = seen-border after u.node.0 k.left.b k.left.named })
                (record { posted = false; place = k.unlinking.border.place; node = seen-border after u.border.0 k.unlinking.border.b k.unlinking.border.named }) k.low (sym (add-one u.slice) ∙ k.unlinking.before)
                (subst (λ (r : Option RightLink). Below u.slice (option_map right_seen r)) (sym (right_same changed)) below))
        by_finding Begins lock s changed = absurd lock
        by_finding (Looked counters) lock s changed = absurd lock
        by_finding (Reads notes) lock s changed = absurd lock
        by_finding (AtValue notes kind) lock s changed = absurd lock
        by_finding (Settles counters sight) lock s changed = absurd lock

    pub marked_nearer : Follows a tidy (Marked u) Moved new → Comes (Marked u) new
    marked_nearer (inl read) = by_reading_left (seek_reading tidy.finding (slice_rest u) read.part) refl (goes_left a now begun w world tidy u truth stands owned_left read.before read.part read.lent) read.does.0 read.does.1
      where
        by_reading_left : (reading : FindReading) → seek_reading tidy.finding (slice_rest u) read.part ≡ reading
            → LeftGoes a u.node (slice_rest u) u.slice (slice_back u.slice (slice_rest u) refl truth.0.fits) (untaken_alive a now w world u.node.0 (left_free a now begun w world tidy u truth stands owned_left) stands.1) (untaken_unlocked a now w world u.node.0 (left_free a now begun w world tidy u truth stands owned_left)) reading
            → Moved ≡ approach_progress reading → new ≡ approached tidy u reading → Comes (Marked u) new
        by_reading_left Restarts is_so moves p_is new_is = absurd moves
        by_reading_left Repeats is_so moves p_is new_is = absurd moves
        by_reading_left (GoesOn to) is_so noted_there p_is new_is = subst (λ (t : Tidy). Comes (Marked u) t) (sym new_is) (on_nearer to (left_unchanged tidy.finding read.before reads) (subst (Rises (left_made tidy.finding)) is_so (left_rises a u.node (slice_rest u) u.slice tidy.finding read.before stands.2 read.part read.lent)) noted_there)
        by_reading_left (To node) is_so move p_is new_is = subst (λ (t : Tidy). Comes (Marked u) t) (sym new_is) (to_nearer node move)
        by_reading_left (Finds sight) is_so moves p_is new_is = absurd moves
    marked_nearer (inr (lock, looked)) = some_gives (border_at a.nodes u.node.0) _ (Comes (Marked u) new) (λ b does. by_both b.version.deleted b.version.locked does) looked
      where
        by_both : (deleted locked : Bool) → LocksLeftBy tidy u deleted locked Moved new → Comes (Marked u) new
        by_both true locked does = absurd (let clash : Moved ≡ Waits = does.0 in cc)
        by_both false true does = absurd (let clash : Moved ≡ Waits = does.0 in cc)
        by_both false false does = subst (λ (t : Tidy). Comes (Marked u) t) (sym does.1) (lock_nearer lock)

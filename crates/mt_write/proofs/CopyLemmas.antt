-- The copies of a split: an entry of the upper half by its key and its value, and the half that is given back.
use Rattle.std.proofs.Common.{ℕ, ◌≡◌, ◌≢◌, ◌<◌, ◌+◌, ◌-◌, ◌==◌, inl, inr, Bool, true, false, List, [], ◌∷◌, ◌++◌, length, map, take, drop, get_or, slice_get, Option, Some, None, IsSome, refl, sym, ap, subst, ◌∙◌, arith}
use Rattle.std.specs.Prelude.{if◌then◌else◌, slice_index, IsSomeAnd}
use Rattle.std.specs.Option.{option_and_then}
use Rattle.std.proofs.lemmas.Bool.{eq-eqb, eqb-true}
use Rattle.std.proofs.lemmas.List.{get_or-drop, get_or-map, length-drop, length-map, length-append, take_more, take_all}
use Rattle.std.proofs.lemmas.Option.{get_or_from_slice_get, slice_get-get_or, slice_get_read}
use Rattle.mt_types.specs.declared.numbers.NodeNo.{NodeNo}
use Rattle.mt_types.specs.declared.refusal.Refusal.TheVariants.{NoMemory}
use Rattle.mt_commit.specs.Log.{LogView}
use Rattle.mt_word.specs.Slots.{Slots}
use Rattle.mt_word.specs.declared.permutation_word.TheConstants.{SLOTS}
use Rattle.mt_border.specs.Border.{BorderView, with_unlocked}
use Rattle.mt_border.specs.Cut.{IsBestCut, NoneNearer, slices}
use Rattle.mt_border.proofs.CutLemmas.{some_cut}
use Rattle.mt_border.specs.Order.{IsBorder}
use Rattle.mt_border.specs.Parts.{IsValueOf}
use Rattle.mt_border.specs.Slots.{slot_at}
use Rattle.mt_border.specs.Table.{blank_slot}
use Rattle.mt_border.specs.declared.entry.Content.{Content}
use Rattle.mt_border.specs.declared.unwritten.Unwritten.TheVariants.{Nothing}
use Rattle.mt_border.specs.declared.entry.Content.TheVariants.{Short, Long, Link}
use Rattle.mt_border.specs.declared.entry.Entry.{Entry}
use Rattle.mt_border.specs.declared.field.ValuePart.{ValuePart}
use Rattle.mt_border.specs.declared.field.ValuePart.TheVariants.{Row as RowPart, Link as LinkPart}
use Rattle.mt_arena.specs.Arena.{ArenaView, with_border_changed, without_node}
use Rattle.mt_arena.specs.Node.{border_at, border_of, node_at, Updates}
use Rattle.mt_arena.specs.declared.node.Node.{Node}
use Rattle.mt_arena.specs.declared.part.Field.TheVariants.{Value as ValueField}
use Rattle.mt_arena.specs.declared.part.Part.TheVariants.{Value as ValuePartOf}
use Rattle.mt_arena.proofs.NodeLemmas.{node-from_border, updates-without}
use Rattle.mt_chart.specs.Chart.{Chart, Spot}
use Rattle.mt_chart.specs.Tree.{Among, first, later}
use Rattle.mt_chart.proofs.Entries.{among_cases}
use Rattle.mt_chart.proofs.HeldNodes.{evolves_same}
use Rattle.mt_tree.specs.Keeping.{KeepsTree, KeepsUnknown}
use Rattle.mt_tree.proofs.AgeLemmas.{entry_read}
use Rattle.mt_steps.specs.Entering.{entry_noted}
use Rattle.mt_steps.specs.declared.entering.Outline.{Outline}
use Rattle.mt_steps.specs.declared.listing.SlotKey.{SlotKey}
use Rattle.mt_steps.specs.declared.progress.Progress.TheVariants.{Moved, Refused}
use Rattle.mt_steps.specs.declared.way.Way.{Way}
use Rattle.mt_steps.specs.Step.{StepLaw}
use Rattle.mt_steps.specs.World.{World, IsWorld, IsLockedBorder, IsLockedInterior, NotAmong, Goes}
use Rattle.mt_steps.proofs.AgingLemmas.{age_of_unknown}
use Rattle.mt_steps.proofs.AliveLemmas.{alive_there, alive_unknown}
use Rattle.mt_steps.proofs.BorderLemmas.{keys_same, retired_kept, twins_beside, unknown_kept}
use Rattle.mt_steps.proofs.FrameLemmas.{goes_same, is_among, quiet_same, retired_same, taken_back}
use Rattle.mt_steps.proofs.LayerLemmas.{content_twice}
use Rattle.mt_steps.proofs.PartLemmas.{lends_field}
use Rattle.mt_steps.proofs.SplitLemmas.{heads_occupied, vacant_free}
use Rattle.mt_steps.proofs.TwiceLemmas.{goes_then}
use Rattle.mt_write.specs.declared.writing.Edit.{Edit}
use Rattle.mt_write.specs.declared.writing.Stage.{Stage}
use Rattle.mt_write.specs.declared.writing.Stage.TheVariants.{Copies, GivesBack, Spared}
use Rattle.mt_write.specs.declared.writing.Write.{Write}
use Rattle.mt_write.specs.Causes.{FailsCopying}
use Rattle.mt_write.specs.Follows.{MayBeAt, TreeStep}
use Rattle.mt_write.specs.Held.{edit_request, stage_held, write_held}
use Rattle.mt_write.specs.Splitting.{copied_stage, entry_copied, key_slices, CopiesValue, AreCopied, IsCutAt, IsRead, empty_half}
use Rattle.mt_write.specs.Writing.{IsLockedAt, IsSpare, PutsNew, StageIsTrue, WriteIsTrue}
use Rattle.mt_write.proofs.CommitLemmas.{ends, tells_version}
use Rattle.mt_write.proofs.SpareLemmas.{unknown_known}
use Rattle.mt_write.proofs.StageSteps.{closes, leads}
use Rattle.mt_write.proofs.WriteLemmas.{quiet_step}

-- ---- the entry of a key that was noted
pub copied_entry : (entry : Entry) (value : ValuePart) → IsValueOf entry.content value → entry_copied (entry_noted entry) value ≡ Some entry
copied_entry entry value is = go entry.slice entry.content value is
  where
    go : (slice : ℕ) (content : Content) (value : ValuePart) → IsValueOf content value → entry_copied (entry_noted (record { slice = slice; content = content })) value ≡ Some (record { slice = slice; content = content })
    go slice (Short bytes row) (RowPart part) is = ap (λ r. Some (record { slice = slice; content = Short bytes r })) is
    go slice (Long suffix row) (RowPart part) is = ap (λ r. Some (record { slice = slice; content = Long suffix r })) is
    go slice (Link head) (LinkPart part) is = ap (λ h. Some (record { slice = slice; content = Link h })) is
    go slice (Short bytes row) (LinkPart part) is = absurd is
    go slice (Long suffix row) (LinkPart part) is = absurd is
    go slice (Link head) (RowPart part) is = absurd is

-- ---- the value of the slot at a place
module _ (b : BorderView) (sound : IsBorder b) (outline : Outline) (read : IsRead b outline) (place : ℕ) (within : place < length b.live) where
  abbrev entry_there : Entry
  entry_there = get_or b.live place blank_slot.entry

  -- the key that was noted is the entry's
  pub key_there : (key : SlotKey) → slice_get outline.keys place ≡ Some key → key ≡ entry_noted entry_there
  key_there key noted =
      let d : SlotKey = entry_noted blank_slot.entry in
      let long : length (map entry_noted b.live) ≡ length b.live = length-map b.live entry_noted in
      sym (get_or_from_slice_get outline.keys place key d noted) ∙ (ap (λ (keys : List SlotKey). get_or keys place d) read.keys ∙ get_or-map entry_noted b.live place blank_slot.entry d within)

  pub keys_within : place < length outline.keys
  keys_within = let long = length-map b.live entry_noted in let same = ap (λ (keys : List SlotKey). length keys) read.keys in omega (arith, within, long, same)

  -- as it is read in a list of them
  pub noted_there : (keys : List SlotKey) (key : SlotKey) → keys ≡ outline.keys → key ≡ get_or keys place key → slice_get outline.keys place ≡ Some key
  noted_there keys key same is =
      let inside : place < length keys = subst (λ (k : List SlotKey). place < length k) (sym same) keys_within in
      subst (λ (k : List SlotKey). slice_get k place ≡ Some key) same (slice_get_read keys (length keys) place key refl inside is)

  pub key_noted : (keys : List SlotKey) (key : SlotKey) → keys ≡ outline.keys → key ≡ get_or keys place key → key ≡ entry_noted entry_there
  key_noted keys key same is = key_there key (noted_there keys key same is)

  -- the value that is read in its slot is the entry's
  pub value_there : (value : ValuePart) → IsValueOf (slot_at b (slice_index outline.order.live place)).entry.content value → IsValueOf entry_there.content value
  value_there value is =
      let own : (slot_at b (slice_index outline.order.live place)).entry ≡ entry_there = ap (λ (o : Slots). (slot_at b (slice_index o.live place)).entry) read.order ∙ sym (entry_read b sound place within) in
      subst (λ (e : Entry). IsValueOf e.content value) own is

-- ---- the cut, by the keys that were noted
pub slices_noted : (live : List Entry) → key_slices (map entry_noted live) ≡ slices live
slices_noted [] = refl
slices_noted (entry ∷ live) = ap (λ (rest : List ℕ). entry.slice ∷ rest) (slices_noted live)

-- what the cut of these keys is of the entries
pub record CutByKeys (b : BorderView) (cut : ℕ) : Type 0 where
  pub best : IsBestCut (slices b.live) cut
  pub within : cut < length b.live
  pub middle : Entry
  pub is : middle ≡ get_or b.live cut blank_slot.entry
  pub is_middle : slice_get b.live cut ≡ Some middle

module _ (b : BorderView) (sound : IsBorder b) (full : length b.live ≡ SLOTS) (outline : Outline) (read : IsRead b outline) (keys : List SlotKey) (same : keys ≡ outline.keys) where
  slices_read : key_slices keys ≡ slices b.live
  slices_read = ap key_slices (same ∙ read.keys) ∙ slices_noted b.live

  pub none_by_keys : NoneNearer (key_slices keys) 8 → ⊥
  none_by_keys none = some_cut b.live full sound.ordered sound.entries (subst (λ (of : List ℕ). NoneNearer of 8) slices_read none)

  pub cut_by_keys : (cut : ℕ) → IsBestCut (key_slices keys) cut → CutByKeys b cut
  cut_by_keys cut best =
      let last = best.lawful.last in
      let within : cut < length b.live = omega (arith, last, full) in
      record {
        best = subst (λ (of : List ℕ). IsBestCut of cut) slices_read best;
        within = within;
        middle = get_or b.live cut blank_slot.entry;
        is = refl;
        is_middle = slice_get-get_or b.live cut blank_slot.entry within;
      }

-- ---- a copy
-- what was read is that of the border
copies_right : (a : ArenaView) (number : ℕ) (b : BorderView) → border_at a.nodes number ≡ Some b → IsBorder b → (outline : Outline) → IsRead b outline → (place : ℕ) → place < length b.live → (entries copies : List Entry) → CopiesValue a number outline place entries copies
    → copies ≡ entries ++ (get_or b.live place blank_slot.entry ∷ [])
copies_right a number b named sound outline read place within entries copies c =
    let field = lends_field a number (ValueField (slice_index outline.order.live place)) (ValuePartOf c.value) c.lent b named in
    let key = key_there b sound outline read place within c.key c.noted in
    let value = value_there b sound outline read place within c.value field.is in
    let both : ◌≡◌ {A = Option Entry} (Some c.entry) (Some (get_or b.live place blank_slot.entry)) = sym c.is ∙ (ap (λ (k : SlotKey). entry_copied k c.value) key ∙ copied_entry (get_or b.live place blank_slot.entry) c.value value) in
    let same : c.entry ≡ get_or b.live place blank_slot.entry = cc in
    c.more ∙ ap (λ (e : Entry). entries ++ (e ∷ [])) same

-- one entry more of the upper half
one_copied : (b : BorderView) (cut : ℕ) (entries copies : List Entry) → length b.live ≡ SLOTS → AreCopied b cut entries → copies ≡ entries ++ (get_or b.live (cut + length entries) blank_slot.entry ∷ [])
    → (length copies ≡ length entries + 1) × (copies ≡ take (length copies) (drop cut b.live))
one_copied b cut entries copies full are is =
    let n : ℕ = length entries in
    let upper : List Entry = drop cut b.live in
    let some = are.some in
    let long : length upper ≡ length b.live - cut = length-drop cut b.live in
    let inside : n < length upper = omega (arith, some, long, full) in
    let count : length copies ≡ n + 1 = ap (λ (es : List Entry). length es) is ∙ length-append entries (get_or b.live (cut + n) blank_slot.entry ∷ []) in
    let more : take (n + 1) upper ≡ take n upper ++ (get_or b.live (cut + n) blank_slot.entry ∷ []) =
    take_more upper n blank_slot.entry inside ∙ ap (λ (e : Entry). take n upper ++ (e ∷ [])) (get_or-drop cut b.live n blank_slot.entry) in
    (count, is ∙ (ap (λ (es : List Entry). es ++ (get_or b.live (cut + n) blank_slot.entry ∷ [])) are.first ∙ (sym more ∙ ap (λ (m : ℕ). take m upper) (sym count))))

module _ (C : ℕ) (a : ArenaView) (log : LogView) (key : List ℕ) (edit : Edit) (way : Way) (half : NodeNo) (cut place : ℕ) (outline : Outline) (entries : List Entry) where
  abbrev CopyLaw : Stage → Type 0
  CopyLaw new = StepLaw C a a log log (edit_request key edit) (stage_held way.node.0 (Copies half cut place outline entries)) Moved (stage_held way.node.0 new) (λ begun moves past x w. StageIsTrue C key edit way (Copies half cut place outline entries) begun x w) (λ begun moves past x w. StageIsTrue C key edit way new begun x w)

  -- what is true once it is made
  copied_true : (begun : ℕ) (w : World) (copies : List Entry) → CopiesValue a way.node.0 outline (cut + length entries) entries copies → StageIsTrue C key edit way (Copies half cut place outline entries) begun a w → StageIsTrue C key edit way (copied_stage half cut place outline copies) begun a w
  copied_true begun w copies c truth =
      let (b, at, flagged, cut_at, s, read, are, p) = truth in
      let full = cut_at.full in
      let some = are.some in
      let right = copies_right a way.node.0 b at.named cut_at.sound outline read (cut + length entries) (omega (arith, some, full)) entries copies c in
      let (count, is) = one_copied b cut entries copies full are right in
      go b at flagged cut_at s read p count is some (cut + length copies == SLOTS) refl
    where
      go : (b : BorderView) → IsLockedAt a key way b w → b.version.splitting ≡ true → (c : IsCutAt key way b cut place) → IsSpare a w half.0 (empty_half b c.middle) → IsRead b outline → PutsNew edit → length copies ≡ length entries + 1 → copies ≡ take (length copies) (drop cut b.live) → cut + length entries < SLOTS
          → (all : Bool) → (cut + length copies == SLOTS) ≡ all → StageIsTrue C key edit way (if all then Spared half cut place outline.right copies else Copies half cut place outline copies) begun a w
      go b at flagged c s read p count is some true last =
          let all : cut + length copies ≡ SLOTS = eqb-true (cut + length copies) SLOTS last in
          let long : length (drop cut b.live) ≡ length b.live - cut = length-drop cut b.live in
          let full = c.full in
          (b, at, flagged, c, s, is ∙ take_all (length copies) (drop cut b.live) (omega (arith, all, long, full)), p, sym read.right)
      go b at flagged c s read p count is some false more =
          let other : cut + length copies ≢ SLOTS = λ e. (let clash : true ≡ false = sym (eq-eqb (cut + length copies) SLOTS e) ∙ more in absurd (cc)) in
          (b, at, flagged, c, s, read, record { first = is; some = omega (arith, other, count, some) }, p)

  copied_held : (copies : List Entry) → stage_held way.node.0 (copied_stage half cut place outline copies) ≡ stage_held way.node.0 (Copies half cut place outline entries)
  copied_held copies = go (cut + length copies == SLOTS)
    where
      go : (all : Bool) → stage_held way.node.0 (if all then Spared half cut place outline.right copies else Copies half cut place outline copies) ≡ stage_held way.node.0 (Copies half cut place outline entries)
      go true = refl
      go false = refl

  pub copies_one : (copies : List Entry) → CopiesValue a way.node.0 outline (cut + length entries) entries copies → CopyLaw (copied_stage half cut place outline copies)
  copies_one copies c = record {
    steps = λ now begun moves past w world before truth.
        let held = sym (copied_held copies) in
        quiet_step key edit
        (goes_same now a w _ (half.0 ∷ way.node.0 ∷ []) _ (ap (λ h. h.owns) held) world (copied_true begun w copies c truth))
        (quiet_same a log).content (ap (λ h. h.committed) (sym held)) (ap (λ h. h.reserves) (sym held)) (inl (ap (λ h. h.blocked) (sym held)));
  }

  pub copies_none : CopyLaw (GivesBack half)
  copies_none = record {
    steps = λ now begun moves past w world before truth.
        let (b, at, flagged, c, s, read, are, p) = truth in
        quiet_step key edit
        (goes_same now a w _ (half.0 ∷ way.node.0 ∷ []) (half.0 ∷ way.node.0 ∷ []) refl world (
          record { b = b; named = at.named; known = subst (λ (o : Option Spot). IsSome o) (sym at.stands.stands.place) refl; locked = at.locked; alive = at.alive; written = at.written; free = at.free },
          empty_half b c.middle,
          s,
        ))
        (quiet_same a log).content refl refl (inl refl);
  }

-- it has not failed otherwise
copied_fails : (half : NodeNo) (cut place : ℕ) (outline : Outline) (copies : List Entry) → FailsCopying (copied_stage half cut place outline copies)
copied_fails half cut place outline copies = go (cut + length copies == SLOTS)
  where
    go : (all : Bool) → FailsCopying (if all then Spared half cut place outline.right copies else Copies half cut place outline copies)
    go true = tt
    go false = tt

module _ (a : ArenaView) (write : Write) (half : NodeNo) (cut place : ℕ) (outline : Outline) (entries : List Entry) where
  pub some_left : MayBeAt a write (Copies half cut place outline entries) → cut + length entries < SLOTS
  some_left (C, log, may) = let (b, at, flagged, c, s, read, are, p) = may.true.0 in are.some

  pub copies_value : (copies : List Entry) → CopiesValue a write.way.node.0 outline (cut + length entries) entries copies → TreeStep a a write (Copies half cut place outline entries) Moved (record write { stage = copied_stage half cut place outline copies })
  copies_value copies c = λ C log.
      leads C a a log log write (Copies half cut place outline entries) Moved (copied_stage half cut place outline copies) write.way refl (copies_one C a log write.key write.edit write.way half cut place outline entries copies c) tt (tt, copied_fails half cut place outline copies) (inl (copies, c, refl), refl) refl tt tt

  pub gives_up : TreeStep a a write (Copies half cut place outline entries) Moved (record write { stage = GivesBack half })
  gives_up = λ C log. leads C a a log log write (Copies half cut place outline entries) Moved (GivesBack half) write.way refl (copies_none C a log write.key write.edit write.way half cut place outline entries) tt (tt, tt) (inr refl, refl) refl tt tt

-- ---- the half is given back
unknown_free : (a : ArenaView) (chart : Chart) (number : ℕ) → chart number ≡ None → IsLockedInterior a chart number → ⊥
unknown_free a chart number unknown locked = (let clash : false ≡ true = subst (λ (o : Option Spot). IsSome o) unknown locked.known in cc)

-- once a spare that the call owns names nothing
goes_returned : (now : ℕ) (a after : ArenaView) (w : World) (number : ℕ) (rest : List ℕ) (Then : World → Type 0) → Updates a.nodes after.nodes number None → after.retired ≡ a.retired → KeepsUnknown a after number → w.chart number ≡ None → NotAmong number w.closing
    → IsWorld a now w → Then w → Goes now a after w (number ∷ rest) rest Then
goes_returned now a after w number rest Then updates retired keeps unknown free world truth =
    let kept = keeps.keeps now w.twins w.chart world.index unknown in
    let beside : (other : ℕ) → NotAmong other (number ∷ rest) → other ≢ number = λ other out e. out (subst (λ (m : ℕ). Among other (m ∷ rest)) e first) in
    record {
      next = w;
      world = record {
        index = kept.index;
        keys = keys_same a after kept.content world.keys;
        heads = heads_occupied a after w number None updates unknown free world.heads;
        alive = alive_there a after w.chart number (alive_unknown after w.chart number unknown) updates.others world.alive;
        twins = twins_beside a after w.chart w.chart w.twins number (evolves_same 0 w.chart) (unknown_free a w.chart number unknown) updates.others world.twins;
        retired = retired_kept a after now w.chart w.chart number (evolves_same 0 w.chart) (unknown_kept a now w.chart number unknown world.retired) updates.others retired world.retired;
      };
      evolves = kept.evolves;
      leaves = λ other taken apart. (record { node = updates.others other (beside other apart); spot = refl; twins = λ one other here. ((λ h. h), (λ h. h)); closing = λ i. i; retired = retired_same a.retired after.retired other retired }, λ i. apart (later i));
      takes = λ other taken. elim (is_among other rest) [
        | inl i ↦ inl i
        | inr out ↦ (let differ = vacant_free after w number other updates.changed taken in inr (
          taken_back a after w w other (record { node = updates.others other differ; spot = refl; twins = λ one other here. ((λ h. h), (λ h. h)); closing = λ i. i; retired = retired_same a.retired after.retired other retired }) taken,
          λ i. elim (among_cases other number rest i) [ inl e ↦ differ e | inr j ↦ out j ],
        ))
      ];
      spots = λ number out apart. refl;
      age = age_of_unknown number unknown updates.others;
      true = truth;
    }

module _ (a : ArenaView) (write : Write) (half : NodeNo) (may : MayBeAt a write (GivesBack half)) where
  -- what its calls ask for
  pub half_named : IsSome (node_at a.nodes half.0)
  half_named = let (C, log, m) = may in subst (λ (o : Option Node). IsSome o) (sym (node-from_border a.nodes half.0 _ m.true.0.2.named)) refl

  differ : write.way.node.0 ≢ half.0
  differ = let (C, log, m) = may in λ e. unknown_known m.w half.0 write.way.node.0 m.true.0.2.unknown m.true.0.0.known e

  pub left_named : (between : ArenaView) → between ≡ without_node a half.0 → IsSomeAnd (border_at between.nodes write.way.node.0) (λ b. (b.version.locked ≡ true) × (b.unwritten ≡ Nothing))
  left_named between is =
      let (C, log, m) = may in
      let k = m.true.0.0 in
      let updates : Updates a.nodes (without_node a half.0).nodes half.0 None = updates-without a.nodes half.0 half_named in
      let named : border_at between.nodes write.way.node.0 ≡ Some k.b = ap (λ (x : ArenaView). border_at x.nodes write.way.node.0) is ∙ (ap (option_and_then border_of) (updates.others write.way.node.0 differ) ∙ k.named) in
      subst (λ (o : Option BorderView). IsSomeAnd o (λ b. (b.version.locked ≡ true) × (b.unwritten ≡ Nothing))) (sym named) (k.locked, k.written)

  returns_law : (C : ℕ) (log : LogView) (between after : ArenaView) → between ≡ without_node a half.0 → KeepsUnknown a between half.0 → after ≡ with_border_changed between write.way.node.0 with_unlocked → KeepsTree between after
      → StepLaw C a after log log (edit_request write.key write.edit) (stage_held write.way.node.0 (GivesBack half)) (Refused NoMemory) (write_held write) (λ begun moves past x w. StageIsTrue C write.key write.edit write.way (GivesBack half) begun x w) (WriteIsTrue C write)
  returns_law C log between after is back unlocked keeps = record {
    steps = λ now begun moves past w world before truth.
        let (k, spare, s) = truth in
        let n : ℕ = write.way.node.0 in
        let without : Updates a.nodes (without_node a half.0).nodes half.0 None = updates-without a.nodes half.0 half_named in
        let updates : Updates a.nodes between.nodes half.0 None = subst (λ (x : ArenaView). Updates a.nodes x.nodes half.0 None) (sym is) without in
        let retired : between.retired ≡ a.retired = ap (λ (x : ArenaView). x.retired) is in
        let there : IsLockedBorder between w n = record { b = k.b; named = ap (option_and_then border_of) (updates.others n differ) ∙ k.named; known = k.known; locked = k.locked; alive = k.alive; written = k.written; free = k.free } in
        let kept = back.keeps now w.twins w.chart world.index s.unknown in
        let goes = goes_then now a between after w (half.0 ∷ n ∷ []) (n ∷ []) [] (λ next. Unit {0})
        (goes_returned now a between w half.0 (n ∷ []) (λ next. next ≡ w) updates retired back s.unknown s.free world refl)
        (λ number known. updates.others number (λ e. unknown_known w half.0 number s.unknown known e))
        (λ number i. inl (later i))
        (λ mid. (ends C between log write.key write.edit write.way (λ next. Unit {0}) now w after unlocked keeps mid there tt).0) in
        let content = content_twice a between after kept.content (keeps.keeps now w.twins w.chart kept.index).content in
        record { goes = goes; does = (record { content = content; trimmed = refl; deltas = refl; rows = refl }, refl, tt, tells_version C a log write.key write.edit write.way w now world write.edit NoMemory tt); reserved = refl; bounds = refl; blocked = refl; may = tt };
  }

  pub gives_back : (between after : ArenaView) → between ≡ without_node a half.0 → KeepsUnknown a between half.0 → after ≡ with_border_changed between write.way.node.0 with_unlocked → KeepsTree between after → TreeStep a after write (GivesBack half) (Refused NoMemory) write
  gives_back between after is back unlocked keeps = λ C log.
      closes C a after log log write (GivesBack half) (Refused NoMemory) (returns_law C log between after is back unlocked keeps) tt refl refl refl tt tt

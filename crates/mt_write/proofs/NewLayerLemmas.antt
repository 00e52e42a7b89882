-- The steps of a new layer in a put: its head and root are spared, the root is filled, the head is unlocked, the link is made, and the put
-- continues there.
use Rattle.std.proofs.Common.{ℕ, zero, suc, ◌≡◌, ◌≢◌, ◌≤◌, ◌<◌, ◌+◌, List, [], ◌∷◌, length, drop, replicate, slice_index_or, Option, Some, None, IsSome, Bool, true, false, unwrap_or, refl, sym, ap, subst, ◌∙◌, arith, add-one, inl, inr}
use Rattle.std.specs.Prelude.{IsSomeAnd}
use Rattle.std.proofs.lemmas.List.Elements.{All-drop, All-replicate}
use Rattle.mt_border.specs.Table.{blank_slot, number_at}
use Rattle.mt_border.proofs.SlotLemmas.{new_entries_seen}
use Rattle.mt_border.specs.declared.slot_table.Slot.{Slot}
use Rattle.std.specs.Option.{option_and_then}
use Rattle.mt_types.specs.declared.numbers.NodeNo.{NodeNo}
use Rattle.mt_slice.specs.Place.{slice_number, slices_above, rest_at}
use Rattle.mt_slice.specs.Classes.{class_of}
use Rattle.mt_commit.specs.Log.{LogView}
use Rattle.mt_border.specs.Border.{BorderView, with_entries, with_unlocked, with_unstable, with_link_at, with_written, suffix_at, new_border}
use Rattle.mt_border.specs.Entry.{IsEntry, entry_of_row}
use Rattle.mt_border.specs.Order.{IsBorder}
use Rattle.mt_border.specs.declared.entry.Content.TheVariants.{Long}
use Rattle.mt_border.specs.declared.entry.Entry.{Entry}
use Rattle.mt_interior.specs.Head.{HeadView, new_head, with_lock as with_head_lock}
use Rattle.mt_arena.specs.Node.{head_at, head_of, border_at, border_of, Updates}
use Rattle.mt_arena.specs.Arena.{ArenaView, with_border_changed, with_head_changed}
use Rattle.mt_arena.specs.declared.node.Node.{Node}
use Rattle.mt_arena.specs.declared.node.Node.TheVariants.{Head}
use Rattle.mt_arena.proofs.NodeLemmas.{updates-with_node, node-from_head}
use Rattle.mt_chart.specs.Tree.{first, later}
use Rattle.mt_chart.specs.Chart.{spot, Spot, at_level, top, on, gone, Holds}
use Rattle.mt_tree.specs.Spares.{MayFill}
use Rattle.mt_tree.specs.Keeping.{KeepsTree, KeepsUnknown}
use Rattle.mt_tree.specs.BorderSteps.{AwaitsSomeMark, HasLayerFor, MakesLayerAt, MayMarkUnstable}
use Rattle.mt_tree.proofs.SeenLemmas.{changed-head}
use Rattle.mt_steps.specs.declared.way.Way.{Way}
use Rattle.mt_steps.specs.declared.progress.Progress.TheVariants.{Moved}
use Rattle.mt_steps.specs.World.{World}
use Rattle.mt_steps.specs.Way.{rest_of, prefix_of, IsHeadOf}
use Rattle.mt_steps.specs.Step.{StepLaw, Stepped}
use Rattle.mt_tree.proofs.AgeLemmas.{ages_link, ages_unstable, ages_written}
use Rattle.mt_border.proofs.BorderLemmas.{suffix_there}
use Rattle.std.proofs.lemmas.Option.{slice_get_within}
use Rattle.mt_steps.proofs.WayLemmas.{layer_below}
use Rattle.mt_steps.proofs.BorderLemmas.{now_named, others_named, locked_may, unlocked_root, no_root as no_border}
use Rattle.mt_steps.proofs.SplitLemmas.{goes_filled}
use Rattle.mt_steps.proofs.LayerLemmas.{goes_spare_changed, goes_layered, head_apart, layered, head_placed, others_placed}
use Rattle.mt_write.specs.declared.writing.Edit.{Edit}
use Rattle.mt_write.specs.declared.writing.Layer.{Layer}
use Rattle.mt_write.specs.declared.writing.Stage.{Stage}
use Rattle.mt_write.specs.declared.writing.Stage.TheVariants.{Seeks, LayerSpared, LayerFilled, LayerReady, LayerMarked, LayerLinked, Layered}
use Rattle.mt_write.specs.Held.{edit_request, stage_held, layer_owned}
use Rattle.mt_write.specs.Writing.{StageIsTrue, HeadedStage, moved_entry, lone_root, way_below}
use Rattle.mt_write.proofs.LinkLemmas.{linked_among}
use Rattle.mt_write.proofs.WorkLemmas.{locked_at_stays}
use Rattle.mt_write.proofs.EntryLemmas.{row_of_content, entry_place_is}
use Rattle.mt_write.proofs.InsertLemmas.{goes_marked, sound_now}
use Rattle.mt_write.proofs.WriteLemmas.{owned_at-changed, quiet_step}
use Rattle.mt_write.proofs.CommitLemmas.{ends}

-- ---- a border of one entry
one_ordered : (entry : Entry) (i j : ℕ) → i < j → j < 1 → ⊥
one_ordered entry i j less within = omega (arith, less, within)

each_one : (P : Entry → Type 0) (entry : Entry) → P entry → (i : ℕ) (d : Entry) → i < 1 → P (slice_index_or (entry ∷ []) i d)
each_one P entry holds zero d within = holds
each_one P entry holds (suc i) d within = absurd (omega (arith, within))

pub lone_sound : (number : ℕ) (entry : Entry) → IsEntry entry → IsBorder (lone_root number entry)
lone_sound number entry whole = record {
  seen = new_entries_seen (entry ∷ []) (omega arith);
  slots = refl;
  low_fits = omega arith;
  ordered = record { pairs = λ i j d less within. absurd (one_ordered entry i j less within) };
  entries = record { each = each_one IsEntry entry whole };
  held_back = record { each = All-drop (λ (slot : Slot). IsEntry slot.entry) 1 (replicate 15 blank_slot) (All-replicate (λ (slot : Slot). IsEntry slot.entry) 15 blank_slot (record { slice_fits = omega arith; content = tt })) };
  from_low = record { each = each_one (λ (e : Entry). 0 ≤ e.slice) entry (omega arith) };
  left_of = tt;
  deleted_empty = λ deleted. cc;
  border = refl;
  flags = λ set. cc;
  unspent = record { inserts = λ set. cc; splits = λ set. cc };
  counters = record { vinsert_fits = omega arith; vsplit_fits = omega arith };
  pending = tt;
}

-- ---- before the steps
pub layer_may_fill : (number : ℕ) (entry : Entry) → IsEntry entry → MayFill (new_border number 0 false) (entry ∷ []) None
layer_may_fill number entry whole = record { empty = refl; fresh = refl; sound = lone_sound number entry whole }

-- ---- the steps
module _ (C : ℕ) (a : ArenaView) (log : LogView) (key : List ℕ) (edit : Edit) (way : Way) (layer : Layer) where
  abbrev n : ℕ
  n = way.node.0

  abbrev LayerLaw : ArenaView → Stage → Stage → Type 0
  LayerLaw after old new = StepLaw C a after log log (edit_request key edit) (stage_held n old) Moved (stage_held n new) (λ begun moves past x w. StageIsTrue C key edit way old begun x w) (λ begun moves past x w. StageIsTrue C key edit way new begun x w)

  -- a border of the tree is no spare
  apart_spare : (b : BorderView) (w : World) (number : ℕ) {posted : Bool} → w.chart n ≡ Some (spot (at_level 0) (prefix_of key way) b.low (on posted)) → w.chart number ≡ None → n ≢ number
  apart_spare b w number {posted} place unknown e = (let clash : ◌≡◌ {A = Option Spot} None (Some (spot (at_level 0) (prefix_of key way) b.low (on posted))) = sym unknown ∙ (ap w.chart (sym e) ∙ place) in cc)

  -- the root is filled
  pub fills_root : (entries : List Entry) (after : ArenaView) → after ≡ with_border_changed a layer.root.0 (λ b. with_entries b entries None) → KeepsUnknown a after layer.root.0 → LayerLaw after (LayerSpared layer entries) (LayerFilled layer)
  fills_root entries after is keeps = record {
    steps = λ now begun moves past w world before truth.
        let (b, at, f) = truth in
        let entry : Entry = moved_entry key way b layer.place f.at in
        let old : BorderView = new_border f.number 0 false in
        let change : BorderView → BorderView = λ x. with_entries x entries None in
        let new : ArenaView = with_border_changed a layer.root.0 change in
        let made : change old ≡ lone_root f.number entry = ap (λ (es : List Entry). with_entries old es None) f.moved in
        let two : layer.root.0 ≢ layer.head.0 = head_apart a layer.head.0 layer.root.0 _ old f.has.head f.has.is_root in
        let keeps_new : KeepsUnknown a new layer.root.0 = subst (λ (x : ArenaView). KeepsUnknown a x layer.root.0) is keeps in
        subst (λ (x : ArenaView). Stepped C now moves past a x log log w (edit_request key edit) (stage_held n (LayerSpared layer entries)) Moved (stage_held n (LayerFilled layer)) (λ m next. StageIsTrue C key edit way (LayerFilled layer) begun x next)) (sym is) (quiet_step key edit
        (goes_filled now a w layer.root.0 old change (layer_owned n layer) _ f.has.is_root keeps_new (later first) f.has.root_unknown (λ i. absurd (unlocked_root a w.closing w.chart layer.root.0 old f.has.is_root refl world.heads i)) world (
          b,
          locked_at_stays a new w w key way b (record { node = others_named a layer.root.0 old change f.has.is_root n (apart_spare b w layer.root.0 at.stands.stands.place f.has.root_unknown); spot = refl; twins = λ one other here. ((λ h. h), (λ h. h)); closing = λ i. i; retired = ((λ h. h), (λ h. h)) }) at,
          record {
            number = f.number;
            at = f.at;
            has = record {
              head = ap (option_and_then head_of) (others_named a layer.root.0 old change f.has.is_root layer.head.0 (λ e. two (sym e))) ∙ f.has.head;
              is_root = now_named a layer.root.0 old change f.has.is_root ∙ ap Some made;
              head_unknown = f.has.head_unknown;
              root_unknown = f.has.root_unknown;
            };
          },
        ))
        ((keeps_new.keeps now w.twins w.chart world.index f.has.root_unknown).content) refl refl (inl refl));
  }

  -- the head is unlocked
  head_updates : (h : HeadView) (change : HeadView → HeadView) → head_at a.nodes layer.head.0 ≡ Some h → Updates a.nodes (with_head_changed a layer.head.0 change).nodes layer.head.0 (Some (Head (change h)))
  head_updates h change is = subst (λ (x : ArenaView). Updates a.nodes x.nodes layer.head.0 (Some (Head (change h)))) (sym (changed-head a layer.head.0 h change is))
      (updates-with_node a.nodes layer.head.0 (Head (change h)) (subst (λ (x : Option Node). IsSome x) (sym (node-from_head a.nodes layer.head.0 h is)) refl))

  pub unlocks_head : (after : ArenaView) → after ≡ with_head_changed a layer.head.0 (λ head. with_head_lock head false) → KeepsTree a after → LayerLaw after (LayerFilled layer) (LayerReady layer)
  unlocks_head after is keeps = record {
    steps = λ now begun moves past w world before truth.
        let (b, at, f) = truth in
        let unlock : HeadView → HeadView = λ head. with_head_lock head false in
        let new : ArenaView = with_head_changed a layer.head.0 unlock in
        let updates = head_updates (new_head layer.root 0 true) unlock f.has.head in
        let root : BorderView = lone_root f.number (moved_entry key way b layer.place f.at) in
        let two : layer.root.0 ≢ layer.head.0 = head_apart a layer.head.0 layer.root.0 _ root f.has.head f.has.is_root in
        let keeps_new : KeepsTree a new = subst (λ (x : ArenaView). KeepsTree a x) is keeps in
        subst (λ (x : ArenaView). Stepped C now moves past a x log log w (edit_request key edit) (stage_held n (LayerFilled layer)) Moved (stage_held n (LayerReady layer)) (λ m next. StageIsTrue C key edit way (LayerReady layer) begun x next)) (sym is) (quiet_step key edit
        (goes_spare_changed now a new w layer.head.0 (Head (new_head layer.root 0 false)) (layer_owned n layer) _ updates refl keeps_new f.has.head_unknown (no_border a w.closing w.chart layer.head.0 (ap (option_and_then border_of) (node-from_head a.nodes layer.head.0 _ f.has.head)) world.heads) first world (
          b,
          locked_at_stays a new w w key way b (record { node = updates.others n (apart_spare b w layer.head.0 at.stands.stands.place f.has.head_unknown); spot = refl; twins = λ one other here. ((λ h. h), (λ h. h)); closing = λ i. i; retired = ((λ h. h), (λ h. h)) }) at,
          record {
            number = f.number;
            at = f.at;
            has = record {
              head = ap (option_and_then head_of) updates.changed;
              is_root = ap (option_and_then border_of) (updates.others layer.root.0 two) ∙ f.has.is_root;
              head_unknown = f.has.head_unknown;
              root_unknown = f.has.root_unknown;
            };
          },
        ))
        ((keeps_new.keeps now w.twins w.chart world.index).content) refl refl (inl refl));
  }

  -- the other key is marked unstable
  pub marks_unstable : (after : ArenaView) → after ≡ with_border_changed a n (λ b. with_unstable b layer.place) → KeepsTree a after → IsSomeAnd (border_at after.nodes n) IsBorder → LayerLaw after (LayerReady layer) (LayerMarked layer)
  marks_unstable after is keeps sound = record {
    steps = λ now begun moves past w world before truth.
        let (b, at, f) = truth in
        let change : BorderView → BorderView = λ x. with_unstable x layer.place in
        let new : ArenaView = with_border_changed a n change in
        let no_head : n ≢ layer.head.0 = apart_spare b w layer.head.0 at.stands.stands.place f.has.head_unknown in
        let no_root : n ≢ layer.root.0 = apart_spare b w layer.root.0 at.stands.stands.place f.has.root_unknown in
        let (goes, content) = goes_marked a n change after is keeps (layer_owned n layer) (λ next. StageIsTrue C key edit way (LayerMarked layer) begun after next) now w b at.named world (ages_unstable b layer.place at.written) refl at.locked at.alive at.free (later (later first))
        (subst (λ (x : ArenaView). StageIsTrue C key edit way (LayerMarked layer) begun x w) (sym is) (
          change b,
          owned_at-changed a key way b w change at.named at.layer at.stands at.last refl refl refl at.alive at.locked at.free,
          record {
            number = f.number;
            at = record { sound = sound_now a after n b change at.named is sound; other = f.at.other };
            has = record {
              head = ap (option_and_then head_of) (others_named a n b change at.named layer.head.0 (λ e. no_head (sym e))) ∙ f.has.head;
              is_root = ap (option_and_then border_of) (others_named a n b change at.named layer.root.0 (λ e. no_root (sym e))) ∙ f.has.is_root;
              head_unknown = f.has.head_unknown;
              root_unknown = f.has.root_unknown;
            };
          },
          refl,
        )) in
        quiet_step key edit goes content refl refl (inl refl);
  }

  -- the link is made
  pub links_layer : (after : ArenaView) → after ≡ with_border_changed a n (λ b. with_link_at b layer.place layer.head) → MakesLayerAt a after n layer.place layer.head.0 → LayerLaw after (LayerMarked layer) (LayerLinked layer.head)
  links_layer after is makes = record {
    steps = λ now begun moves past w world before truth.
        let (b, at, f, unstable) = truth in
        let link : BorderView → BorderView = λ x. with_link_at x layer.place layer.head in
        let new : ArenaView = with_border_changed a n link in
        let entry : Entry = record { slice = slice_number (rest_of key way); content = Long f.at.other.suffix f.at.other.row } in
        let root : BorderView = lone_root f.number (moved_entry key way b layer.place f.at) in
        let below : List ℕ = slice_number (rest_of key way) ∷ prefix_of key way in
        let next : World = layered w layer.head.0 layer.root.0 below in
        let no_head : n ≢ layer.head.0 = apart_spare b w layer.head.0 at.stands.stands.place f.has.head_unknown in
        let no_root : n ≢ layer.root.0 = apart_spare b w layer.root.0 at.stands.stands.place f.has.root_unknown in
        let may = locked_may a n b link at.named now w world at.locked at.free (inr at.alive) in
        let aged = ages_link b f.at.sound layer.place (slice_get_within b.live layer.place entry f.at.other.stands) layer.head (suffix_there layer.place b.live entry f.at.other.stands refl) unstable in
        let placed = head_placed now a w n layer.head.0 layer.root b root (prefix_of key way) layer.place entry link at.named f.at.other.stands f.has.head f.has.is_root refl refl no_head no_root f.has.head_unknown f.has.root_unknown aged world may in
        let kept = others_placed now a w n layer.head.0 layer.root b root (prefix_of key way) layer.place entry link at.named f.at.other.stands f.has.head f.has.is_root refl refl no_head no_root f.has.head_unknown f.has.root_unknown aged world may n no_head no_root in
        let held : (slice : ℕ) → Holds next.chart begun layer.head.0 below slice = λ slice. record { role = top; low = 0; standing = on true; place = placed; at_most = omega arith; since = λ epoch gone_is. absurd (let clash : on true ≡ gone epoch = gone_is in cc) } in
        let (goes, content) = goes_layered now a w n layer.head.0 layer.root b root (prefix_of key way) layer.place entry link at.named f.at.other.stands f.has.head f.has.is_root refl refl no_head no_root f.has.head_unknown f.has.root_unknown aged world may
        (subst (λ (x : ArenaView). MakesLayerAt a x n layer.place layer.head.0) is makes) (record { low = b.low; posted = at.stands.stands.posted; place = at.stands.stands.place }) (λ next. StageIsTrue C key edit way (LayerLinked layer.head) begun new next) (
          record {
            b = link b;
            named = now_named a n b link at.named;
            locked = at.locked;
            alive = at.alive;
            free = at.free;
            unmarked = (number_at layer.place b.order, unwrap_or (suffix_at layer.place b.live) [], refl);
            stands = record { low = b.low; posted = at.stands.stands.posted; place = kept ∙ at.stands.stands.place };
            slice = slice_number (rest_of key way);
            linked = linked_among b.live layer.place entry layer.head f.at.other.stands;
          },
          record {
            layer = layer_below key way layer.head f.at.other.goes_on at.layer;
            held = subst (λ (m : ℕ). Holds next.chart begun layer.head.0 (slices_above m key) (slice_number (rest_at (way.layer + 1) key))) (sym (add-one way.layer)) (held (slice_number (rest_at (way.layer + 1) key)));
          },
          subst (λ (m : ℕ). IsHeadOf next begun layer.head.0 (slices_above m key)) (sym (add-one way.layer)) (record { standing = on true; place = placed; since = λ epoch gone_is. absurd (let clash : on true ≡ gone epoch = gone_is in cc) }),
        ) in
        subst (λ (x : ArenaView). Stepped C now moves past a x log log w (edit_request key edit) (stage_held n (LayerMarked layer)) Moved (stage_held n (LayerLinked layer.head)) (λ m next. StageIsTrue C key edit way (LayerLinked layer.head) begun x next)) (sym is) (quiet_step key edit
        goes
        content refl refl (inl refl));
  }

-- its key is marked as a layer's
pub marks_layer : (C : ℕ) (a : ArenaView) (log : LogView) (key : List ℕ) (edit : Edit) (way : Way) (head : NodeNo) (after : ArenaView) → after ≡ with_border_changed a way.node.0 with_written → KeepsTree a after
    → StepLaw C a after log log (edit_request key edit) (stage_held way.node.0 (LayerLinked head)) Moved (stage_held way.node.0 (Layered head)) (λ begun moves past x w. StageIsTrue C key edit way (LayerLinked head) begun x w) (λ begun moves past x w. StageIsTrue C key edit way (Layered head) begun x w)
marks_layer C a log key edit way head after is keeps = record {
  steps = λ now begun moves past w world before truth.
      let (m, on_way, head_of_layer) = truth in
      let here = now_named a way.node.0 m.b with_written m.named in
      let (goes, content) = goes_marked a way.node.0 with_written after is keeps (way.node.0 ∷ []) (λ next. StageIsTrue C key edit way (Layered head) begun after next) now w m.b m.named world (ages_written m.b) refl m.locked m.alive m.free first
      (subst (λ (x : ArenaView). StageIsTrue C key edit way (Layered head) begun x w) (sym is) (
        record {
          border = record { b = with_written m.b; named = here; known = subst (λ (x : Option Spot). IsSome x) (sym m.stands.place) refl; locked = m.locked; alive = m.alive; written = refl; free = m.free };
          stands = m.stands;
          slice = m.slice;
          linked = m.linked;
        },
        on_way,
        head_of_layer,
      )) in
      quiet_step key edit goes content refl refl (inl refl);
}

-- the border is unlocked, and the call continues in the layer, whose head it knows
pub goes_below : (C : ℕ) (a : ArenaView) (log : LogView) (key : List ℕ) (edit : Edit) (way : Way) (old_head head : NodeNo) (after : ArenaView) → after ≡ with_border_changed a way.node.0 with_unlocked → KeepsTree a after
    → StepLaw C a after log log (edit_request key edit) (stage_held way.node.0 (Layered head)) Moved (stage_held head.0 Seeks) (λ begun moves past x w. HeadedStage C key edit way old_head (Layered head) begun x w) (λ begun moves past x w. HeadedStage C key edit (way_below way head) head Seeks begun x w)
goes_below C a log key edit way old_head head after is keeps = record {
  steps = λ now begun moves past w world before truth.
      let (goes, quiet) = ends C a log key edit way (λ next. HeadedStage C key edit (way_below way head) head Seeks begun after next) now w after is keeps world truth.0.0.border (truth.0.1, truth.0.2) in
      quiet_step key edit goes quiet.content refl refl (inl refl);
}

-- ---- what the calls of a step ask for
module _ (C begun : ℕ) (a : ArenaView) (w : World) (key : List ℕ) (edit : Edit) (way : Way) (layer : Layer) where
  pub spared_root : (entries : List Entry) → StageIsTrue C key edit way (LayerSpared layer entries) begun a w → IsSomeAnd (border_at a.nodes layer.root.0) (λ b. MayFill b entries None)
  spared_root entries truth =
      let (b, at, f) = truth in
      subst (λ (o : Option BorderView). IsSomeAnd o (λ x. MayFill x entries None)) (sym f.has.is_root)
      (subst (λ (es : List Entry). MayFill (new_border f.number 0 false) es None) (sym f.moved) (layer_may_fill f.number (moved_entry key way b layer.place f.at) f.whole))

  pub filled_head : StageIsTrue C key edit way (LayerFilled layer) begun a w → IsSomeAnd (head_at a.nodes layer.head.0) (λ head. head.version.locked ≡ true)
  filled_head truth = let (b, at, f) = truth in subst (λ (o : Option HeadView). IsSomeAnd o (λ head. head.version.locked ≡ true)) (sym f.has.head) refl

  pub ready_mark : StageIsTrue C key edit way (LayerReady layer) begun a w → IsSomeAnd (border_at a.nodes way.node.0) (λ b. MayMarkUnstable b layer.place)
  ready_mark truth =
      let (b, at, f) = truth in
      let entry : Entry = record { slice = slice_number (rest_of key way); content = Long f.at.other.suffix f.at.other.row } in
      subst (λ (o : Option BorderView). IsSomeAnd o (λ x. MayMarkUnstable x layer.place)) (sym at.named) (record {
        within = slice_get_within b.live layer.place entry f.at.other.stands;
        long = suffix_there layer.place b.live entry f.at.other.stands refl;
        locked = at.locked;
        written = at.written;
      })

  pub ready_link : StageIsTrue C key edit way (LayerMarked layer) begun a w → IsSomeAnd (border_at a.nodes way.node.0) (λ b. HasLayerFor a.nodes b layer.place layer.head.0)
  ready_link truth =
      let (b, at, f, unstable) = truth in
      let suffix = f.at.other.suffix in
      let row = f.at.other.row in
      subst (λ (o : Option BorderView). IsSomeAnd o (λ x. HasLayerFor a.nodes x layer.place layer.head.0)) (sym at.named) (record {
        slice = slice_number (rest_of key way);
        suffix = suffix;
        row = row;
        layer_head = new_head layer.root 0 false;
        layer_root = lone_root f.number (entry_of_row suffix row);
        entry = entry_of_row suffix row;
        long = f.at.other.stands;
        unstable = unstable;
        is_head = f.has.head;
        level = refl;
        is_root = f.has.is_root;
        alive = refl;
        low = refl;
        right = refl;
        alone = refl;
        same_row = row_of_content (class_of (length suffix)) (drop 8 suffix) row;
        same_place = entry_place_is suffix row;
      })

pub linked_mark : (C begun : ℕ) (a : ArenaView) (w : World) (key : List ℕ) (edit : Edit) (way : Way) (head : NodeNo) → StageIsTrue C key edit way (LayerLinked head) begun a w → IsSomeAnd (border_at a.nodes way.node.0) AwaitsSomeMark
linked_mark C begun a w key edit way head truth = let (m, on_way, head_of_layer) = truth in subst (λ (o : Option BorderView). IsSomeAnd o AwaitsSomeMark) (sym m.named) m.unmarked

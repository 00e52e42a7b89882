-- The steps that read again a border that was read as empty, once it is locked.
use Rattle.std.proofs.Common.{ℕ, ◌≡◌, inl, inr, List, [], ◌∷◌, length, Option, Some, None, IsSome, refl, sym, ap, subst, ◌∙◌, arith}
use Rattle.std.specs.Prelude.{IsSomeAnd}
use Rattle.mt_types.specs.declared.numbers.NodeNo.{NodeNo}
use Rattle.mt_word.specs.Slots.{Slots}
use Rattle.mt_border.specs.Border.{BorderView}
use Rattle.mt_border.specs.Order.{IsBorder}
use Rattle.mt_border.specs.Slots.{order_in, order_shown}
use Rattle.mt_border.specs.declared.entry.Entry.{Entry}
use Rattle.mt_border.specs.declared.entry.RightLink.{RightLink}
use Rattle.mt_border.specs.declared.unwritten.Unwritten.{Unwritten}
use Rattle.mt_border.proofs.SlotLemmas.{live_count}
use Rattle.mt_arena.specs.Node.{border_at}
use Rattle.mt_arena.specs.Arena.{ArenaView}
use Rattle.mt_steps.specs.declared.reader.Glance.{Glance}
use Rattle.mt_steps.specs.declared.progress.Progress.TheVariants.{Moved}
use Rattle.mt_steps.specs.Way.{prefix_of}
use Rattle.mt_steps.specs.World.{World, IsLockedBorder}
use Rattle.mt_steps.proofs.NodeLemmas.{known_some}
use Rattle.mt_remove.specs.declared.sign.Emptied.{Emptied}
use Rattle.mt_remove.specs.declared.sign.Emptied.TheVariants.{Child as ByChild, Root as ByRoot}
use Rattle.mt_remove.specs.declared.stage.Stage.{Stage}
use Rattle.mt_remove.specs.declared.stage.Stage.TheVariants.{LooksAgain, LooksRight, Locked, RootLocked, KeepsBorder}
use Rattle.mt_remove.specs.declared.tidy.Tidy.{Tidy}
use Rattle.mt_remove.specs.Tidy.{MayTidy}
use Rattle.mt_remove.specs.Locked.{IsOwnBorder, IsEmptied, EmptiedIsKnown, RightFits}
use Rattle.mt_remove.specs.Follows.{LooksAt, emptied_stage, TidyStep}
use Rattle.mt_remove.proofs.StageLemmas.{at_stage, true_at, law_same}

-- a border that the call has locked is a locked border
pub own_locked : (a : ArenaView) (w : World) (number : ℕ) (prefix : List ℕ) → IsOwnBorder a w number prefix → IsLockedBorder a w number
own_locked a w number prefix k = record { b = k.b; named = k.named; known = known_some w number _ k.place; locked = k.locked; alive = k.alive; written = k.written; free = k.free }

none_live : (live : List Entry) → length live ≡ 0 → live ≡ []
none_live [] few = refl
none_live (x ∷ xs) few = absurd (omega (arith, few))

-- a border whose order is written and has no slot is empty
pub empty_by : (b : BorderView) → IsBorder b → length b.order.live ≡ 0 → b.live ≡ []
empty_by b sound few = none_live b.live (live_count b.live b.unused b.slots b.order sound.seen ∙ few)

module _ (epoch : ℕ) (a : ArenaView) (tidy : Tidy) (border head : NodeNo) (emptied : Emptied) where
  named_so : (b : BorderView) → border_at a.nodes border.0 ≡ Some b → IsSome (border_at a.nodes border.0)
  named_so b named = subst (λ (o : Option BorderView). IsSome o) (sym named) refl

  -- ---- its order
  module _ (glance : Glance) (is : tidy.stage ≡ LooksAgain border head emptied glance) where
    pub again_there : MayTidy epoch a tidy → IsSome (border_at a.nodes border.0)
    again_there may = let (seen, none) = true_at epoch a tidy (LooksAgain border head emptied glance) is may in named_so seen.own.b seen.own.named

    module _ (order : Slots) (read : IsSomeAnd (border_at a.nodes border.0) (λ b. IsBorder b × (order ≡ order_shown b))) where
      follows : (stage : Stage) → ((b : BorderView) → order ≡ order_shown b → LooksAt tidy border (order_shown b ≡ glance.order) (LooksRight border head emptied glance.right) Moved (record tidy { stage = stage }))
          → IsSomeAnd (border_at a.nodes border.0) (λ b. LooksAt tidy border (order_shown b ≡ glance.order) (LooksRight border head emptied glance.right) Moved (record tidy { stage = stage }))
      follows stage so = go (border_at a.nodes border.0) read
        where
          go : (o : Option BorderView) → IsSomeAnd o (λ b. IsBorder b × (order ≡ order_shown b)) → IsSomeAnd o (λ b. LooksAt tidy border (order_shown b ≡ glance.order) (LooksRight border head emptied glance.right) Moved (record tidy { stage = stage }))
          go None h = absurd h
          go (Some b) h = so b h.1

      -- it is the same: the border is empty
      pub same_order : order ≡ glance.order → TidyStep epoch a a tidy Moved (record tidy { stage = LooksRight border head emptied glance.right })
      same_order same = at_stage epoch a a tidy (LooksAgain border head emptied glance) Moved (record tidy { stage = LooksRight border head emptied glance.right }) is refl refl
          (law_same epoch a tidy (LooksAgain border head emptied glance) Moved (record tidy { stage = LooksRight border head emptied glance.right }) refl (λ begun w world truth.
          let (seen, none) = truth in
          let (sound, order_is) = subst (λ (o : Option BorderView). IsSomeAnd o (λ b. IsBorder b × (order ≡ order_shown b))) seen.own.named read in
          let written : order_shown seen.own.b ≡ seen.own.b.order = ap (λ (u : Unwritten). order_in u seen.own.b.order) seen.own.written in
          let few : length seen.own.b.order.live ≡ 0 = ap (λ (s : Slots). length s.live) (sym written ∙ (sym order_is ∙ same)) ∙ none in
          (seen, empty_by seen.own.b sound few))) tt tt
          (follows (LooksRight border head emptied glance.right) (λ b shown. inl (sym shown ∙ same, (refl, refl))))

      -- it is another
      pub other_order : (order ≡ glance.order → ⊥) → TidyStep epoch a a tidy Moved (record tidy { stage = KeepsBorder border })
      other_order differ = at_stage epoch a a tidy (LooksAgain border head emptied glance) Moved (record tidy { stage = KeepsBorder border }) is refl refl
          (law_same epoch a tidy (LooksAgain border head emptied glance) Moved (record tidy { stage = KeepsBorder border }) refl (λ begun w world truth. own_locked a w border.0 (prefix_of tidy.key tidy.way) truth.0.own)) tt tt
          (follows (KeepsBorder border) (λ b shown. inr ((λ same. differ (shown ∙ same)), (refl, refl))))

  -- ---- its right link
  module _ (noted : Option RightLink) (is : tidy.stage ≡ LooksRight border head emptied noted) where
    pub right_there : MayTidy epoch a tidy → IsSome (border_at a.nodes border.0)
    right_there may = let (seen, none) = true_at epoch a tidy (LooksRight border head emptied noted) is may in named_so seen.own.b seen.own.named

    module _ (right : Option RightLink) (read : IsSomeAnd (border_at a.nodes border.0) (λ b. right ≡ b.right)) where
      follows_right : (stage : Stage) → ((b : BorderView) → right ≡ b.right → LooksAt tidy border (b.right ≡ noted) (emptied_stage border head emptied) Moved (record tidy { stage = stage }))
          → IsSomeAnd (border_at a.nodes border.0) (λ b. LooksAt tidy border (b.right ≡ noted) (emptied_stage border head emptied) Moved (record tidy { stage = stage }))
      follows_right stage so = go (border_at a.nodes border.0) read
        where
          go : (o : Option BorderView) → IsSomeAnd o (λ b. right ≡ b.right) → IsSomeAnd o (λ b. LooksAt tidy border (b.right ≡ noted) (emptied_stage border head emptied) Moved (record tidy { stage = stage }))
          go None h = absurd h
          go (Some b) h = so b h

      right_now : (begun : ℕ) (w : World) (seen : IsEmptied begun tidy.key tidy.way border.0 head.0 emptied noted a w) → right ≡ noted → seen.own.b.right ≡ noted
      right_now begun w seen same = sym (subst (λ (o : Option BorderView). IsSomeAnd o (λ b. right ≡ b.right)) seen.own.named read) ∙ same

      -- it is the same: an interior is to drop the border
      pub same_child : (parent : NodeNo) → emptied ≡ ByChild parent → right ≡ noted → TidyStep epoch a a tidy Moved (record tidy { stage = Locked border head parent })
      same_child parent e_is same = at_stage epoch a a tidy (LooksRight border head emptied noted) Moved (record tidy { stage = Locked border head parent }) is refl refl
          (law_same epoch a tidy (LooksRight border head emptied noted) Moved (record tidy { stage = Locked border head parent }) refl (λ begun w world truth.
          let (seen, none) = truth in
          let (low, known) = subst (λ (e : Emptied). EmptiedIsKnown begun tidy.key tidy.way seen.own.b.low e w) e_is seen.known in
          let o = seen.own in
          ((o.posted, record { b = o.b; named = o.named; locked = o.locked; written = o.written; empty = none; later = low; place = o.place; free = o.free }, o.alive), seen.headed, known))) tt tt
          (follows_right (Locked border head parent) (λ b shown. inl (sym shown ∙ same, (refl, ap (λ (e : Emptied). record tidy { stage = emptied_stage border head e }) (sym e_is)))))

      -- or the border above is to hide the link to the layer
      pub same_root : (above : NodeNo) → emptied ≡ ByRoot above → right ≡ noted → TidyStep epoch a a tidy Moved (record tidy { stage = RootLocked (record { above = above; head = head; root = border }) })
      same_root above e_is same = at_stage epoch a a tidy (LooksRight border head emptied noted) Moved (record tidy { stage = RootLocked (record { above = above; head = head; root = border }) }) is refl refl
          (law_same epoch a tidy (LooksRight border head emptied noted) Moved (record tidy { stage = RootLocked (record { above = above; head = head; root = border }) }) refl (λ begun w world truth.
          let (seen, none) = truth in
          let (within, known) = subst (λ (e : Emptied). EmptiedIsKnown begun tidy.key tidy.way seen.own.b.low e w) e_is seen.known in
          let no_right = subst (λ (e : Emptied). RightFits e noted) e_is seen.right in
          let o = seen.own in
          record {
            border = record { b = o.b; named = o.named; known = known_some w border.0 _ o.place; locked = o.locked; written = o.written; empty = none; right = right_now begun w seen same ∙ no_right };
            alive = o.alive;
            free = o.free;
            headed = seen.headed;
            within = within;
            known = known;
          })) tt tt
          (follows_right (RootLocked (record { above = above; head = head; root = border })) (λ b shown. inl (sym shown ∙ same, (refl, ap (λ (e : Emptied). record tidy { stage = emptied_stage border head e }) (sym e_is)))))

      -- it is another
      pub other_right : (right ≡ noted → ⊥) → TidyStep epoch a a tidy Moved (record tidy { stage = KeepsBorder border })
      other_right differ = at_stage epoch a a tidy (LooksRight border head emptied noted) Moved (record tidy { stage = KeepsBorder border }) is refl refl
          (law_same epoch a tidy (LooksRight border head emptied noted) Moved (record tidy { stage = KeepsBorder border }) refl (λ begun w world truth. own_locked a w border.0 (prefix_of tidy.key tidy.way) truth.0.own)) tt tt
          (follows_right (KeepsBorder border) (λ b shown. inr ((λ same. differ (shown ∙ same)), (refl, refl))))

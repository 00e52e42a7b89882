-- The step of a tidy at its place.
use Rattle.std.proofs.Common.{ℕ, ◌≡◌, ◌⊎◌, inl, inr, [], ◌∷◌, length, Option, Some, true, false, refl, sym, ap, subst, ◌∙◌}
use Rattle.std.specs.Prelude.{IsSomeAnd}
use Rattle.mt_types.specs.declared.numbers.NodeNo.{NodeNo}
use Rattle.mt_types.specs.declared.event.Answer.TheVariants.{Tidied}
use Rattle.mt_types.specs.declared.event.TidyRule.TheVariants.{Nothing as NoRule}
use Rattle.mt_border.specs.Border.{BorderView, with_locked}
use Rattle.mt_border.specs.Order.{IsBorder}
use Rattle.mt_border.proofs.BorderLemmas.{unlocked_written}
use Rattle.mt_arena.specs.Node.{border_at}
use Rattle.mt_arena.specs.Arena.{ArenaView, with_border_changed}
use Rattle.mt_chart.specs.Tree.{first}
use Rattle.mt_chart.specs.Chart.{on as standing_on, at_level, spot}
use Rattle.mt_chart.specs.Steps.{SameContent}
use Rattle.mt_tree.specs.Seen.{arena_seen}
use Rattle.mt_tree.specs.Keeping.{KeepsTree}
use Rattle.mt_tree.proofs.AgeLemmas.{ages_locked}
use Rattle.mt_steps.specs.declared.reader.Glance.{Glance}
use Rattle.mt_steps.specs.declared.progress.Progress.{Progress}
use Rattle.mt_steps.specs.declared.progress.Progress.TheVariants.{Moved, Answered}
use Rattle.mt_steps.specs.World.{World, Goes}
use Rattle.mt_steps.specs.Way.{prefix_of}
use Rattle.mt_steps.proofs.FrameLemmas.{goes_same}
use Rattle.mt_steps.proofs.BorderLemmas.{alive_changed, now_named, goes_border, keys_same, unlocked_free, unlocked_root, on_kept, among_one}
use Rattle.mt_steps.proofs.NodeLemmas.{known_some}
use Rattle.mt_remove.specs.declared.noted.Came.{Came}
use Rattle.mt_remove.specs.declared.noted.OneChild.{OneChild}
use Rattle.mt_remove.specs.declared.noted.Noted.{Noted}
use Rattle.mt_remove.specs.declared.sign.Sign.{Sign}
use Rattle.mt_remove.specs.declared.sign.Sign.TheVariants.{Nothing, Empty, LoneChild}
use Rattle.mt_remove.specs.declared.sign.Emptied.{Emptied}
use Rattle.mt_remove.specs.declared.sign.Emptied.TheVariants.{Child as ByChild, Root as ByRoot}
use Rattle.mt_remove.specs.declared.tidy.Tidy.{Tidy}
use Rattle.mt_remove.specs.declared.stage.Stage.TheVariants.{LooksAgain, Lonely}
use Rattle.mt_remove.specs.Noted.{sign_of}
use Rattle.mt_remove.specs.Tidy.{StageIsTrue, IsAtItsPlace}
use Rattle.mt_remove.specs.Locked.{EmptiedIsKnown, RightFits}
use Rattle.mt_remove.specs.Known.{CameIsKnown, IfLone, IfAbove}
use Rattle.mt_remove.specs.Follows.{BeginsAt, BeginsBy, PlaceStep}
use Rattle.mt_remove.proofs.SignLemmas.{SignTells, sign_tells}
use Rattle.mt_remove.proofs.StageLemmas.{same_content}

module _ (epoch : ℕ) (a : ArenaView) (tidy : Tidy) (noted : Noted) (b : BorderView) (named : border_at a.nodes tidy.way.node.0 ≡ Some b) where
  abbrev n : ℕ
  n = tidy.way.node.0

  begins_so : (p : Progress) (new : Tidy) → BeginsAt tidy noted b p new → IsSomeAnd (border_at a.nodes n) (λ x. BeginsAt tidy noted x p new)
  begins_so p new so = subst (λ (o : Option BorderView). IsSomeAnd o (λ x. BeginsAt tidy noted x p new)) (sym named) so

  -- it ends there with nothing
  pub ends : ((b.version.locked ≡ true) ⊎ ((b.version.locked ≡ false) × (sign_of b.low noted ≡ Nothing))) → PlaceStep epoch a a tidy noted (Answered (Tidied NoRule)) tidy
  ends why = record {
    key = refl;
    steps = λ begun w world before place. (goes_same epoch a w _ [] [] refl world tt, same_content a);
    tidied = tt;
    waits_not = λ e. absurd (cc);
    begins = begins_so (Answered (Tidied NoRule)) tidy (elim why [
      | inl locked ↦ inl (locked, refl)
      | inr nothing ↦ inr (nothing.0, subst (λ (s : Sign). BeginsBy tidy noted s (Answered (Tidied NoRule)) tidy) (sym nothing.1) refl)
    ]);
    retires = refl;
  }

  told : (sign : Sign) → sign_of b.low noted ≡ sign → SignTells b.low noted.came noted.above noted.lone sign
  told sign is = subst (λ (s : Sign). SignTells b.low noted.came noted.above noted.lone s) is (sign_tells b.low noted)

  -- an interior with one child was noted
  pub begins_lone : (lone : OneChild) → b.version.locked ≡ false → sign_of b.low noted ≡ LoneChild lone → PlaceStep epoch a a tidy noted Moved (record tidy { stage = Lonely lone })
  begins_lone lone unlocked sign = record {
    key = refl;
    steps = λ begun w world before place. (
      goes_same epoch a w _ [] [] refl world (subst (λ (o : Option OneChild). IfLone begun (prefix_of tidy.key tidy.way) w o) (told (LoneChild lone) sign) place.noted.lone),
      same_content a,
    );
    tidied = tt;
    waits_not = λ e. absurd (cc);
    begins = begins_so Moved (record tidy { stage = Lonely lone }) (inr (unlocked, subst (λ (s : Sign). BeginsBy tidy noted s Moved (record tidy { stage = Lonely lone })) (sym sign) (refl, refl)));
    retires = refl;
  }

  abbrev lock : BorderView → BorderView
  lock x = with_locked x

  -- what is known of a border that was empty
  emptied_known : (begun : ℕ) (w : World) (emptied : Emptied) (glance : Glance) → SignTells b.low noted.came noted.above noted.lone (Empty emptied glance) → IsAtItsPlace begun tidy.key tidy.way noted a w
      → EmptiedIsKnown begun tidy.key tidy.way b.low emptied w × RightFits emptied glance.right × (length glance.order.live ≡ 0)
  emptied_known begun w (ByChild parent) glance (came, low, empty) place = ((low, subst (λ (c : Came). CameIsKnown begun (prefix_of tidy.key tidy.way) w c) came place.noted.came), tt, empty)
  emptied_known begun w (ByRoot upper) glance (above, empty, right) place = ((place.layer.within, subst (λ (o : Option NodeNo). IfAbove begun tidy.key tidy.way.layer w o) above place.noted.above), right, empty)

  -- a border that was empty is locked
  pub locks : (emptied : Emptied) (glance : Glance) (after : ArenaView) → IsBorder b → b.version.locked ≡ false → sign_of b.low noted ≡ Empty emptied glance → after ≡ with_border_changed a n lock → KeepsTree a after
      → PlaceStep epoch a after tidy noted Moved (record tidy { stage = LooksAgain tidy.way.node noted.head emptied glance })
  locks emptied glance after sound unlocked sign value keeps = record {
    key = refl;
    steps = λ begun w world before at.
        let new : ArenaView = with_border_changed a n lock in
        let same : at.b ≡ b = (let both : ◌≡◌ {A = Option BorderView} (Some at.b) (Some b) = sym at.named ∙ named in cc) in
        let place : w.chart n ≡ Some (spot (at_level 0) (prefix_of tidy.key tidy.way) b.low (standing_on at.posted)) = at.place ∙ ap (λ (x : BorderView). Some (spot (at_level 0) (prefix_of tidy.key tidy.way) x.low (standing_on at.posted))) same in
        let (known, right, empty) = emptied_known begun w emptied glance (told (Empty emptied glance) sign) at in
        let kept = (subst (λ (x : ArenaView). KeepsTree a x) value keeps).keeps epoch w.twins w.chart world.index in
        let Then : ArenaView → World → Type 0 = λ x next. StageIsTrue begun tidy.key tidy.way tidy.finding (LooksAgain tidy.way.node noted.head emptied glance) x next in
        subst (λ (x : ArenaView). Goes epoch a x w [] (n ∷ []) (Then x) × SameContent (arena_seen a) (arena_seen x)) (sym value) (
          goes_border a n b lock named epoch w [] (n ∷ []) (Then new) world (λ known. (ages_locked b, inr refl)) kept.index (keys_same a new kept.content world.keys)
              (unlocked_free a n b lock named w [] unlocked (known_some w n _ place))
              (λ other i. inr (among_one other n i)) (λ other ne i. elim i [ ]) (λ locked. first) (on_kept a epoch w.chart n _ _ _ _ place world.retired, λ i. refl, alive_changed a n b lock named w.chart (inl refl)) (
                record {
                  own = record { b = lock b; named = now_named a n b lock named; locked = refl; alive = ap (λ (x : BorderView). x.version.deleted) (sym same) ∙ at.alive; written = unlocked_written b sound unlocked; posted = at.posted; place = place; free = unlocked_root a w.closing w.chart n b named unlocked world.heads };
                  known = known;
                  headed = at.noted.head;
                  right = right;
                },
                empty,
              ),
          kept.content,
        );
    tidied = tt;
    waits_not = λ e. absurd (cc);
    begins = begins_so Moved (record tidy { stage = LooksAgain tidy.way.node noted.head emptied glance }) (inr (unlocked, subst (λ (s : Sign). BeginsBy tidy noted s Moved (record tidy { stage = LooksAgain tidy.way.node noted.head emptied glance })) (sym sign) (refl, refl)));
    retires = ap (λ (x : ArenaView). x.retired) value;
  }

-- Each step on a border leads from an index to an index.
use Rattle.std.proofs.Common.{ℕ, ◌≡◌, ◌≢◌, ◌≤◌, ◌⊎◌, ◌↔◌, inl, inr, List, [], ◌∷◌, Option, Some, None, Bool, true, false, refl, sym, ap, ◌∙◌, subst, arith}
use Rattle.mt_slice.specs.Place.{Place}
use Rattle.mt_types.specs.declared.row.Row.{Row}
use Rattle.mt_chart.specs.Tree.{link, PlainEntry, Right, HeadNode, BorderNode, head, border, Arena, Among, Below, Has}
use Rattle.mt_chart.specs.Chart.{Standing, on, gone, Role, top, at_level, Spot, spot, Chart, OnHead, IsLastBorder, IsBorderNode, Apart, class, Owns, by_head, Dated}
use Rattle.mt_chart.specs.Steps.{Twin, AreTwins, IsIndex, MarksBorder, ShowsRow, HidesRow, SetsRow}
use Rattle.mt_chart.specs.StepLaws.{ShowingAddsTheRow, HidingRemovesTheRow, SettingReplacesTheRow, MarkingABorderKeeps, MarkingAGoneBorderKeeps, LinkingAHalfKeeps, MakingALayerKeeps, UnlinkingKeeps, DroppingALayerKeeps}
use Rattle.mt_chart.proofs.Basics.{same_number}
use Rattle.mt_chart.proofs.HeldNodes.{evolves_same}
use Rattle.mt_chart.proofs.ChartChanges.{dated_at}
use Rattle.mt_chart.proofs.Keys.{holds_slice, link_holds_none}
use Rattle.mt_chart.proofs.Owners.{only_owner}
use Rattle.mt_chart.proofs.Naming.{border_none, unknown_none, named_written, named_chain, named_layer, named_no_layer}
use Rattle.mt_chart.proofs.MarkedHeads.{was_head, marked_written, marked_border, marked_layer}
use Rattle.mt_chart.proofs.Refit.{refit, refit_owned, content_same, content_shown, content_hidden, content_set}
use Rattle.mt_chart.proofs.Split.{split_tree, split_owned, split_content, split_evolves}
use Rattle.mt_chart.proofs.NewLayer.{layer_made_tree, layer_made_owned, layer_made_content, layer_made_evolves}
use Rattle.mt_chart.proofs.Unlink.{unlink_tree, unlink_owned, unlink_content, unlink_evolves}
use Rattle.mt_chart.proofs.SpareNumbers.{gone_border_keeps}
use Rattle.mt_chart.proofs.DropLayer.{layer_dropped_tree, layer_dropped_owned, layer_dropped_content, layer_dropped_evolves}

-- a row is shown
module _ (now : ℕ) (twins : List Twin) (arena after : Arena) (chart : Chart) (key : Place) (row : Row) (index : IsIndex now twins arena chart) (step : ShowsRow arena after chart key row) where
  shows_ok : IsBorderNode chart step.prefix step.old
  shows_ok = index.tree.each_border step.number step.prefix step.old step.writes.stands

  shows_inside : (e : PlainEntry) → (e ≡ step.entry) ⊎ Among e step.old.entries → (step.old.low ≤ e.slice) × Below e.slice step.old.right
  shows_inside e (inl q) = (subst (λ (v : PlainEntry). step.old.low ≤ v.slice) (sym q) step.from_low, subst (λ (v : PlainEntry). Below v.slice step.old.right) (sym q) step.to_right)
  shows_inside e (inr i) = (shows_ok.from_low e i, shows_ok.to_right e i)

  shows_apart : Apart step.new.entries
  shows_apart e f i j sl cl = go ((step.entries e).0 i) ((step.entries f).0 j)
    where
      go : (e ≡ step.entry) ⊎ Among e step.old.entries → (f ≡ step.entry) ⊎ Among f step.old.entries → e ≡ f
      go (inl p) (inl q) = p ∙ sym q
      go (inl p) (inr m) = absurd (step.lacked f m (sym sl ∙ ap (λ (v : PlainEntry). v.slice) p) (sym cl ∙ ap (λ (v : PlainEntry). class v.content) p))
      go (inr m) (inl q) = absurd (step.lacked e m (sl ∙ ap (λ (v : PlainEntry). v.slice) q) (cl ∙ ap (λ (v : PlainEntry). class v.content) q))
      go (inr m) (inr n) = shows_ok.apart e f m n sl cl

  shows_links : (slice number : ℕ) → Among (record { slice = slice; content = link number }) step.new.entries ↔ Among (record { slice = slice; content = link number }) step.old.entries
  shows_links slice number = (λ i. go ((step.entries (record { slice = slice; content = link number })).0 i), λ i. (step.entries (record { slice = slice; content = link number })).1 (inr i))
    where
      go : (record { slice = slice; content = link number } ≡ step.entry) ⊎ Among (record { slice = slice; content = link number }) step.old.entries → Among (record { slice = slice; content = link number }) step.old.entries
      go (inl q) = absurd (link_holds_none step.entry slice number step.place row (sym q) step.holds)
      go (inr i) = i

  pub shows_index : IsIndex now twins after chart
  shows_index = record {
    tree = refit arena after chart index.tree step.number step.prefix step.old step.new step.writes.stands step.writes.written step.writes.low step.right shows_apart
        (λ e i. (shows_inside e ((step.entries e).0 i)).0) (λ e i. (shows_inside e ((step.entries e).0 i)).1) shows_links step.writes.empty;
    owned = refit_owned arena after chart index.tree step.number step.prefix step.old step.new step.writes.stands step.writes.written step.writes.low step.right shows_apart
        (λ e i. (shows_inside e ((step.entries e).0 i)).0) (λ e i. (shows_inside e ((step.entries e).0 i)).1) shows_links step.writes.empty (AreTwins twins) index.owned;
    named = named_written arena after chart step.number (Some (border step.new)) step.writes.written (border_none chart step.number step.prefix step.old.low (on step.writes.stands.posted) step.writes.stands.place) index.named;
    marked = marked_border arena after chart chart index.tree index.marked (λ j p g. g) step.number step.old step.new step.writes.stands.node step.writes.written step.right;
    dated = index.dated;
  }

  pub shows_content : (other : Place) (shown : Row) → Has after other shown ↔ (((other ≡ key) × (shown ≡ row)) ⊎ Has arena other shown)
  shows_content = subst (λ (z : Place). (other : Place) (shown : Row) → Has after other shown ↔ (((other ≡ z) × (shown ≡ row)) ⊎ Has arena other shown)) (sym step.is_key)
      (content_shown arena after chart index.tree step.number step.prefix step.old step.new step.writes.stands step.writes.written step.writes.low step.right shows_apart
      (λ e i. (shows_inside e ((step.entries e).0 i)).0) (λ e i. (shows_inside e ((step.entries e).0 i)).1) shows_links step.writes.empty step.entry step.place row step.holds step.entries)

pub showing : ShowingAddsTheRow
showing now twins arena after chart key row index step = (shows_index now twins arena after chart key row index step, shows_content now twins arena after chart key row index step)

-- a row is hidden
module _ (now : ℕ) (twins : List Twin) (arena after : Arena) (chart : Chart) (key : Place) (row : Row) (index : IsIndex now twins arena chart) (step : HidesRow arena after chart key row) where
  hides_ok : IsBorderNode chart step.prefix step.old
  hides_ok = index.tree.each_border step.number step.prefix step.old step.writes.stands

  hides_apart : Apart step.new.entries
  hides_apart e f i j sl cl = hides_ok.apart e f ((step.entries e).0 i).0 ((step.entries f).0 j).0 sl cl

  hides_links : (slice number : ℕ) → Among (record { slice = slice; content = link number }) step.new.entries ↔ Among (record { slice = slice; content = link number }) step.old.entries
  hides_links slice number = (
    λ i. ((step.entries (record { slice = slice; content = link number })).0 i).0,
    λ i. (step.entries (record { slice = slice; content = link number })).1 (i, λ q. link_holds_none step.entry slice number step.place row (sym q) step.holds),
  )

  pub hides_index : IsIndex now twins after chart
  hides_index = record {
    tree = refit arena after chart index.tree step.number step.prefix step.old step.new step.writes.stands step.writes.written step.writes.low step.right hides_apart
        (λ e i. hides_ok.from_low e ((step.entries e).0 i).0) (λ e i. hides_ok.to_right e ((step.entries e).0 i).0) hides_links step.writes.empty;
    owned = refit_owned arena after chart index.tree step.number step.prefix step.old step.new step.writes.stands step.writes.written step.writes.low step.right hides_apart
        (λ e i. hides_ok.from_low e ((step.entries e).0 i).0) (λ e i. hides_ok.to_right e ((step.entries e).0 i).0) hides_links step.writes.empty (AreTwins twins) index.owned;
    named = named_written arena after chart step.number (Some (border step.new)) step.writes.written (border_none chart step.number step.prefix step.old.low (on step.writes.stands.posted) step.writes.stands.place) index.named;
    marked = marked_border arena after chart chart index.tree index.marked (λ j p g. g) step.number step.old step.new step.writes.stands.node step.writes.written step.right;
    dated = index.dated;
  }

  pub hides_content : (other : Place) (shown : Row) → Has after other shown ↔ (Has arena other shown × (other ≢ key))
  hides_content = subst (λ (z : Place). (other : Place) (shown : Row) → Has after other shown ↔ (Has arena other shown × (other ≢ z))) (sym step.is_key)
      (content_hidden arena after chart index.tree step.number step.prefix step.old step.new step.writes.stands step.writes.written step.writes.low step.right hides_apart
      (λ e i. hides_ok.from_low e ((step.entries e).0 i).0) (λ e i. hides_ok.to_right e ((step.entries e).0 i).0) hides_links step.writes.empty step.entry step.place row step.stood step.holds step.entries)

pub hiding : HidingRemovesTheRow
hiding now twins arena after chart key row index step = (hides_index now twins arena after chart key row index step, hides_content now twins arena after chart key row index step)

-- a row replaces another
module _ (now : ℕ) (twins : List Twin) (arena after : Arena) (chart : Chart) (key : Place) (before row : Row) (index : IsIndex now twins arena chart) (step : SetsRow arena after chart key before row) where
  sets_ok : IsBorderNode chart step.prefix step.old
  sets_ok = index.tree.each_border step.number step.prefix step.old step.writes.stands

  same_slice : step.set.slice ≡ step.entry.slice
  same_slice = sym (holds_slice step.set.slice step.set.content step.place row step.set_holds).0 ∙ (holds_slice step.entry.slice step.entry.content step.place before step.holds).0

  same_class : class step.set.content ≡ class step.entry.content
  same_class = sym (holds_slice step.set.slice step.set.content step.place row step.set_holds).1 ∙ (holds_slice step.entry.slice step.entry.content step.place before step.holds).1

  sets_inside : (e : PlainEntry) → (e ≡ step.set) ⊎ (Among e step.old.entries × (e ≢ step.entry)) → (step.old.low ≤ e.slice) × Below e.slice step.old.right
  sets_inside e (inl q) =
      let same : step.entry.slice ≡ e.slice = sym same_slice ∙ ap (λ (v : PlainEntry). v.slice) (sym q) in
      (subst (λ (v : ℕ). step.old.low ≤ v) same (sets_ok.from_low step.entry step.stood), subst (λ (v : ℕ). Below v step.old.right) same (sets_ok.to_right step.entry step.stood))
  sets_inside e (inr i) = (sets_ok.from_low e i.0, sets_ok.to_right e i.0)

  sets_apart : Apart step.new.entries
  sets_apart e f i j sl cl = go ((step.entries e).0 i) ((step.entries f).0 j)
    where
      go : (e ≡ step.set) ⊎ (Among e step.old.entries × (e ≢ step.entry)) → (f ≡ step.set) ⊎ (Among f step.old.entries × (f ≢ step.entry)) → e ≡ f
      go (inl p) (inl q) = p ∙ sym q
      go (inl p) (inr m) = absurd (m.1 (sets_ok.apart f step.entry m.0 step.stood (sym sl ∙ (ap (λ (v : PlainEntry). v.slice) p ∙ same_slice)) (sym cl ∙ (ap (λ (v : PlainEntry). class v.content) p ∙ same_class))))
      go (inr m) (inl q) = absurd (m.1 (sets_ok.apart e step.entry m.0 step.stood (sl ∙ (ap (λ (v : PlainEntry). v.slice) q ∙ same_slice)) (cl ∙ (ap (λ (v : PlainEntry). class v.content) q ∙ same_class))))
      go (inr m) (inr n) = sets_ok.apart e f m.0 n.0 sl cl

  sets_links : (slice number : ℕ) → Among (record { slice = slice; content = link number }) step.new.entries ↔ Among (record { slice = slice; content = link number }) step.old.entries
  sets_links slice number = (
    λ i. go ((step.entries (record { slice = slice; content = link number })).0 i),
    λ i. (step.entries (record { slice = slice; content = link number })).1 (inr (i, λ q. link_holds_none step.entry slice number step.place before (sym q) step.holds)),
  )
    where
      go : (record { slice = slice; content = link number } ≡ step.set) ⊎ (Among (record { slice = slice; content = link number }) step.old.entries × (record { slice = slice; content = link number } ≢ step.entry)) →
          Among (record { slice = slice; content = link number }) step.old.entries
      go (inl q) = absurd (link_holds_none step.set slice number step.place row (sym q) step.set_holds)
      go (inr i) = i.0

  pub sets_index : IsIndex now twins after chart
  sets_index = record {
    tree = refit arena after chart index.tree step.number step.prefix step.old step.new step.writes.stands step.writes.written step.writes.low step.right sets_apart
        (λ e i. (sets_inside e ((step.entries e).0 i)).0) (λ e i. (sets_inside e ((step.entries e).0 i)).1) sets_links step.writes.empty;
    owned = refit_owned arena after chart index.tree step.number step.prefix step.old step.new step.writes.stands step.writes.written step.writes.low step.right sets_apart
        (λ e i. (sets_inside e ((step.entries e).0 i)).0) (λ e i. (sets_inside e ((step.entries e).0 i)).1) sets_links step.writes.empty (AreTwins twins) index.owned;
    named = named_written arena after chart step.number (Some (border step.new)) step.writes.written (border_none chart step.number step.prefix step.old.low (on step.writes.stands.posted) step.writes.stands.place) index.named;
    marked = marked_border arena after chart chart index.tree index.marked (λ j p g. g) step.number step.old step.new step.writes.stands.node step.writes.written step.right;
    dated = index.dated;
  }

  pub sets_content : (other : Place) (shown : Row) → Has after other shown ↔ (((other ≡ key) × (shown ≡ row)) ⊎ (Has arena other shown × (other ≢ key)))
  sets_content = subst (λ (z : Place). (other : Place) (shown : Row) → Has after other shown ↔ (((other ≡ z) × (shown ≡ row)) ⊎ (Has arena other shown × (other ≢ z)))) (sym step.is_key)
      (content_set arena after chart index.tree step.number step.prefix step.old step.new step.writes.stands step.writes.written step.writes.low step.right sets_apart
      (λ e i. (sets_inside e ((step.entries e).0 i)).0) (λ e i. (sets_inside e ((step.entries e).0 i)).1) sets_links step.writes.empty step.entry step.set step.place before row step.stood step.holds step.set_holds step.entries)

pub setting : SettingReplacesTheRow
setting now twins arena after chart key before row index step = (sets_index now twins arena after chart key before row index step, sets_content now twins arena after chart key before row index step)

-- a border is marked
module _ (now : ℕ) (twins : List Twin) (arena after : Arena) (chart : Chart) (index : IsIndex now twins arena chart) (step : MarksBorder arena after chart) where
  marks_ok : IsBorderNode chart step.prefix step.old
  marks_ok = index.tree.each_border step.number step.prefix step.old step.writes.stands

  marks_entries : (e : PlainEntry) → Among e step.new.entries ↔ Among e step.old.entries
  marks_entries e = (λ i. subst (λ (v : List PlainEntry). Among e v) step.entries i, λ i. subst (λ (v : List PlainEntry). Among e v) (sym step.entries) i)

  marks_apart : Apart step.new.entries
  marks_apart e f i j sl cl = marks_ok.apart e f ((marks_entries e).0 i) ((marks_entries f).0 j) sl cl

  pub marks_index : IsIndex now twins after chart
  marks_index = record {
    tree = refit arena after chart index.tree step.number step.prefix step.old step.new step.writes.stands step.writes.written step.writes.low step.right marks_apart
        (λ e i. marks_ok.from_low e ((marks_entries e).0 i)) (λ e i. marks_ok.to_right e ((marks_entries e).0 i)) (λ slice number. marks_entries (record { slice = slice; content = link number })) step.writes.empty;
    owned = refit_owned arena after chart index.tree step.number step.prefix step.old step.new step.writes.stands step.writes.written step.writes.low step.right marks_apart
        (λ e i. marks_ok.from_low e ((marks_entries e).0 i)) (λ e i. marks_ok.to_right e ((marks_entries e).0 i)) (λ slice number. marks_entries (record { slice = slice; content = link number })) step.writes.empty (AreTwins twins) index.owned;
    named = named_written arena after chart step.number (Some (border step.new)) step.writes.written (border_none chart step.number step.prefix step.old.low (on step.writes.stands.posted) step.writes.stands.place) index.named;
    marked = marked_border arena after chart chart index.tree index.marked (λ j p g. g) step.number step.old step.new step.writes.stands.node step.writes.written step.right;
    dated = index.dated;
  }

  pub marks_content : (key : Place) (row : Row) → Has after key row ↔ Has arena key row
  marks_content = content_same arena after chart index.tree step.number step.prefix step.old step.new step.writes.stands step.writes.written step.writes.low step.right marks_apart
      (λ e i. marks_ok.from_low e ((marks_entries e).0 i)) (λ e i. marks_ok.to_right e ((marks_entries e).0 i)) (λ slice number. marks_entries (record { slice = slice; content = link number })) step.writes.empty
      (λ e y r h. marks_entries e)

pub marking : MarkingABorderKeeps
marking now twins arena after chart index step = record {
  index = marks_index now twins arena after chart index step;
  content = marks_content now twins arena after chart index step;
  evolves = λ begun le. evolves_same begun chart;
}

pub marking_gone_border : MarkingAGoneBorderKeeps
marking_gone_border now twins arena after chart index step = gone_border_keeps arena after chart step.number step.prefix step.low step.epoch now twins step.node index step.place step.written step.marked

on_not_gone : (y : Bool) (e : ℕ) → on y ≡ gone e → ⊥
on_not_gone y e q = cc

no_head : (r : Role) (p q : List ℕ) (l : ℕ) (s : Standing) → r ≡ at_level 0 → spot r p l s ≢ spot top q 0 (on true)
no_head r p q l s e f = let w : r ≡ top = cc in cc

unposted : (p q : List ℕ) (l m k : ℕ) (y : Bool) → spot (at_level 0) p l (on false) ≡ spot (at_level k) q m (on y) → (k ≡ 0) × (y ≡ false)
unposted p q l m k y e = let r : at_level 0 ≡ at_level k = cc in let s : on false ≡ on y = cc in (cc, cc)

pub linking : LinkingAHalfKeeps
linking now twins arena after chart next index step = record {
  index = record {
    tree = split_tree arena after chart next index.tree step.number step.prefix step.old step.new step.writes.stands step.writes.written step.half_number step.half step.filled step.unknown step.charted step.writes.low step.right step.half_right step.above step.below step.parts step.lower step.upper step.writes.empty step.half_empty;
    owned = split_owned arena after chart next index.tree step.number step.prefix step.old step.new step.writes.stands step.writes.written step.half_number step.half step.filled step.unknown step.charted step.writes.low step.right step.half_right step.above step.below step.parts step.lower step.upper step.writes.empty step.half_empty (AreTwins twins) index.owned;
    named = named_chain arena after chart next step.number step.half_number (Some (border step.new)) (spot (at_level 0) step.prefix step.half.low (on false)) step.writes.written
        (border_none chart step.number step.prefix step.old.low (on step.writes.stands.posted) step.writes.stands.place) step.charted (unknown_none chart step.half_number step.unknown) (λ k p l y e. unposted step.prefix p step.half.low l k y e) index.named;
    marked = marked_written arena after chart next index.tree index.marked (was_head chart next step.half_number (spot (at_level 0) step.prefix step.half.low (on false)) step.charted (λ p e. no_head (at_level 0) step.prefix p step.half.low (on false) refl e))
        step.number (Some (border step.new)) step.writes.written (λ t e. cc) (λ j p t g e d at f last. absurd (not_marked j p t g e d at f));
    dated = dated_at chart next step.half_number (at_level 0) step.prefix step.half.low (on false) now step.charted (λ e q. absurd (on_not_gone false e q)) index.dated;
  };
  content = split_content arena after chart next index.tree step.number step.prefix step.old step.new step.writes.stands step.writes.written step.half_number step.half step.filled step.unknown step.charted step.writes.low step.right step.half_right step.above step.below step.parts step.lower step.upper step.writes.empty step.half_empty;
  evolves = λ begun le. split_evolves arena after chart next index.tree step.number step.prefix step.old step.new step.writes.stands step.writes.written step.half_number step.half step.filled step.unknown step.charted step.writes.low step.right step.half_right step.above step.below step.parts step.lower step.upper step.writes.empty step.half_empty begun;
}
  where
    not_marked : (j : ℕ) (p : List ℕ) (t : HeadNode) → OnHead chart j p → arena j ≡ Some (head t) → t.deleted ≡ true → chart t.root ≡ Some (spot (at_level t.level) p 0 (on true)) → t.root ≡ step.number → ⊥
    not_marked j p t g e d at f =
        let same : chart t.root ≡ chart step.number = ap chart f in
        let place = step.writes.stands.place in
        let layer : p ≡ step.prefix = cc in
        let alive : t.deleted ≡ false = step.head_alive j t (subst (λ (q : List ℕ). OnHead chart j q) layer g) e f in
        let clash : true ≡ false = sym d ∙ alive in
        cc

-- if two numbers have new places
dated_two : (chart next : Chart) (now one two : ℕ) (p q : Spot) → next one ≡ Some p → next two ≡ Some q → ((other : ℕ) → other ≢ one → other ≢ two → next other ≡ chart other) →
    ((role : Role) (prefix : List ℕ) (low e : ℕ) → p ≡ spot role prefix low (gone e) → e ≤ now) → ((role : Role) (prefix : List ℕ) (low e : ℕ) → q ≡ spot role prefix low (gone e) → e ≤ now) → Dated chart now → Dated next now
dated_two chart next now one two p q f g rest u v dated m role prefix low e h = go (same_number m one) (same_number m two)
  where
    go : (m ≡ one) ⊎ (m ≢ one) → (m ≡ two) ⊎ (m ≢ two) → e ≤ now
    go (inl k) _ = u role prefix low e (let w : next m ≡ next one = ap next k in cc)
    go (inr _) (inl k) = v role prefix low e (let w : next m ≡ next two = ap next k in cc)
    go (inr k) (inr l) = dated m role prefix low e (sym (rest m k l) ∙ h)

spot_on : (r role : Role) (p prefix : List ℕ) (l low : ℕ) (y : Bool) (e : ℕ) → spot r p l (on y) ≡ spot role prefix low (gone e) → ⊥
spot_on r role p prefix l low y e q = let w : on y ≡ gone e = cc in cc

spot_now : (r role : Role) (p prefix : List ℕ) (l low now e : ℕ) → spot r p l (gone now) ≡ spot role prefix low (gone e) → e ≤ now
spot_now r role p prefix l low now e q = let w : gone now ≡ gone e = cc in let v : now ≡ e = cc in omega arith

pub making_layer : MakingALayerKeeps
making_layer now twins arena after chart next index step = record {
  index = record {
    tree = layer_made_tree arena after chart next index.tree step.number step.prefix step.old step.new step.writes.stands step.writes.written step.top_number step.root_number step.top_node step.root step.top_filled step.root_filled step.two_numbers step.top_unknown step.root_unknown step.slice step.rest step.row step.entry step.top_charted step.root_charted step.others step.writes.low step.right step.writes.empty step.stood step.entries step.names_root step.level step.root_low step.root_right step.root_alive step.root_entries step.holds;
    owned = layer_made_owned arena after chart next index.tree step.number step.prefix step.old step.new step.writes.stands step.writes.written step.top_number step.root_number step.top_node step.root step.top_filled step.root_filled step.two_numbers step.top_unknown step.root_unknown step.slice step.rest step.row step.entry step.top_charted step.root_charted step.others step.writes.low step.right step.writes.empty step.stood step.entries step.names_root step.level step.root_low step.root_right step.root_alive step.root_entries step.holds (AreTwins twins) index.owned;
    named = named_layer arena after chart next step.number (Some (border step.new)) step.writes.written (border_none chart step.number step.prefix step.old.low (on step.writes.stands.posted) step.writes.stands.place)
        step.top_number step.root_number step.top_node (step.slice ∷ step.prefix) step.top_unknown step.root_unknown top_not_number step.top_charted step.top_filled step.names_root step.others index.named;
    marked = marked_layer arena after chart next index.tree index.marked step.number step.old step.new step.writes.stands.node step.writes.written step.right step.top_number step.root_number step.top_node step.root step.top_filled step.names_root step.root_filled step.root_right
        root_not_number was;
    dated = dated_two chart next now step.top_number step.root_number (spot top (step.slice ∷ step.prefix) 0 (on true)) (spot (at_level 0) (step.slice ∷ step.prefix) 0 (on true)) step.top_charted step.root_charted step.others
        (λ role prefix low e q. absurd (spot_on top role (step.slice ∷ step.prefix) prefix 0 low true e q)) (λ role prefix low e q. absurd (spot_on (at_level 0) role (step.slice ∷ step.prefix) prefix 0 low true e q)) index.dated;
  };
  content = layer_made_content arena after chart next index.tree step.number step.prefix step.old step.new step.writes.stands step.writes.written step.top_number step.root_number step.top_node step.root step.top_filled step.root_filled step.two_numbers step.top_unknown step.root_unknown step.slice step.rest step.row step.entry step.top_charted step.root_charted step.others step.writes.low step.right step.writes.empty step.stood step.entries step.names_root step.level step.root_low step.root_right step.root_alive step.root_entries step.holds;
  evolves = λ begun le. layer_made_evolves arena after chart next index.tree step.number step.prefix step.old step.new step.writes.stands step.writes.written step.top_number step.root_number step.top_node step.root step.top_filled step.root_filled step.two_numbers step.top_unknown step.root_unknown step.slice step.rest step.row step.entry step.top_charted step.root_charted step.others step.writes.low step.right step.writes.empty step.stood step.entries step.names_root step.level step.root_low step.root_right step.root_alive step.root_entries step.holds begun;
}
  where
    root_not_number : step.root_number ≢ step.number
    root_not_number e =
        let same : chart step.root_number ≡ chart step.number = ap chart e in
        let place = step.writes.stands.place in
        let clash : ◌≡◌ {A = Option Spot} None (Some (spot (at_level 0) step.prefix step.old.low (on step.writes.stands.posted))) = sym step.root_unknown ∙ (same ∙ place) in
        cc

    was : (j : ℕ) (p : List ℕ) → j ≢ step.top_number → OnHead next j p → OnHead chart j p
    was j p ne g = sym (step.others j ne (λ e. let w : next j ≡ next step.root_number = ap next e in let v = step.root_charted in let c : top ≡ at_level 0 = cc in cc)) ∙ g

    top_not_number : step.top_number ≢ step.number
    top_not_number e =
        let same : chart step.top_number ≡ chart step.number = ap chart e in
        let place = step.writes.stands.place in
        let clash : ◌≡◌ {A = Option Spot} None (Some (spot (at_level 0) step.prefix step.old.low (on step.writes.stands.posted))) = sym step.top_unknown ∙ (same ∙ place) in
        cc

spot_gone : (r role : Role) (p prefix : List ℕ) (l low e : ℕ) (y : Bool) → spot r p l (gone e) ≡ spot role prefix low (on y) → ⊥
spot_gone r role p prefix l low e y q = let w : gone e ≡ on y = cc in cc

gone_now : (now e : ℕ) → gone now ≡ gone e → e ≤ now
gone_now now e q = let w : now ≡ e = cc in omega arith

pub unlinking : UnlinkingKeeps
unlinking now twins arena after chart next index step = record {
  index = record {
    tree = unlink_tree arena after chart next index.tree step.number step.prefix step.old step.new step.stands step.written step.gone_number step.gone_node step.there step.dropped bare step.marked now index.dated step.charted step.low step.entries step.was_right step.right step.deleted;
    owned = unlink_owned arena after chart next index.tree step.number step.prefix step.old step.new step.stands step.written step.gone_number step.gone_node step.there step.dropped bare step.marked now index.dated step.charted step.low step.entries step.was_right step.right step.deleted (AreTwins twins) index.owned;
    named = named_chain arena after chart next step.number step.gone_number (Some (border step.new)) (spot (at_level 0) step.prefix step.gone_node.low (gone now)) step.written
        (border_none chart step.number step.prefix step.old.low (on step.stands.posted) step.stands.place) step.charted (border_none chart step.gone_number step.prefix step.gone_node.low (on false) step.dropped)
        (λ k p l y e. absurd (spot_gone (at_level 0) (at_level k) step.prefix p step.gone_node.low l now y e)) index.named;
    marked = marked_written arena after chart next index.tree index.marked (was_head chart next step.gone_number (spot (at_level 0) step.prefix step.gone_node.low (gone now)) step.charted (λ p e. no_head (at_level 0) step.prefix p step.gone_node.low (gone now) refl e))
        step.number (Some (border step.new)) step.written (λ t e. cc) (λ j p t g e d at f last. absurd (has_right last));
    dated = dated_at chart next step.gone_number (at_level 0) step.prefix step.gone_node.low (gone now) now step.charted (λ e q. gone_now now e q) index.dated;
  };
  content = unlink_content arena after chart next index.tree step.number step.prefix step.old step.new step.stands step.written step.gone_number step.gone_node step.there step.dropped bare step.marked now index.dated step.charted step.low step.entries step.was_right step.right step.deleted;
  evolves = λ begun le. unlink_evolves arena after chart next index.tree step.number step.prefix step.old step.new step.stands step.written step.gone_number step.gone_node step.there step.dropped bare step.marked now index.dated step.charted step.low step.entries step.was_right step.right step.deleted begun le;
}
  where
    has_right : IsLastBorder arena step.number → ⊥
    has_right (x, e, none) =
        let there = step.stands.node in
        let same : x ≡ step.old = cc in
        let clash : ◌≡◌ {A = Option Right} None (Some (record { low = step.gone_node.low; number = step.gone_number })) = sym none ∙ (ap (λ (v : BorderNode). v.right) same ∙ step.was_right) in
        cc

    bare : step.gone_node.entries ≡ []
    bare = (index.tree.each_border step.gone_number step.prefix step.gone_node (record { posted = false; place = step.dropped; node = step.there })).empty step.marked

pub dropping_layer : DroppingALayerKeeps
dropping_layer now twins arena after chart next index step = record {
  index = record {
    tree = layer_dropped_tree arena after chart next index.tree step.number step.prefix step.old step.new step.stands step.written step.slice step.top_number step.root_number step.top_node step.root step.top_on step.top_there step.top_deleted step.root_on step.root_low step.root_right step.root_entries step.root_deleted only_head now index.dated step.top_goes step.root_goes step.others step.low step.right step.deleted step.stood step.entries;
    owned = layer_dropped_owned arena after chart next index.tree step.number step.prefix step.old step.new step.stands step.written step.slice step.top_number step.root_number step.top_node step.root step.top_on step.top_there step.top_deleted step.root_on step.root_low step.root_right step.root_entries step.root_deleted only_head now index.dated step.top_goes step.root_goes step.others step.low step.right step.deleted step.stood step.entries (AreTwins twins) index.owned;
    named = named_no_layer arena after chart next step.number (Some (border step.new)) step.written (border_none chart step.number step.prefix step.old.low (on step.stands.posted) step.stands.place)
        step.top_number step.root_number step.top_node (step.slice ∷ step.prefix) step.root.low now step.root_on.posted step.top_on step.top_there step.names_root step.root_on.place step.top_goes step.root_goes step.others index.named;
    marked = marked_border arena after chart next index.tree index.marked was step.number step.old step.new step.stands.node step.written step.right;
    dated = dated_two chart next now step.top_number step.root_number (spot top (step.slice ∷ step.prefix) 0 (gone now)) (spot (at_level 0) (step.slice ∷ step.prefix) 0 (gone now)) step.top_goes step.root_goes step.others
        (λ role prefix low e q. spot_now top role (step.slice ∷ step.prefix) prefix 0 low now e q) (λ role prefix low e q. spot_now (at_level 0) role (step.slice ∷ step.prefix) prefix 0 low now e q) index.dated;
  };
  content = layer_dropped_content arena after chart next index.tree step.number step.prefix step.old step.new step.stands step.written step.slice step.top_number step.root_number step.top_node step.root step.top_on step.top_there step.top_deleted step.root_on step.root_low step.root_right step.root_entries step.root_deleted only_head now index.dated step.top_goes step.root_goes step.others step.low step.right step.deleted step.stood step.entries;
  evolves = λ begun le. layer_dropped_evolves arena after chart next index.tree step.number step.prefix step.old step.new step.stands step.written step.slice step.top_number step.root_number step.top_node step.root step.top_on step.top_there step.top_deleted step.root_on step.root_low step.root_right step.root_entries step.root_deleted only_head now index.dated step.top_goes step.root_goes step.others step.low step.right step.deleted step.stood step.entries begun le;
}
  where
    was : (j : ℕ) (p : List ℕ) → OnHead next j p → OnHead chart j p
    was j p g = sym (step.others j (λ e. let w : next j ≡ next step.top_number = ap next e in let v = step.top_goes in let c : on true ≡ gone now = cc in cc)
        (λ e. let w : next j ≡ next step.root_number = ap next e in let v = step.root_goes in let c : top ≡ at_level 0 = cc in cc)) ∙ g

    only_head : (j : ℕ) → Owns arena chart j step.root_number → j ≡ step.top_number
    only_head = only_owner arena chart (AreTwins twins) index.owned step.top_number step.root_number (by_head (step.slice ∷ step.prefix) step.top_node step.top_on step.top_there step.names_root) step.no_twin

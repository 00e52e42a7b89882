-- What a tidy knows of the nodes of a layer that it takes out: they are three, and each is as it was where another changes.
use Rattle.std.proofs.Common.{ℕ, ◌≡◌, ◌≢◌, List, [], slice_get, Option, Some, IsSome, false, sym, ap, subst, ◌∙◌}
use Rattle.std.specs.Option.{option_and_then}
use Rattle.mt_border.specs.Border.{BorderView}
use Rattle.mt_border.specs.declared.entry.Entry.{Entry}
use Rattle.mt_arena.specs.Node.{head_of, border_at, border_of}
use Rattle.mt_arena.specs.Arena.{ArenaView, with_border_changed}
use Rattle.mt_chart.specs.Chart.{Spot}
use Rattle.mt_steps.specs.World.{World, IsLockedBorder, NotAmong}
use Rattle.mt_steps.proofs.BorderLemmas.{others_named}
use Rattle.mt_steps.proofs.LayerLemmas.{head_apart}
use Rattle.mt_steps.proofs.NodeLemmas.{known_some}
use Rattle.mt_remove.specs.declared.stage.Layer.{Layer}
use Rattle.mt_remove.specs.Locked.{IsEmptyRoot, IsAbove, HasLayer, IsOwnHead, IsGoneBorder, IsGoneHead}

-- ---- they are locked
-- an empty border that is not marked deleted, and is no closing one, is a locked border
pub root_locked : (a : ArenaView) (w : World) (number : ℕ) (e : IsEmptyRoot a w number) → e.b.version.deleted ≡ false → NotAmong number w.closing → IsLockedBorder a w number
root_locked a w number e alive free = record { b = e.b; named = e.named; known = e.known; locked = e.locked; alive = alive; written = e.written; free = free }

pub above_locked : (a : ArenaView) (w : World) (number : ℕ) → IsAbove a w number → IsLockedBorder a w number
above_locked a w number e = record { b = e.b; named = e.named; known = known_some w number _ e.stands.place; locked = e.locked; alive = e.alive; written = e.written; free = e.free }

-- ---- they are three
pub same_border : (a : ArenaView) (number : ℕ) (b c : BorderView) → border_at a.nodes number ≡ Some b → border_at a.nodes number ≡ Some c → b ≡ c
same_border a number b c one two = (let both : ◌≡◌ {A = Option BorderView} (Some b) (Some c) = sym one ∙ two in cc)

-- a border that has an entry is not one that has none
nothing_at : (place : ℕ) (entry : Entry) → ◌≡◌ {A = Option Entry} (slice_get [] place) (Some entry) → ⊥
nothing_at place entry e = cc

pub layer_apart : (a : ArenaView) (w : World) (layer : Layer) → IsEmptyRoot a w layer.root.0 → HasLayer a w layer → layer.above.0 ≢ layer.root.0
layer_apart a w layer root above e =
    let same = same_border a layer.root.0 above.border.b root.b (ap (λ (m : ℕ). border_at a.nodes m) (sym e) ∙ above.border.named) root.named in
    nothing_at layer.place _ (sym (ap (λ (x : BorderView). slice_get x.live layer.place) same ∙ ap (λ (l : List Entry). slice_get l layer.place) root.empty) ∙ above.linked)

-- ---- where another border changes
-- an empty border is as it was
unfoldable pub root_beside : (a : ArenaView) (w next : World) (n number : ℕ) (b : BorderView) (change : BorderView → BorderView) → border_at a.nodes n ≡ Some b → number ≢ n → next.chart number ≡ w.chart number → IsEmptyRoot a w number → IsEmptyRoot (with_border_changed a n change) next number
root_beside a w next n number b change named differ same e = record {
  b = e.b;
  named = ap (option_and_then border_of) (others_named a n b change named number differ) ∙ e.named;
  known = subst (λ (x : Option Spot). IsSome x) (sym same) e.known;
  locked = e.locked;
  written = e.written;
  empty = e.empty;
  right = e.right;
}

-- so is the border above, which has the link to the layer
pub above_beside : (a : ArenaView) (w : World) (n : ℕ) (b : BorderView) (change : BorderView → BorderView) (layer : Layer) → border_at a.nodes n ≡ Some b → layer.above.0 ≢ n → HasLayer a w layer → HasLayer (with_border_changed a n change) w layer
above_beside a w n b change layer named differ x = record {
  border = record {
    b = x.border.b;
    named = ap (option_and_then border_of) (others_named a n b change named layer.above.0 differ) ∙ x.border.named;
    locked = x.border.locked;
    alive = x.border.alive;
    written = x.border.written;
    prefix = x.border.prefix;
    stands = x.border.stands;
    free = x.border.free;
  };
  slice = x.slice;
  linked = x.linked;
}

-- so is a head
unfoldable pub head_beside : (a : ArenaView) (n number : ℕ) (b : BorderView) (change : BorderView → BorderView) → border_at a.nodes n ≡ Some b → IsOwnHead a number → IsOwnHead (with_border_changed a n change) number
head_beside a n number b change named x = record {
  h = x.h;
  named = ap (option_and_then head_of) (others_named a n b change named number (λ e. head_apart a number n x.h b x.named named (sym e))) ∙ x.named;
  marked = x.marked;
  unlocked = x.unlocked;
  kept = x.kept;
}

-- so is a border that is gone
pub gone_beside : (a : ArenaView) (w : World) (n number : ℕ) (b : BorderView) (change : BorderView → BorderView) → border_at a.nodes n ≡ Some b → number ≢ n → IsGoneBorder a w number → IsGoneBorder (with_border_changed a n change) w number
gone_beside a w n number b change named differ g = record {
  b = g.b;
  named = ap (option_and_then border_of) (others_named a n b change named number differ) ∙ g.named;
  locked = g.locked;
  written = g.written;
  prefix = g.prefix;
  low = g.low;
  epoch = g.epoch;
  place = g.place;
  free = g.free;
  kept = g.kept;
}

-- and so is a head that is gone
pub gone_head_beside : (a : ArenaView) (w : World) (n number : ℕ) (b : BorderView) (change : BorderView → BorderView) → border_at a.nodes n ≡ Some b → IsGoneHead a w number → IsGoneHead (with_border_changed a n change) w number
gone_head_beside a w n number b change named g = record { head = head_beside a n number b change named g.head; prefix = g.prefix; low = g.low; epoch = g.epoch; place = g.place }

-- A border that is locked, unlocked or marked, whose unused slots are filled, or of which something is written that was
-- unwritten, keeps the tree at each chart.
use Rattle.std.proofs.Common.{ℕ, zero, suc, ◌≡◌, List, [], Option, Some, None, true, Result, Ok, Err, OnOk, OnErr, refl, ap, sym, subst, ◌∙◌}
use Rattle.std.specs.Option.{option_map}
use Rattle.mt_border.specs.Border.{BorderView, first_held, with_inserting, with_key, with_filled, with_forgotten, with_locked, with_unlocked, with_deleted, with_splitting, with_unstable, with_written}
use Rattle.mt_border.specs.Order.{IsBorder}
use Rattle.mt_types.specs.declared.row.Row.{Row}
use Rattle.mt_border.specs.Entry.{entry_with}
use Rattle.mt_border.specs.declared.unwritten.Unwritten.TheVariants.{Value}
use Rattle.mt_tree.specs.BorderSteps.{AwaitsSome}
use Rattle.mt_border.specs.declared.unwritten.SlotKey.{SlotKey}
use Rattle.mt_border.proofs.BorderLemmas.{inserting_deleted}
use Rattle.mt_arena.specs.Node.{border_at}
use Rattle.mt_arena.specs.Arena.{ArenaView, with_node_at}
use Rattle.mt_arena.specs.declared.node.Node.TheVariants.{Border}
use Rattle.mt_chart.specs.Tree.{Arena, BorderNode, border}
use Rattle.mt_chart.specs.Chart.{on, gone, top, at_level, Spot, spot, Chart, OnBorder, Changes}
use Rattle.mt_chart.specs.Steps.{Twin, IsIndex, Keeps, WritesBorder}
use Rattle.mt_chart.proofs.BorderLaws.{marking, marking_gone_border}
use Rattle.mt_chart.proofs.InteriorLaws.{changing_spares}
use Rattle.mt_tree.specs.Seen.{arena_seen, border_seen, entries_seen, right_seen}
use Rattle.mt_tree.specs.Keeping.{IsOnIn, KeepsTree}
use Rattle.mt_tree.proofs.SeenLemmas.{seen-border, written-border}

-- a border that is on in the chart is the one that is seen there
pub stands_seen : (a : ArenaView) (now : ℕ) (twins : List Twin) (chart : Chart) (number : ℕ) (prefix : List ℕ) (b : BorderView) → IsIndex now twins (arena_seen a) chart → IsOnIn chart number prefix → border_at a.nodes number ≡ Some b →
    OnBorder (arena_seen a) chart number prefix (border_seen b)
stands_seen a now twins chart number prefix b index stands is =
    let (node, there, low) = index.tree.borders number prefix stands.low stands.posted stands.place in
    let seen : arena_seen a number ≡ Some (border (border_seen b)) = seen-border a number b is in
    let same : node ≡ border_seen b = cc in
    let same_low : stands.low ≡ b.low = sym low ∙ ap (λ (n : BorderNode). n.low) same in
    record { posted = stands.posted; place = subst (λ (l : ℕ). chart number ≡ Some (spot (at_level 0) prefix l (on stands.posted))) same_low stands.place; node = seen }

-- a border that is on is written, and keeps its low
pub writes_seen : (a : ArenaView) (chart : Chart) (number : ℕ) (prefix : List ℕ) (b b' : BorderView) → border_at a.nodes number ≡ Some b → OnBorder (arena_seen a) chart number prefix (border_seen b) → b'.low ≡ b.low →
    (b'.version.deleted ≡ true → b'.live ≡ []) → WritesBorder (arena_seen a) (arena_seen (with_node_at a number (Border b'))) chart number prefix (border_seen b) (border_seen b')
writes_seen a chart number prefix b b' is stands low empty = record { stands = stands; written = written-border a number b b' is; low = low; empty = λ deleted. ap entries_seen (empty deleted) }

-- what is the same to every reader
pub record IsMarked (b b' : BorderView) : Type 0 where
  pub low : b'.low ≡ b.low
  pub right : b'.right ≡ b.right
  pub live : b'.live ≡ b.live
  pub deleted : b.version.deleted ≡ true → b'.version.deleted ≡ true

-- the border is marked for an insertion, or nothing is changed
pub inserting_is_marked : {T E : Type 0} (result : Result T E) (b b' : BorderView) → OnOk result (b' ≡ with_inserting b) → OnErr result (b' ≡ b) → IsMarked b b'
inserting_is_marked (Ok done) b b' marked unchanged = rw marked (record { low = refl; right = refl; live = refl; deleted = λ deleted. inserting_deleted (first_held b.unused) b.version ∙ deleted })
inserting_is_marked (Err refusal) b b' marked unchanged = rw unchanged (record { low = refl; right = refl; live = refl; deleted = λ deleted. deleted })

-- the value of its first unused slot is written
pub valued_is_marked : (b b' : BorderView) (row : Row) → AwaitsSome b → ((key : SlotKey) → b.unwritten ≡ Value key → b' ≡ with_filled b (entry_with key row)) → IsMarked b b'
valued_is_marked b b' row (key, is) value = rw (value key is) (record { low = refl; right = refl; live = refl; deleted = λ deleted. deleted })

module _ (a : ArenaView) (number : ℕ) (b b' : BorderView) (is : border_at a.nodes number ≡ Some b) (same : IsMarked b b') (sound : IsBorder b') where
  here : arena_seen a number ≡ Some (border (border_seen b))
  here = seen-border a number b is

  abbrev after : Arena
  after = arena_seen (with_node_at a number (Border b'))

  written : Changes (arena_seen a) after number (Some (border (border_seen b')))
  written = written-border a number b b' is

  pub marked_keeps : KeepsTree a (with_node_at a number (Border b'))
  marked_keeps = record { keeps = λ now twins chart index. go now twins chart index (chart number) refl }
    where
      unknown : (now : ℕ) (twins : List Twin) (chart : Chart) → IsIndex now twins (arena_seen a) chart → chart number ≡ None → Keeps now twins (arena_seen a) after chart chart
      unknown now twins chart index none = changing_spares now twins (arena_seen a) after chart index
          (λ m place g. written.rest m (λ e. let w : chart m ≡ chart number = ap chart e in cc))

      on_border : (now : ℕ) (twins : List Twin) (chart : Chart) (prefix : List ℕ) → IsIndex now twins (arena_seen a) chart → IsOnIn chart number prefix → Keeps now twins (arena_seen a) after chart chart
      on_border now twins chart prefix index stands = marking now twins (arena_seen a) after chart index (record {
        number = number;
        prefix = prefix;
        old = border_seen b;
        new = border_seen b';
        writes = writes_seen a chart number prefix b b' is (stands_seen a now twins chart number prefix b index stands is) same.low sound.deleted_empty;
        right = ap (option_map right_seen) same.right;
        entries = ap entries_seen same.live;
      })

      gone_border : (now : ℕ) (twins : List Twin) (chart : Chart) (prefix : List ℕ) (low epoch : ℕ) → IsIndex now twins (arena_seen a) chart → chart number ≡ Some (spot (at_level 0) prefix low (gone epoch)) → Keeps now twins (arena_seen a) after chart chart
      gone_border now twins chart prefix low epoch index place = marking_gone_border now twins (arena_seen a) after chart index (record {
        number = number;
        prefix = prefix;
        low = low;
        epoch = epoch;
        node = border_seen b';
        place = place;
        written = written;
        marked = (let (node, there, marked) = index.tree.gone_borders number prefix low epoch place in
            let seen = here in
            let same_node : node ≡ border_seen b = cc in
            same.deleted (sym (ap (λ (n : BorderNode). n.deleted) same_node) ∙ marked));
      })

      go : (now : ℕ) (twins : List Twin) (chart : Chart) → IsIndex now twins (arena_seen a) chart → (at : Option Spot) → chart number ≡ at → Keeps now twins (arena_seen a) after chart chart
      go now twins chart index None g = unknown now twins chart index g
      go now twins chart index (Some (spot top prefix low (on posted))) g = absurd (let seen = here in let u = index.tree.heads number prefix low posted g in let there = u.is_node in cc)
      go now twins chart index (Some (spot top prefix low (gone epoch))) g = absurd (let seen = here in let (node, there, marked) = index.tree.gone_heads number prefix low epoch g in cc)
      go now twins chart index (Some (spot (at_level zero) prefix low (on posted))) g = on_border now twins chart prefix index (record { low = low; posted = posted; place = g })
      go now twins chart index (Some (spot (at_level zero) prefix low (gone epoch))) g = gone_border now twins chart prefix low epoch index g
      go now twins chart index (Some (spot (at_level (suc below)) prefix low standing)) g = absurd (let seen = here in let u = index.tree.interiors number below prefix low standing g in let there = u.is_node in cc)

pub lock_keeps : (a : ArenaView) (number : ℕ) (b : BorderView) → border_at a.nodes number ≡ Some b → IsBorder (with_locked b) → KeepsTree a (with_node_at a number (Border (with_locked b)))
lock_keeps a number b is sound = marked_keeps a number b (with_locked b) is (record { low = refl; right = refl; live = refl; deleted = λ marked. marked }) sound

pub unlock_keeps : (a : ArenaView) (number : ℕ) (b : BorderView) → border_at a.nodes number ≡ Some b → IsBorder (with_unlocked b) → KeepsTree a (with_node_at a number (Border (with_unlocked b)))
unlock_keeps a number b is sound = marked_keeps a number b (with_unlocked b) is (record { low = refl; right = refl; live = refl; deleted = λ marked. marked }) sound

pub mark_keeps : (a : ArenaView) (number : ℕ) (b : BorderView) → border_at a.nodes number ≡ Some b → IsBorder (with_deleted b) → KeepsTree a (with_node_at a number (Border (with_deleted b)))
mark_keeps a number b is sound = marked_keeps a number b (with_deleted b) is (record { low = refl; right = refl; live = refl; deleted = λ marked. refl }) sound

pub key_keeps : (a : ArenaView) (number : ℕ) (b : BorderView) (key : SlotKey) → border_at a.nodes number ≡ Some b → IsBorder (with_key b key) → KeepsTree a (with_node_at a number (Border (with_key b key)))
key_keeps a number b key is sound = marked_keeps a number b (with_key b key) is (record { low = refl; right = refl; live = refl; deleted = λ marked. marked }) sound

pub forgotten_keeps : (a : ArenaView) (number : ℕ) (b : BorderView) → border_at a.nodes number ≡ Some b → IsBorder (with_forgotten b) → KeepsTree a (with_node_at a number (Border (with_forgotten b)))
forgotten_keeps a number b is sound = marked_keeps a number b (with_forgotten b) is (record { low = refl; right = refl; live = refl; deleted = λ marked. marked }) sound

pub splitting_keeps : (a : ArenaView) (number : ℕ) (b : BorderView) → border_at a.nodes number ≡ Some b → IsBorder (with_splitting b) → KeepsTree a (with_node_at a number (Border (with_splitting b)))
splitting_keeps a number b is sound = marked_keeps a number b (with_splitting b) is (record { low = refl; right = refl; live = refl; deleted = λ marked. marked }) sound

pub unstable_keeps : (a : ArenaView) (number : ℕ) (b : BorderView) (place : ℕ) → border_at a.nodes number ≡ Some b → IsBorder (with_unstable b place) → KeepsTree a (with_node_at a number (Border (with_unstable b place)))
unstable_keeps a number b place is sound = marked_keeps a number b (with_unstable b place) is (record { low = refl; right = refl; live = refl; deleted = λ marked. marked }) sound

pub written_keeps : (a : ArenaView) (number : ℕ) (b : BorderView) → border_at a.nodes number ≡ Some b → IsBorder (with_written b) → KeepsTree a (with_node_at a number (Border (with_written b)))
written_keeps a number b is sound = marked_keeps a number b (with_written b) is (record { low = refl; right = refl; live = refl; deleted = λ marked. marked }) sound

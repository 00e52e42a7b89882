-- A call alone that reads a border field by field: where a visit of a head or an interior node leads it, and what is live
-- at a border that nobody has locked.
use Rattle.std.proofs.Common.{ℕ, ◌≡◌, ◌<◌, ◌≤◌, ◌-◌, [], length, slice_get, Option, Some, None, Bool, true, false, if◌then◌else◌, refl, sym, ap, subst, ◌∙◌, arith}
use Rattle.std.specs.Prelude.{◌&&◌}
use Rattle.std.specs.Option.{option_map, option_and_then}
use Rattle.std.proofs.lemmas.Bool.{eq-eqb}
use Rattle.mt_types.specs.declared.numbers.NodeNo.{NodeNo}
use Rattle.mt_word.specs.Version.{is_flagged}
use Rattle.mt_border.specs.Border.{BorderView}
use Rattle.mt_border.specs.Keys.{content_mark, entry_key}
use Rattle.mt_border.specs.Order.{IsBorder}
use Rattle.mt_border.proofs.BorderLemmas.{unlocked_written}
use Rattle.mt_border.specs.Slots.{slot_at, key_in, key_at, order_in, order_shown}
use Rattle.mt_border.specs.Table.{number_at, next_number}
use Rattle.mt_border.specs.declared.field.Mark.TheVariants.{Unstable}
use Rattle.mt_border.specs.declared.unwritten.Unwritten.{Unwritten}
use Rattle.mt_border.specs.declared.entry.Content.{Content}
use Rattle.mt_border.specs.declared.entry.Content.TheVariants.{Short, Long, Link}
use Rattle.mt_border.specs.declared.entry.RightLink.{RightLink}
use Rattle.mt_border.proofs.ChangeLemmas.{number_live}
use Rattle.mt_border.proofs.SlotLemmas.{live_count}
use Rattle.mt_interior.specs.Head.{HeadView}
use Rattle.mt_interior.specs.Interior.{InteriorView, children_up_to}
use Rattle.mt_interior.specs.declared.child.Child.{Child}
use Rattle.mt_arena.specs.Arena.{ArenaView}
use Rattle.mt_arena.specs.Node.{node_at, head_of, interior_of, border_of, border_at, IsNode}
use Rattle.mt_arena.specs.declared.node.Node.{Node}
use Rattle.mt_arena.specs.declared.node.Node.TheVariants.{Head as HeadNode, Interior as InteriorNode, Border as BorderNode}
use Rattle.mt_chart.specs.Tree.{link, Among, Right}
use Rattle.mt_chart.specs.Walk.{Moves, to_child as move_to_child, to_right as move_to_right, to_link}
use Rattle.mt_tree.specs.Seen.{arena_seen, border_seen, child_seen, interior_seen, entries_seen, entry_seen, content_seen, right_seen}
use Rattle.mt_tree.specs.Descent.{visit_head, visit_interior, to_child, is_marked, TellsVisit}
use Rattle.mt_tree.specs.declared.visit.Visit.{Visit}
use Rattle.mt_tree.specs.declared.visit.Visit.TheVariants.{Again as VisitAgain, To as VisitTo}
use Rattle.mt_tree.proofs.AgeLemmas.{are_slots}
use Rattle.mt_tree.proofs.DescentLemmas.{UpTo, last_up_to, tells_head}
use Rattle.mt_tree.proofs.SeenLemmas.{among_map, seen-border, seen-interior}
use Rattle.mt_steps.specs.Reader.{counters_of, same_counters}
use Rattle.mt_steps.specs.World.{is_locked}
use Rattle.mt_steps.specs.declared.reader.Counters.{Counters}
use Rattle.mt_steps.proofs.StandLemmas.{or_false}

-- the border of the number is this one, and these are its counters
pub record IsNow (a : ArenaView) (number : ℕ) (counters : Counters) (b : BorderView) : Type 0 where
  pub named : border_at a.nodes number ≡ Some b
  pub counted : counters_of b.version ≡ counters

-- ---- heads and interior nodes
-- a visit leads to another node
abbrev pub VisitMoves : ArenaView → ℕ → Visit → Type 0
VisitMoves a number (VisitTo next) = Moves (arena_seen a) number next.0
VisitMoves a number _ = ⊥

pub head_moves : (a : ArenaView) (number : ℕ) (h : HeadView) → node_at a.nodes number ≡ Some (HeadNode h) → IsNode (HeadNode h) → h.version.deleted ≡ false → VisitMoves a number (visit_head h)
head_moves a number h named sound alive = go h.version.deleted alive (tells_head a number [] h (ap (option_and_then head_of) named) sound)
  where
    go : (deleted : Bool) → deleted ≡ false → TellsVisit a number [] (if deleted then VisitAgain else VisitTo h.root) → VisitMoves a number (if deleted then VisitAgain else VisitTo h.root)
    go true is tells = absurd (let clash : true ≡ false = is in cc)
    go false is tells = tells

pub interior_moves : (a : ArenaView) (number slice : ℕ) (i : InteriorView) → node_at a.nodes number ≡ Some (InteriorNode i) → IsNode (InteriorNode i) → i.version.deleted ≡ false → (0 < length i.children) × (i.low ≤ slice)
    → VisitMoves a number (visit_interior slice i)
interior_moves a number slice i named sound alive (some, low) = go i.version.deleted alive (slice_get i.children (children_up_to slice i.children - 1)) up.is
  where
    up : UpTo i slice
    up = last_up_to i slice sound some low

    move : Moves (arena_seen a) number up.child.node.0
    move = move_to_child (interior_seen i) (child_seen up.child) (seen-interior a number i (ap (option_and_then interior_of) named)) alive sound.most (omega (arith, sound.low_fits)) (among_map child_seen up.child i.children up.among) refl

    go : (deleted : Bool) → deleted ≡ false → (child : Option Child) → child ≡ Some up.child → VisitMoves a number (if deleted then VisitAgain else to_child child)
    go true is child there = absurd (let clash : true ≡ false = is in cc)
    go false is None there = absurd (let clash : ◌≡◌ {A = Option Child} None (Some up.child) = there in cc)
    go false is (Some child) there = let same : child ≡ up.child = cc in subst (λ (x : Child). Moves (arena_seen a) number x.node.0) (sym same) move

-- ---- a border that nobody has locked
pub never : {x : Bool} {P : Type 0} → x ≡ false → x ≡ true → P
never off on = absurd (let clash : false ≡ true = sym off ∙ on in cc)

-- it has no flag
pub unflagged : (b : BorderView) → IsBorder b → b.version.locked ≡ false → is_flagged b.version ≡ false
unflagged b sound unlocked = go (is_flagged b.version) refl
  where
    go : (set : Bool) → is_flagged b.version ≡ set → set ≡ false
    go true is = never unlocked (sound.flags is)
    go false is = refl

-- its counters are those that were noted
pub counters_same : (one other : Counters) → one ≡ other → same_counters one other ≡ true
counters_same one other same = λ i. eq-eqb one.inserts other.inserts (ap (λ (c : Counters). c.inserts) same) i && eq-eqb one.splits other.splits (ap (λ (c : Counters). c.splits) same) i

-- of none of its keys a layer is being made
pub never_unstable : (content : Content) → Unstable ≡ content_mark content → ⊥
never_unstable (Short bytes row) is = absurd (cc)
never_unstable (Long suffix row) is = absurd (cc)
never_unstable (Link head) is = absurd (cc)

-- all of it is written: the key that is read in a slot is that of what the slot holds
pub key_of_unlocked : (b : BorderView) (number : ℕ) → IsBorder b → b.version.locked ≡ false → key_at b number ≡ entry_key (slot_at b number).entry
key_of_unlocked b number sound unlocked = ap (λ (u : Unwritten). key_in u (next_number b.order) number (entry_key (slot_at b number).entry)) (unlocked_written b sound unlocked)

-- and so is its order
pub order_unlocked : (b : BorderView) → IsBorder b → b.version.locked ≡ false → order_shown b ≡ b.order
order_unlocked b sound unlocked = ap (λ (u : Unwritten). order_in u b.order) (unlocked_written b sound unlocked)

module _ (a : ArenaView) (number : ℕ) (b : BorderView) (named : border_at a.nodes number ≡ Some b) (sound : IsBorder b) (alive : b.version.deleted ≡ false) where
  -- it leads to its right neighbour, and through its links
  pub right_moves : (right : RightLink) → b.right ≡ Some right → Moves (arena_seen a) number right.node.0
  right_moves right is = move_to_right (border_seen b) (right_seen right) (seen-border a number b named) alive (ap (option_map right_seen) is) refl

  pub right_seen_moves : (right : Right) (next : ℕ) → option_map right_seen b.right ≡ Some right → right.number ≡ next → Moves (arena_seen a) number next
  right_seen_moves right next is same = move_to_right (border_seen b) right (seen-border a number b named) alive is same

  pub link_moves : (slice next : ℕ) → Among (record { slice = slice; content = link next }) (entries_seen b.live) → Moves (arena_seen a) number next
  link_moves slice next there = to_link (border_seen b) slice next (seen-border a number b named) alive sound.low_fits there refl

-- what the slot at a place of its order holds is live
pub slot_among : (b : BorderView) → IsBorder b → b.version.locked ≡ false → (place : ℕ) → place < length b.order.live → Among (entry_seen (slot_at b (number_at place b.order)).entry) (entries_seen b.live)
slot_among b sound unlocked place within =
    (are_slots b sound.seen).live (number_at place b.order) (number_live b sound place (omega (arith, within, live_count b.live b.unused b.slots b.order sound.seen)))
    (or_false b.version.inserting b.version.splitting (unflagged b sound unlocked)).1

-- a link that is read as the value of such a slot is one of its links
pub link_among : (b : BorderView) → IsBorder b → b.version.locked ≡ false → (place : ℕ) → place < length b.order.live → (head : NodeNo) → (slot_at b (number_at place b.order)).entry.content ≡ Link head
    → Among (record { slice = (slot_at b (number_at place b.order)).entry.slice; content = link head.0 }) (entries_seen b.live)
link_among b sound unlocked place within head is =
    subst (λ (c : Content). Among (record { slice = (slot_at b (number_at place b.order)).entry.slice; content = content_seen c }) (entries_seen b.live)) is (slot_among b sound unlocked place within)

-- what is so of any node of the number is so of its border
of_border : (test : Node → Bool) (a : ArenaView) (number : ℕ) → ((node : Node) → node_at a.nodes number ≡ Some node → test node ≡ false) → (b : BorderView) → border_at a.nodes number ≡ Some b → test (BorderNode b) ≡ false
of_border test a number each b named = go (node_at a.nodes number) refl named
  where
    go : (node : Option Node) → node_at a.nodes number ≡ node → option_and_then border_of node ≡ Some b → test (BorderNode b) ≡ false
    go None is there = absurd (let clash : ◌≡◌ {A = Option BorderView} None (Some b) = there in cc)
    go (Some (HeadNode h)) is there = absurd (let clash : ◌≡◌ {A = Option BorderView} None (Some b) = there in cc)
    go (Some (InteriorNode i)) is there = absurd (let clash : ◌≡◌ {A = Option BorderView} None (Some b) = there in cc)
    go (Some (BorderNode own)) is there = let same : own ≡ b = cc in ap (λ (x : BorderView). test (BorderNode x)) (sym same) ∙ each (BorderNode own) is

-- a border that is not marked deleted
pub border_alive : (a : ArenaView) (number : ℕ) → ((node : Node) → node_at a.nodes number ≡ Some node → is_marked node ≡ false) → (b : BorderView) → border_at a.nodes number ≡ Some b → b.version.deleted ≡ false
border_alive a number alive b named = of_border is_marked a number alive b named

-- and is not locked
pub border_unlocked : (a : ArenaView) (number : ℕ) → ((node : Node) → node_at a.nodes number ≡ Some node → is_locked node ≡ false) → (b : BorderView) → border_at a.nodes number ≡ Some b → b.version.locked ≡ false
border_unlocked a number unlocked b named = of_border is_locked a number unlocked b named

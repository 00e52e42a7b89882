-- What others' steps leave of a put or remove, and what it owns.
use Rattle.std.proofs.Common.{ℕ, ◌≡◌, inl, inr, List, [], ◌∷◌, Option, Some, None, IsSome, Bool, true, false, refl, sym, ap, subst, ◌∙◌}
use Rattle.std.specs.Option.{option_map, option_and_then}
use Rattle.mt_types.specs.declared.numbers.NodeNo.{NodeNo}
use Rattle.mt_border.specs.Border.{BorderView}
use Rattle.mt_arena.specs.Node.{head_of, border_at, border_of}
use Rattle.mt_arena.specs.Arena.{ArenaView}
use Rattle.mt_arena.specs.declared.node.Node.{Node}
use Rattle.mt_arena.proofs.NodeLemmas.{node-from_head, node-from_border}
use Rattle.mt_chart.specs.Tree.{Arena, Among, first, later}
use Rattle.mt_chart.specs.Chart.{Spot, Evolves}
use Rattle.mt_chart.proofs.HeldNodes.{holds_kept}
use Rattle.mt_tree.specs.Seen.{arena_seen, node_seen}
use Rattle.mt_steps.specs.declared.way.Way.{Way}
use Rattle.mt_steps.specs.declared.entering.Entering.{Entering}
use Rattle.mt_write.specs.declared.writing.Write.{Write}
use Rattle.mt_write.specs.declared.writing.Edit.{Edit}
use Rattle.mt_write.specs.declared.writing.Stage.{Stage}
use Rattle.mt_write.specs.declared.writing.Stage.TheVariants.{Seeks, Enters, Rightward, Searched, Copies, GivesBack, Spared, HalfFilled, HalfLinked, Halved, Posts, LayerSpared, LayerFilled, LayerReady, LayerMarked, LayerLinked, Layered, Reserved, KeyWritten, Filled, Made, Taken, Stored, Hidden, Forgets, Failed}
use Rattle.mt_write.specs.declared.writing.Halves.{Halves}
use Rattle.mt_write.specs.declared.writing.Layer.{Layer}
use Rattle.mt_chart.proofs.Basics.{same_number}
use Rattle.mt_steps.specs.World.{World, IsLocked, IsTaken, IsSame}
use Rattle.mt_steps.specs.Way.{IsOnWay, prefix_of}
use Rattle.mt_chart.specs.Chart.{top}
use Rattle.mt_chart.proofs.Walk.{known_kept}
use Rattle.mt_post.proofs.PostingLasts.{posting_stays, posting_taken}
use Rattle.mt_write.specs.Held.{stage_held, owned, layer_owned, write_held}
use Rattle.mt_write.specs.Writing.{StageIsTrue, IsLockedAt, IsOwnedAt, HasLocked, HasOthers, AreHalves, HasLayer, HasLink, IsSpare, way_below, way_right, WriteIsTrue, Tells, HasMarkedLink, HasHidden, FirstHeld, IsInserting}
use Rattle.mt_write.specs.Splitting.{IsHalfLinked}
use Rattle.mt_types.specs.declared.refusal.Refusal.{Refusal}
use Rattle.mt_types.specs.declared.refusal.Refusal.TheVariants.{OtherVersion}
use Rattle.mt_steps.specs.World.{IsLockedBorder}

-- ---- what others' steps leave
module _ (a after : ArenaView) (w next : World) where
  -- a number that is left as it is names the same border
  same_border : (number : ℕ) (b : BorderView) → IsSame a after w next number → border_at a.nodes number ≡ Some b → border_at after.nodes number ≡ Some b
  same_border number b same named = ap (option_and_then border_of) same.node ∙ named

  pub way_stays : (begun : ℕ) (key : List ℕ) (way : Way) → Evolves begun w.chart next.chart → IsOnWay begun key way w → IsOnWay begun key way next
  way_stays begun key way evolves stands = record { layer = stands.layer; held = holds_kept begun way.node.0 _ _ w.chart next.chart evolves stands.held }

  pub locked_at_stays : (key : List ℕ) (way : Way) (b : BorderView) → IsSame a after w next way.node.0 → IsLockedAt a key way b w → IsLockedAt after key way b next
  locked_at_stays key way b same at = record {
    layer = at.layer;
    named = same_border way.node.0 b same at.named;
    stands = record {
      stands = record {
        posted = at.stands.stands.posted;
        place = same.spot ∙ at.stands.stands.place;
        node = ap (option_map node_seen) same.node ∙ at.stands.stands.node;
      };
      from_low = at.stands.from_low;
      to_right = at.stands.to_right;
    };
    alive = at.alive;
    last = at.last;
    locked = at.locked;
    written = at.written;
    free = λ i. at.free (same.closing i);
  }

  owned_at_stays : (key : List ℕ) (way : Way) (b : BorderView) → IsSame a after w next way.node.0 → IsOwnedAt a key way b w → IsOwnedAt after key way b next
  owned_at_stays key way b same at = record {
    layer = at.layer;
    named = same_border way.node.0 b same at.named;
    stands = record {
      stands = record {
        posted = at.stands.stands.posted;
        place = same.spot ∙ at.stands.stands.place;
        node = ap (option_map node_seen) same.node ∙ at.stands.stands.node;
      };
      from_low = at.stands.from_low;
      to_right = at.stands.to_right;
    };
    alive = at.alive;
    last = at.last;
    locked = at.locked;
    free = λ i. at.free (same.closing i);
  }

  locked_stays : (number : ℕ) → IsSame a after w next number → IsLockedBorder a w number → IsLockedBorder after next number
  locked_stays number same at = record { b = at.b; named = same_border number at.b same at.named; known = subst (λ (x : Option Spot). IsSome x) (sym same.spot) at.known; locked = at.locked; alive = at.alive; written = at.written; free = λ i. at.free (same.closing i) }

  hidden_stays : (Still : BorderView → Type 0) (number : ℕ) → IsSame a after w next number → HasHidden Still a w number → HasHidden Still after next number
  hidden_stays Still number same h = record { b = h.b; named = same_border number h.b same h.named; known = subst (λ (x : Option Spot). IsSome x) (sym same.spot) h.known; locked = h.locked; alive = h.alive; written = h.written; free = λ i. h.free (same.closing i); sound = h.sound; room = h.room; still = h.still }

  spare_stays : (number : ℕ) (b : BorderView) → IsSame a after w next number → IsSpare a w number b → IsSpare after next number b
  spare_stays number b same s = record { named = same_border number b same s.named; unknown = same.spot ∙ s.unknown; locked = s.locked; free = λ i. s.free (same.closing i) }

  layer_stays : (layer : Layer) (locked : Bool) (root : BorderView) → IsSame a after w next layer.head.0 → IsSame a after w next layer.root.0 → HasLayer a w layer locked root → HasLayer after next layer locked root
  layer_stays layer locked root head_same root_same has = record {
    head = ap (option_and_then head_of) head_same.node ∙ has.head;
    is_root = same_border layer.root.0 root root_same has.is_root;
    head_unknown = head_same.spot ∙ has.head_unknown;
    root_unknown = root_same.spot ∙ has.root_unknown;
  }

  link_stays : (prefix : List ℕ) (number : ℕ) (head : NodeNo) → IsSame a after w next number → HasLink prefix a w number head → HasLink prefix after next number head
  unfolding locked_stays
  link_stays prefix number head same has = record {
    border = locked_stays number same has.border;
    stands = record { low = has.stands.low; posted = has.stands.posted; place = same.spot ∙ has.stands.place };
    slice = has.slice;
    linked = has.linked;
  }

  marked_link_stays : (prefix : List ℕ) (number : ℕ) (head : NodeNo) → IsSame a after w next number → HasMarkedLink prefix a w number head → HasMarkedLink prefix after next number head
  marked_link_stays prefix number head same has = record {
    b = has.b;
    named = same_border number has.b same has.named;
    stands = record { low = has.stands.low; posted = has.stands.posted; place = same.spot ∙ has.stands.place };
    locked = has.locked;
    alive = has.alive;
    free = λ i. has.free (same.closing i);
    unmarked = has.unmarked;
    slice = has.slice;
    linked = has.linked;
  }

  half_linked_stays : (key : List ℕ) (way : Way) (half : NodeNo) (cut place : ℕ) → IsSame a after w next way.node.0 → IsSame a after w next half.0 → IsHalfLinked a w key way half cut place → IsHalfLinked after next key way half cut place
  half_linked_stays key way half cut place same same_half h = record {
    layer = h.layer;
    b = h.b;
    named = same_border way.node.0 h.b same h.named;
    upper = h.upper;
    filled = same_border half.0 h.upper same_half h.filled;
    posted = h.posted;
    charted = same.spot ∙ h.charted;
    halves = record {
      apart = h.halves.apart;
      low = h.halves.low;
      place = same_half.spot ∙ h.halves.place;
      low_is = λ b is. h.halves.low_is b (ap (option_and_then border_of) (sym same_half.node) ∙ is);
    };
    right = h.right;
    from_low = h.from_low;
    to_right = h.to_right;
    locked = h.locked;
    alive = h.alive;
    free = λ i. h.free (same.closing i);
    upper_locked = h.upper_locked;
    upper_alive = h.upper_alive;
    upper_written = h.upper_written;
    upper_free = λ i. h.upper_free (same_half.closing i);
    lower_half = h.lower_half;
    upper_half = h.upper_half;
    shown = h.shown;
    uncut = h.uncut;
    moved = h.moved;
  }

  halves_stay : (prefix : List ℕ) (split : Option Halves) → ((half : Halves) → split ≡ Some half → IsSame a after w next half.half.0) → AreHalves prefix a w split → AreHalves prefix after next split
  halves_stay prefix None same halves = tt
  halves_stay prefix (Some split) same halves = record {
    apart = halves.apart;
    low = halves.low;
    place = (same split refl).spot ∙ halves.place;
    low_is = λ b is. halves.low_is b (ap (option_and_then border_of) (sym (same split refl).node) ∙ is);
  }

  alone_owned : (number : ℕ) (split : Option Halves) → split ≡ None → Among number (owned number split)
  alone_owned number split none = subst (λ (s : Option Halves). Among number (owned number s)) (sym none) first

  half_owned : (number : ℕ) (split : Option Halves) (half : Halves) → split ≡ Some half → Among half.half.0 (owned number split)
  half_owned number split half is = subst (λ (s : Option Halves). Among half.half.0 (owned number s)) (sym is) first

  has_locked_stays : (prefix : List ℕ) (number : ℕ) (split : Option Halves) → ((other : ℕ) → Among other (owned number split) → IsSame a after w next other) → HasLocked prefix a w number split → HasLocked prefix after next number split
  has_locked_stays prefix number split same has = record {
    locked = λ other i. locked_stays other (same other i) (has.locked other i);
    own = has.own;
    halves = halves_stay prefix split (λ half is. same half.half.0 (half_owned number split half is)) has.halves;
  }

  has_others_stays : (prefix : List ℕ) (number : ℕ) (split : Option Halves) → ((other : ℕ) → Among other (owned number split) → IsSame a after w next other) → HasOthers prefix a w number split → HasOthers prefix after next number split
  has_others_stays prefix number split same has = record {
    locked = λ other i differ. locked_stays other (same other i) (has.locked other i differ);
    own = has.own;
    halves = halves_stay prefix split (λ half is. same half.half.0 (half_owned number split half is)) has.halves;
  }

  module _ (C begun moves : ℕ) (past : List Arena) (evolves : Evolves begun w.chart next.chart) where
    tells_stays : (key : List ℕ) (way : Way) (refusal : Refusal) (split : Option Halves) → (split ≡ None → IsSame a after w next way.node.0) → Tells a w key way refusal split → Tells after next key way refusal split
    tells_stays key way (OtherVersion found) None same tells = record { b = tells.b; at = locked_at_stays key way tells.b (same refl) tells.at; bytes = tells.bytes; sound = tells.sound; is = tells.is }
    tells_stays key way (OtherVersion found) (Some split) same tells = tells
    tells_stays key way _ split same tells = tells

    enters_stays : (key : List ℕ) (edit : Edit) (way : Way) (entering : Entering) → IsSame a after w next way.node.0 → StageIsTrue C key edit way (Enters entering) begun a w → StageIsTrue C key edit way (Enters entering) begun after next
    unfolding locked_stays
    enters_stays key edit way entering same truth = (locked_stays way.node.0 same truth.0, way_stays begun key way evolves truth.1, truth.2)

    stage_stays : (key : List ℕ) (edit : Edit) (way : Way) (stage : Stage) → ((number : ℕ) → Among number (stage_held way.node.0 stage).owns → IsSame a after w next number) → StageIsTrue C key edit way stage begun a w → StageIsTrue C key edit way stage begun after next
    stage_stays key edit way Seeks same truth = way_stays begun key way evolves truth
    stage_stays key edit way (Enters entering) same truth = enters_stays key edit way entering (same way.node.0 first) truth
    stage_stays key edit way (Rightward next) same truth = (locked_stays way.node.0 (same way.node.0 first) truth.0, way_stays begun key (way_right way next) evolves truth.1)
    stage_stays key edit way (Searched there) same truth = let (b, at, found) = truth in (b, locked_at_stays key way b (same way.node.0 first) at, found)
    stage_stays key edit way (Copies half cut place outline entries) same truth = let (b, at, f, c, s, r, e, p) = truth in (b, locked_at_stays key way b (same way.node.0 (later first)) at, f, c, spare_stays half.0 _ (same half.0 first) s, r, e, p)
    stage_stays key edit way (GivesBack half) same truth = (locked_stays way.node.0 (same way.node.0 (later first)) truth.0, truth.1, spare_stays half.0 _ (same half.0 first) truth.2)
    stage_stays key edit way (Spared half cut place right entries) same truth = let (b, at, f, c, s, e, p, noted) = truth in (b, locked_at_stays key way b (same way.node.0 (later first)) at, f, c, spare_stays half.0 _ (same half.0 first) s, e, p, noted)
    stage_stays key edit way (HalfFilled half cut place) same truth = let (b, at, f, c, s, p) = truth in (b, locked_at_stays key way b (same way.node.0 (later first)) at, f, c, spare_stays half.0 _ (same half.0 first) s, p)
    stage_stays key edit way (HalfLinked half cut place) same truth = (half_linked_stays key way half cut place (same way.node.0 (later first)) (same half.0 first) truth.0, truth.1)
    stage_stays key edit way (Halved split place) same truth = let (b, at, h, has, p) = truth in (b, locked_at_stays key way b (same way.node.0 has.own) at, h, has_locked_stays (prefix_of key way) way.node.0 (Some split) same has, p)
    stage_stays key edit way (LayerSpared layer entries) same truth = let (b, at, f) = truth in (b, locked_at_stays key way b (same way.node.0 (later (later first))) at, record { number = f.number; at = f.at; has = layer_stays layer true _ (same layer.head.0 first) (same layer.root.0 (later first)) f.has; moved = f.moved; whole = f.whole })
    stage_stays key edit way (LayerFilled layer) same truth = let (b, at, f) = truth in (b, locked_at_stays key way b (same way.node.0 (later (later first))) at, record { number = f.number; at = f.at; has = layer_stays layer true _ (same layer.head.0 first) (same layer.root.0 (later first)) f.has })
    stage_stays key edit way (LayerReady layer) same truth = let (b, at, f) = truth in (b, locked_at_stays key way b (same way.node.0 (later (later first))) at, record { number = f.number; at = f.at; has = layer_stays layer false _ (same layer.head.0 first) (same layer.root.0 (later first)) f.has })
    stage_stays key edit way (LayerMarked layer) same truth = let (b, at, f, u) = truth in (b, owned_at_stays key way b (same way.node.0 (later (later first))) at, record { number = f.number; at = f.at; has = layer_stays layer false _ (same layer.head.0 first) (same layer.root.0 (later first)) f.has }, u)
    stage_stays key edit way (LayerLinked head) same truth = (marked_link_stays (prefix_of key way) way.node.0 head (same way.node.0 first) truth.0, way_stays begun key (way_below way head) evolves truth.1, known_kept begun head.0 top (prefix_of key (way_below way head)) 0 w.chart next.chart evolves truth.2)
    stage_stays key edit way (Layered head) same truth = (link_stays (prefix_of key way) way.node.0 head (same way.node.0 first) truth.0, way_stays begun key (way_below way head) evolves truth.1, known_kept begun head.0 top (prefix_of key (way_below way head)) 0 w.chart next.chart evolves truth.2)
    stage_stays key edit way (Reserved new slot_key row) same truth = let (b, at, p, f, k, has) = truth in (b, locked_at_stays key way b (same way.node.0 has.own) at, p, f, k, has_locked_stays (prefix_of key way) way.node.0 new.split same has)
    stage_stays key edit way (KeyWritten new row) same truth = let (b, at, p, f, k, has) = truth in (b, owned_at_stays key way b (same way.node.0 has.own) at, p, f, k, has_others_stays (prefix_of key way) way.node.0 new.split same has)
    stage_stays key edit way (Filled place stored logged split) same truth = let (b, at, p, f, has) = truth in (b, locked_at_stays key way b (same way.node.0 has.own) at, p, f, has_locked_stays (prefix_of key way) way.node.0 split same has)
    stage_stays key edit way (Made place stored columns logged) same truth = let (b, at, p, f) = truth in (b, locked_at_stays key way b (same way.node.0 first) at, p, f)
    stage_stays key edit way (Taken place stored before) same truth = let (b, at, f) = truth in (b, locked_at_stays key way b (same way.node.0 first) at, f)
    stage_stays key edit way (Posts posting ending) same truth = (posting_stays a after w next begun evolves posting same truth.0, truth.1, truth.2)
    stage_stays key edit way (Stored number split) same truth = has_locked_stays (prefix_of key way) way.node.0 split same truth
    stage_stays key edit way (Hidden number) same truth = hidden_stays FirstHeld way.node.0 (same way.node.0 first) truth
    stage_stays key edit way (Forgets number) same truth = hidden_stays IsInserting way.node.0 (same way.node.0 first) truth
    stage_stays key edit way (Failed refusal split) same truth = (has_locked_stays (prefix_of key way) way.node.0 split same truth.0, truth.1, tells_stays key way refusal split (λ none. same way.node.0 (alone_owned way.node.0 split none)) truth.2)

    -- the law of others' steps: if they don't change what a put or remove owns, what is true of it stays true
    pub write_stays : (write : Write) → ((number : ℕ) → Among number (write_held write).owns → IsSame a after w next number) → WriteIsTrue C write begun moves past a w → WriteIsTrue C write begun moves (arena_seen a ∷ past) after next
    write_stays write same truth = (stage_stays write.key write.edit write.way write.stage same truth.0, known_kept begun write.head.0 top (prefix_of write.key write.way) 0 w.chart next.chart evolves truth.1)

-- ---- what a call owns is taken
border_taken : (a : ArenaView) (w : World) (n number : ℕ) (b : BorderView) → border_at a.nodes n ≡ Some b → b.version.locked ≡ true → Among number (n ∷ []) → IsTaken a w number
border_taken a w n number b named locked first = inl (subst (λ (x : Option Node). IsLocked x) (sym (node-from_border a.nodes n b named)) locked)
border_taken a w n number b named locked (later i) = elim i [ ]

module _ (C begun moves : ℕ) (past : List Arena) (a : ArenaView) (w : World) where
  all_taken : (prefix : List ℕ) (n : ℕ) (split : Option Halves) → HasLocked prefix a w n split → (number : ℕ) → Among number (owned n split) → IsTaken a w number
  all_taken prefix n split has number i = let k = has.locked number i in inl (subst (λ (x : Option Node). IsLocked x) (sym (node-from_border a.nodes number k.b k.named)) k.locked)

  others_taken : (prefix : List ℕ) (way : Way) (split : Option Halves) (b : BorderView) → border_at a.nodes way.node.0 ≡ Some b → b.version.locked ≡ true → HasOthers prefix a w way.node.0 split → (number : ℕ) → Among number (owned way.node.0 split) → IsTaken a w number
  others_taken prefix way split b named locked has number i = elim (same_number number way.node.0) [
    | inl e ↦ subst (λ (m : ℕ). IsTaken a w m) (sym e) (border_taken a w way.node.0 way.node.0 b named locked first)
    | inr differ ↦ (let k = has.locked number i differ in inl (subst (λ (x : Option Node). IsLocked x) (sym (node-from_border a.nodes number k.b k.named)) k.locked))
  ]

  spare_taken : (half n number : ℕ) (u : BorderView) → IsSpare a w half u → (b : BorderView) → border_at a.nodes n ≡ Some b → b.version.locked ≡ true → Among number (half ∷ n ∷ []) → IsTaken a w number
  spare_taken half n number u s b named locked first = inr (inl (subst (λ (x : Option Node). IsSome x) (sym (node-from_border a.nodes half u s.named)) refl, s.unknown))
  spare_taken half n number u s b named locked (later i) = border_taken a w n number b named locked i

  layer_taken : (n number : ℕ) (layer : Layer) (locked : Bool) (root : BorderView) → HasLayer a w layer locked root → (b : BorderView) → border_at a.nodes n ≡ Some b → b.version.locked ≡ true → Among number (layer_owned n layer) → IsTaken a w number
  layer_taken n number layer locked root has b named is_locked first = inr (inl (subst (λ (x : Option Node). IsSome x) (sym (node-from_head a.nodes layer.head.0 _ has.head)) refl, has.head_unknown))
  layer_taken n number layer locked root has b named is_locked (later first) = inr (inl (subst (λ (x : Option Node). IsSome x) (sym (node-from_border a.nodes layer.root.0 root has.is_root)) refl, has.root_unknown))
  layer_taken n number layer locked root has b named is_locked (later (later i)) = border_taken a w n number b named is_locked i

  linked_taken : (key : List ℕ) (way : Way) (half : NodeNo) (cut place : ℕ) → IsHalfLinked a w key way half cut place → (number : ℕ) → Among number (half.0 ∷ way.node.0 ∷ []) → IsTaken a w number
  linked_taken key way half cut place h number first = border_taken a w half.0 half.0 h.upper h.filled h.upper_locked first
  linked_taken key way half cut place h number (later i) = border_taken a w way.node.0 number h.b h.named h.locked i

  stage_taken : (key : List ℕ) (edit : Edit) (way : Way) (stage : Stage) → StageIsTrue C key edit way stage begun a w → (number : ℕ) → Among number (stage_held way.node.0 stage).owns → IsTaken a w number
  stage_taken key edit way Seeks truth number i = elim i [ ]
  stage_taken key edit way (Enters entering) truth number i = border_taken a w way.node.0 number truth.0.b truth.0.named truth.0.locked i
  stage_taken key edit way (Rightward next) truth number i = border_taken a w way.node.0 number truth.0.b truth.0.named truth.0.locked i
  stage_taken key edit way (Searched there) truth number i = let (b, at, found) = truth in border_taken a w way.node.0 number b at.named at.locked i
  stage_taken key edit way (Copies half cut place outline entries) truth number i = let (b, at, f, c, s, r, e, p) = truth in spare_taken half.0 way.node.0 number _ s b at.named at.locked i
  stage_taken key edit way (GivesBack half) truth number i = spare_taken half.0 way.node.0 number _ truth.2 truth.0.b truth.0.named truth.0.locked i
  stage_taken key edit way (Spared half cut place right entries) truth number i = let (b, at, f, c, s, e, p, noted) = truth in spare_taken half.0 way.node.0 number _ s b at.named at.locked i
  stage_taken key edit way (HalfFilled half cut place) truth number i = let (b, at, f, c, s, p) = truth in spare_taken half.0 way.node.0 number _ s b at.named at.locked i
  stage_taken key edit way (HalfLinked half cut place) truth number i = let (h, p) = truth in linked_taken key way half cut place h number i
  stage_taken key edit way (Halved split place) truth number i = let (b, at, h, has, p) = truth in all_taken (prefix_of key way) way.node.0 (Some split) has number i
  stage_taken key edit way (LayerSpared layer entries) truth number i = let (b, at, f) = truth in layer_taken way.node.0 number layer true _ f.has b at.named at.locked i
  stage_taken key edit way (LayerFilled layer) truth number i = let (b, at, f) = truth in layer_taken way.node.0 number layer true _ f.has b at.named at.locked i
  stage_taken key edit way (LayerReady layer) truth number i = let (b, at, f) = truth in layer_taken way.node.0 number layer false _ f.has b at.named at.locked i
  stage_taken key edit way (LayerMarked layer) truth number i = let (b, at, f, u) = truth in layer_taken way.node.0 number layer false _ f.has b at.named at.locked i
  stage_taken key edit way (LayerLinked head) truth number i = border_taken a w way.node.0 number truth.0.b truth.0.named truth.0.locked i
  stage_taken key edit way (Layered head) truth number i = border_taken a w way.node.0 number truth.0.border.b truth.0.border.named truth.0.border.locked i
  stage_taken key edit way (Reserved new slot_key row) truth number i = let (b, at, p, f, k, has) = truth in all_taken (prefix_of key way) way.node.0 new.split has number i
  stage_taken key edit way (KeyWritten new row) truth number i = let (b, at, p, f, k, has) = truth in others_taken (prefix_of key way) way new.split b at.named at.locked has number i
  stage_taken key edit way (Filled place stored logged split) truth number i = let (b, at, p, f, has) = truth in all_taken (prefix_of key way) way.node.0 split has number i
  stage_taken key edit way (Made place stored columns logged) truth number i = let (b, at, p, f) = truth in border_taken a w way.node.0 number b at.named at.locked i
  stage_taken key edit way (Taken place stored before) truth number i = let (b, at, f) = truth in border_taken a w way.node.0 number b at.named at.locked i
  stage_taken key edit way (Posts posting ending) truth number i = posting_taken a w begun posting truth.0 number i
  stage_taken key edit way (Stored commit split) truth number i = all_taken (prefix_of key way) way.node.0 split truth number i
  stage_taken key edit way (Hidden commit) truth number i = border_taken a w way.node.0 number truth.b truth.named truth.locked i
  stage_taken key edit way (Forgets commit) truth number i = border_taken a w way.node.0 number truth.b truth.named truth.locked i
  stage_taken key edit way (Failed refusal split) truth number i = all_taken (prefix_of key way) way.node.0 split truth.0 number i

  pub write_taken : (write : Write) → WriteIsTrue C write begun moves past a w → (number : ℕ) → Among number (write_held write).owns → IsTaken a w number
  write_taken write truth number i = stage_taken write.key write.edit write.way write.stage truth.0 number i

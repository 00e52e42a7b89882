-- What each change of a border leaves of its slots to a reader who noted them while the border was quiet.
use Rattle.std.proofs.Common.{ℕ, zero, suc, ◌≡◌, ◌≢◌, ◌<◌, ◌+◌, inl, inr, List, [], ◌∷◌, ◌++◌, length, take, drop, get_or, Option, Some, None, IsSome, Bool, true, false, ◌||◌, refl, ap, sym, subst, ◌∙◌, arith}
use Rattle.std.specs.List.{list_any}
use Rattle.std.specs.Option.{option_map}
use Rattle.std.specs.Prelude.{nat_eq}
use Rattle.std.proofs.lemmas.List.{get_or-map, drop_more, drop-drop, take-append-drop}
use Rattle.std.proofs.lemmas.List.Folds.{list_any-append}
use Rattle.mt_slice.specs.Place.{Place, deeper, first_slice, place_of}
use Rattle.mt_types.specs.declared.row.Row.{Row}
use Rattle.mt_types.specs.declared.numbers.NodeNo.{NodeNo}
use Rattle.mt_word.specs.Version.{number_of}
use Rattle.mt_border.specs.Entry.{entry_suffix, content_with_row, no_row, with_row, with_link}
use Rattle.mt_border.specs.Table.{blank_slot, picked, number_at, next_number, slot_changed, with_entry, filled}
use Rattle.mt_border.specs.Border.{BorderView, first_held, first_suffix, suffix_at, inserting_version, with_locked, with_unlocked, with_deleted, with_inserting, with_key, with_filled, with_shown, with_hidden, with_forgotten, with_value, with_unstable, with_link_at, with_splitting, with_half_linked, with_written, with_right}
use Rattle.mt_border.specs.Keys.{entry_key, key_seen}
use Rattle.mt_border.specs.Order.{IsBorder, AwaitsValue}
use Rattle.mt_border.proofs.BorderLemmas.{awaits}
use Rattle.mt_border.specs.Slots.{slot_at, is_live, held_at}
use Rattle.mt_border.proofs.TableLemmas.{length-picked, picked_at}
use Rattle.mt_border.proofs.SlotLemmas.{live_count, seen_filled, seen_next_changed, seen_hidden, seen_changed, seen_split, seen_shown}
use Rattle.mt_border.proofs.ChangeLemmas.{changed_there, changed_elsewhere, first_held_is_next, shown_other, shown_lives_other, number_within, number_live}
use Rattle.mt_border.proofs.FieldLemmas.{live_entry_in}
use Rattle.mt_border.specs.declared.entry.Content.{Content}
use Rattle.mt_border.specs.declared.entry.Content.TheVariants.{Short, Long, Link}
use Rattle.mt_border.specs.declared.entry.Entry.{Entry}
use Rattle.mt_border.specs.declared.entry.RightLink.{RightLink}
use Rattle.mt_border.specs.declared.slot_table.Slot.{Slot}
use Rattle.mt_border.specs.declared.unwritten.SlotKey.{SlotKey}
use Rattle.mt_border.specs.declared.unwritten.Unwritten.TheVariants.{Nothing, Value, LinkAt}
use Rattle.mt_chart.specs.Tree.{Among, first, later, Below, no_right, before_right}
use Rattle.mt_chart.proofs.Basics.{same_number}
use Rattle.mt_chart.specs.Noted.{SlotSeen, FieldsSeen, AreSlots, IsSameKey, KeepsSlot, StaysQuiet, Ages}
use Rattle.mt_tree.specs.Seen.{entry_seen, entries_seen, right_seen}
use Rattle.mt_tree.specs.BorderSteps.{MayForget}
use Rattle.mt_tree.specs.Fields.{slot_seen, fields_seen, HasSlots, BorderChanges}
use Rattle.mt_tree.proofs.OneFieldLemmas.{one_version, one_right, one_same, one_keyed, one_filled, one_shown, one_hidden, one_forgotten, one_half_linked, one_unstable, one_written, one_value, one_link}

-- ---- what is live stands in the border
among_seen : (entries : List Entry) (entry : Entry) (i : ℕ) → i < length entries → get_or entries i entry ≡ entry → Among (entry_seen entry) (entries_seen entries)
among_seen [] entry i within e = absurd (omega (arith, within))
among_seen (x ∷ xs) entry zero within e = subst (λ (y : Entry). Among (entry_seen y) (entries_seen (x ∷ xs))) e first
among_seen (x ∷ xs) entry (suc i) within e = later (among_seen xs entry i (omega (arith, within)) e)

pub are_slots : (b : BorderView) → HasSlots b → AreSlots (fields_seen b)
are_slots b seen = record { live = λ k lives whole. let there = live_entry_in b k seen lives in among_seen b.live (slot_at b k).entry there.0 there.1 there.2 }

-- ---- one slot
pub same_key : (s : SlotSeen) → IsSameKey s s
same_key s = record { slice = refl; class = refl; plain = λ p. (p, λ place row holds. (row, holds)); rows = λ place row holds. inl (row, holds); links = λ number is. is }

-- a slot that holds what it held is live only if it was
keeps_same : (was now : SlotSeen) (lived lives : Bool) → now ≡ was → (lives ≡ true → lived ≡ true) → KeepsSlot was now lived lives
keeps_same was now lived true same less = (less refl, subst (λ (s : SlotSeen). IsSameKey was s) (sym same) (same_key was))
keeps_same was now lived false same less = same

-- ---- a border whose flags and counters stay
still : (f g : FieldsSeen) → g.inserting ≡ f.inserting → g.splitting ≡ f.splitting → g.vinsert ≡ f.vinsert → g.vsplit ≡ f.vsplit → (f.node.deleted ≡ true → g.node.deleted ≡ true) → StaysQuiet f g → Ages f g
still f g inserting splitting vinsert vsplit deleted stays = record {
  inserts = omega (arith, vinsert);
  splits = omega (arith, vsplit);
  inserted = λ set not. let clash : true ≡ false = sym set ∙ (sym inserting ∙ not) in absurd (cc);
  split = λ set not. let clash : true ≡ false = sym set ∙ (sym splitting ∙ not) in absurd (cc);
  deleted = deleted;
  quiet = λ v q r. stays;
}

-- what held a key is as it was, and is live only if it was
beside : (f g : FieldsSeen) → ((k : ℕ) → f.held k ≡ true → g.held k ≡ true) → ((k : ℕ) → f.held k ≡ true → g.slot k ≡ f.slot k) → ((k : ℕ) → f.held k ≡ true → g.lives k ≡ true → f.lives k ≡ true) → ((slice : ℕ) → Below slice f.node.right → Below slice g.node.right) → StaysQuiet f g
beside f g held slots lives right = record { held = held; slots = λ k h. keeps_same (f.slot k) (g.slot k) (f.lives k) (g.lives k) (slots k h) (lives k h); right = right }

-- NOTHING CHANGES
fields_same : (f : FieldsSeen) → Ages f f
fields_same f = still f f refl refl refl refl (λ d. d) (beside f f (λ k h. h) (λ k h. refl) (λ k h l. l) (λ slice below. below))

-- THE LOCK IS TAKEN
fields_locked : (b : BorderView) → Ages (fields_seen b) (fields_seen (with_locked b))
fields_locked b = still (fields_seen b) (fields_seen (with_locked b)) refl refl refl refl (λ d. d) (beside (fields_seen b) (fields_seen (with_locked b)) (λ k h. h) (λ k h. refl) (λ k h l. l) (λ slice below. below))

-- THE LOCK IS GIVEN BACK: the counter of each flag that was set is raised
fields_unlocked : (b : BorderView) → Ages (fields_seen b) (fields_seen (with_unlocked b))
fields_unlocked b = record {
  inserts = omega arith;
  splits = omega arith;
  inserted = λ set not. let one : number_of b.version.inserting ≡ 1 = ap number_of set in omega (arith, one);
  split = λ set not. let one : number_of b.version.splitting ≡ 1 = ap number_of set in omega (arith, one);
  deleted = λ d. d;
  quiet = λ v q r. beside (fields_seen b) (fields_seen (with_unlocked b)) (λ k h. h) (λ k h. refl) (λ k h l. l) (λ slice below. below);
}

-- THE BORDER IS MARKED DELETED
fields_deleted : (b : BorderView) → Ages (fields_seen b) (fields_seen (with_deleted b))
fields_deleted b = still (fields_seen b) (fields_seen (with_deleted b)) refl refl refl refl (λ d. refl) (beside (fields_seen b) (fields_seen (with_deleted b)) (λ k h. h) (λ k h. refl) (λ k h l. l) (λ slice below. below))

-- another right link takes nothing from the border's interval
abbrev pub NotLower : Option RightLink → Option RightLink → Type 0
NotLower old new = (slice : ℕ) → Below slice (option_map right_seen old) → Below slice (option_map right_seen new)

-- a link whose low is above the old one's does not, and none does not
pub not_lower : (old : RightLink) (new : Option RightLink) → ((link : RightLink) → new ≡ Some link → old.low < link.low) → NotLower (Some old) new
not_lower old None above slice below = no_right
not_lower old (Some link) above slice (before_right less) = let up = above link refl in before_right (omega (arith, less, up))

-- THE RIGHT LINK IS ANOTHER, that is not lower
fields_right : (b : BorderView) (right : Option RightLink) → NotLower b.right right → Ages (fields_seen b) (fields_seen (with_right b right))
fields_right b right up = still (fields_seen b) (fields_seen (with_right b right)) refl refl refl refl (λ d. d) (beside (fields_seen b) (fields_seen (with_right b right)) (λ k h. h) (λ k h. refl) (λ k h l. l) up)

-- ---- the numbers of live slots
or_less : (a b c : Bool) → (b ≡ true → c ≡ true) → (a || b) ≡ true → (a || c) ≡ true
or_less true b c less either = refl
or_less false b c less either = less either

or_right : (a b : Bool) → b ≡ true → (a || b) ≡ true
or_right true b h = refl
or_right false b h = h

any_dropped : (p : ℕ → Bool) (l : List ℕ) → list_any p (drop 1 l) ≡ true → list_any p l ≡ true
any_dropped p [] h = h
any_dropped p (n ∷ l) h = or_right (p n) (list_any p l) h

-- what is live once one is hidden was live
hidden_lives : (live : List ℕ) (place k : ℕ) → list_any (nat_eq k) (take place live ++ drop (place + 1) live) ≡ true → list_any (nat_eq k) live ≡ true
hidden_lives live place k h =
    let p : ℕ → Bool = nat_eq k in
    let rest : list_any p (drop (place + 1) live) ≡ true → list_any p (drop place live) ≡ true = λ found. any_dropped p (drop place live) (ap (λ (l : List ℕ). list_any p l) (drop-drop 1 place live) ∙ found) in
    let either = or_less (list_any p (take place live)) (list_any p (drop (place + 1) live)) (list_any p (drop place live)) rest (sym (list_any-append p (take place live) (drop (place + 1) live)) ∙ h) in
    ap (λ (l : List ℕ). list_any p l) (sym (take-append-drop place live)) ∙ (list_any-append p (take place live) (drop place live) ∙ either)

-- THE BORDER IS MARKED for an insertion, if its first unused slot held a key: then it is not quiet
fields_inserting : (b : BorderView) → Ages (fields_seen b) (fields_seen (with_inserting b))
fields_inserting b = go (first_held b.unused)
  where
    go : (held : Bool) → Ages (fields_seen b) (fields_seen (record b { version = inserting_version held b.version }))
    go false = fields_same (fields_seen b)
    go true = record {
      inserts = omega arith;
      splits = omega arith;
      inserted = λ set not. absurd (cc);
      split = λ set not. let clash : true ≡ false = sym set ∙ not in absurd (cc);
      deleted = λ d. d;
      quiet = λ v q r. let clash : true ≡ false = r.no_insert in absurd (cc);
    }

-- ---- the first unused slot
module _ (b : BorderView) (h : IsBorder b) (room : length b.live < 15) where
  -- what held a key is not the slot that is filled next
  other_held : first_held b.unused ≡ false → (k : ℕ) → held_at b k ≡ true → k ≢ next_number b.order
  other_held not k held e =
      let here : held_at b (next_number b.order) ≡ true = subst (λ (n : ℕ). held_at b n ≡ true) e held in
      let clash : true ≡ false = sym here ∙ (sym (first_held_is_next b h room) ∙ not) in
      cc

  -- THE FIRST UNUSED SLOT IS FILLED, whose key is written: if it held a key, the border is not quiet
  fields_filled : (key : SlotKey) → AwaitsValue b key → (entry : Entry) → Ages (fields_seen b) (fields_seen (with_filled b entry))
  fields_filled key await entry = go (first_held b.unused) refl
    where
      go : (held : Bool) → first_held b.unused ≡ held → Ages (fields_seen b) (fields_seen (with_filled b entry))
      go true was = record {
        inserts = omega arith;
        splits = omega arith;
        inserted = λ set not. let clash : true ≡ false = sym set ∙ not in absurd (cc);
        split = λ set not. let clash : true ≡ false = sym set ∙ not in absurd (cc);
        deleted = λ d. d;
        quiet = λ v q r. let clash : true ≡ false = sym (await.flagged was) ∙ q.no_insert in absurd (cc);
      }
      go false not =
          let same : (k : ℕ) → held_at b k ≡ true → slot_at (with_filled b entry) k ≡ slot_at b k = λ k held. changed_elsewhere b.slots (next_number b.order) k (filled entry) (other_held not k held) in
          still (fields_seen b) (fields_seen (with_filled b entry)) refl refl refl refl (λ d. d) (beside (fields_seen b) (fields_seen (with_filled b entry))
          (λ k held. ap (λ (s : Slot). s.held_key) (same k held) ∙ held)
          (λ k held. ap (λ (s : Slot). slot_seen s.entry) (same k held))
          (λ k held lives. lives)
          (λ slice below. below))

  -- THE FIRST UNUSED SLOT IS SHOWN, which was filled since it was live
  fields_shown : (place version : ℕ) → first_held b.unused ≡ false → Ages (fields_seen b) (fields_seen (with_shown b place version))
  fields_shown place version not =
      let new = with_shown b place version in
      let same : (k : ℕ) → held_at b k ≡ true → slot_at new k ≡ slot_at b k = λ k held. shown_other b h place version k (other_held not k held) in
      still (fields_seen b) (fields_seen new) refl refl refl refl (λ d. d) (beside (fields_seen b) (fields_seen new)
      (λ k held. ap (λ (s : Slot). s.held_key) (same k held) ∙ held)
      (λ k held. ap (λ (s : Slot). slot_seen s.entry) (same k held))
      (λ k held lives. sym (shown_lives_other b h place version k (other_held not k held)) ∙ lives)
      (λ slice below. below))

-- THE SLOT AT A PLACE IS HIDDEN
fields_hidden : (b : BorderView) (place : ℕ) → Ages (fields_seen b) (fields_seen (with_hidden b place))
fields_hidden b place =
    still (fields_seen b) (fields_seen (with_hidden b place)) refl refl refl refl (λ d. d) (beside (fields_seen b) (fields_seen (with_hidden b place)) (λ k h. h) (λ k h. refl) (λ k h lives. hidden_lives b.order.live place k lives) (λ slice below. below))

-- THE ROW OF THE FIRST UNUSED SLOT IS DROPPED: the border is not quiet
fields_forgotten : (b : BorderView) → b.version.inserting ≡ true → Ages (fields_seen b) (fields_seen (with_forgotten b))
fields_forgotten b flagged = record {
  inserts = omega arith;
  splits = omega arith;
  inserted = λ set not. let clash : true ≡ false = sym set ∙ not in absurd (cc);
  split = λ set not. let clash : true ≡ false = sym set ∙ not in absurd (cc);
  deleted = λ d. d;
  quiet = λ v q r. let clash : true ≡ false = sym flagged ∙ q.no_insert in absurd (cc);
}

-- THE BORDER IS MARKED for a split: it is then not quiet
fields_splitting : (b : BorderView) → Ages (fields_seen b) (fields_seen (with_splitting b))
fields_splitting b = record {
  inserts = omega arith;
  splits = omega arith;
  inserted = λ set not. let clash : true ≡ false = sym set ∙ not in absurd (cc);
  split = λ set not. absurd (cc);
  deleted = λ d. d;
  quiet = λ v q r. let clash : true ≡ false = r.no_split in absurd (cc);
}

-- THE UPPER ENTRIES MOVE to the right: the border is not quiet
fields_half_linked : (b : BorderView) (keep : ℕ) (right : RightLink) → b.version.splitting ≡ true → Ages (fields_seen b) (fields_seen (with_half_linked b keep right))
fields_half_linked b keep right flagged = record {
  inserts = omega arith;
  splits = omega arith;
  inserted = λ set not. let clash : true ≡ false = sym set ∙ not in absurd (cc);
  split = λ set not. let clash : true ≡ false = sym set ∙ not in absurd (cc);
  deleted = λ d. d;
  quiet = λ v q r. let clash : true ≡ false = sym flagged ∙ q.no_split in absurd (cc);
}

-- ---- the slot of the entry at a place
key_with_row : (row : Row) (slice : ℕ) (content : Content) → IsSameKey (slot_seen (record { slice = slice; content = content })) (slot_seen (record { slice = slice; content = content_with_row row content }))
key_with_row row slice (Short bytes old) = record { slice = refl; class = refl; plain = λ p. (refl, λ place r holds. (old, (holds.0, refl))); rows = λ place r holds. inl (row, (holds.0, refl)); links = λ number is. absurd (cc) }
key_with_row row slice (Long suffix old) = record { slice = refl; class = refl; plain = λ p. (refl, λ place r holds. (old, (holds.0, refl))); rows = λ place r holds. inl (row, (holds.0, refl)); links = λ number is. absurd (cc) }
key_with_row row slice (Link head) = same_key (slot_seen (record { slice = slice; content = Link head }))

key_with_link : (head : NodeNo) (slice : ℕ) (content : Content) → IsSome (entry_suffix (record { slice = slice; content = content })) → IsSameKey (slot_seen (record { slice = slice; content = content })) (slot_seen (record { slice = slice; content = Link head }))
key_with_link head slice (Short bytes row) some = absurd (cc)
key_with_link head slice (Long suffix row) some = record { slice = refl; class = refl; plain = λ p. absurd (cc); rows = λ place r holds. inr (head.0, refl, place_of suffix, subst (λ (p : Place). p ≡ deeper (first_slice p) (place_of suffix)) (sym holds.0) refl); links = λ number is. absurd (cc) }
key_with_link head slice (Link old) some = absurd (cc)

module _ (b : BorderView) (h : IsBorder b) (place : ℕ) (within : place < length b.live) where
  abbrev n : ℕ
  n = number_at place b.order

  place_within : place < length b.order.live
  place_within = omega (arith, within, live_count b.live b.unused b.slots b.order h.seen)

  -- the entry at the place is what the slot holds
  pub entry_read : get_or b.live place blank_slot.entry ≡ (slot_at b n).entry
  entry_read =
      let held : List Slot = picked b.slots b.order.live in
      let inside : place < length held = omega (arith, place_within, length-picked b.slots b.order b.order.live) in
      ap (λ (l : List Entry). get_or l place blank_slot.entry) h.seen.live_is ∙ (get_or-map (λ (slot : Slot). slot.entry) held place blank_slot blank_slot.entry inside ∙ ap (λ (slot : Slot). slot.entry) (picked_at b.slots b.order.live place place_within))

  -- the border once the entry is changed
  abbrev changed_as : (Entry → Entry) → List Entry → BorderView
  changed_as change live = record b { live = live; slots = slot_changed n (with_entry change) b.slots }

  -- its entry is changed, and not its key
  ages_changed : (change : Entry → Entry) (live : List Entry) → IsSameKey (slot_seen (slot_at b n).entry) (slot_seen (change (slot_at b n).entry)) →
      Ages (fields_seen b) (fields_seen (changed_as change live))
  ages_changed change live same = still (fields_seen b) (fields_seen (changed_as change live)) refl refl refl refl (λ d. d) (record { held = held; slots = slots; right = λ slice below. below })
    where
      here : slot_at (changed_as change live) n ≡ with_entry change (slot_at b n)
      here = changed_there b.slots n (with_entry change) (number_within b h place within)

      other : (k : ℕ) → k ≢ n → slot_at (changed_as change live) k ≡ slot_at b k
      other k differ = changed_elsewhere b.slots n k (with_entry change) differ

      held : (k : ℕ) → held_at b k ≡ true → held_at (changed_as change live) k ≡ true
      held k was = elim (same_number k n) [
        | inl e ↦ subst (λ (m : ℕ). held_at (changed_as change live) m ≡ true) (sym e) (ap (λ (s : Slot). s.held_key) here ∙ subst (λ (m : ℕ). held_at b m ≡ true) e was)
        | inr differ ↦ ap (λ (s : Slot). s.held_key) (other k differ) ∙ was
      ]

      lived : KeepsSlot (slot_seen (slot_at b n).entry) (slot_seen (slot_at (changed_as change live) n).entry) (is_live b n) (is_live b n)
      lived = subst (λ (l : Bool). KeepsSlot (slot_seen (slot_at b n).entry) (slot_seen (slot_at (changed_as change live) n).entry) l l) (sym (number_live b h place within)) (refl, subst (λ (s : Slot). IsSameKey (slot_seen (slot_at b n).entry) (slot_seen s.entry)) (sym here) same)

      slots : (k : ℕ) → held_at b k ≡ true → KeepsSlot (slot_seen (slot_at b k).entry) (slot_seen (slot_at (changed_as change live) k).entry) (is_live b k) (is_live b k)
      slots k was = elim (same_number k n) [
        | inl e ↦ subst (λ (m : ℕ). KeepsSlot (slot_seen (slot_at b m).entry) (slot_seen (slot_at (changed_as change live) m).entry) (is_live b m) (is_live b m)) (sym e) lived
        | inr differ ↦ keeps_same (slot_seen (slot_at b k).entry) (slot_seen (slot_at (changed_as change live) k).entry) (is_live b k) (is_live b k) (ap (λ (s : Slot). slot_seen s.entry) (other k differ)) (λ l. l)
      ]

  -- ITS ROW IS ANOTHER
  fields_value : (row : Row) → Ages (fields_seen b) (fields_seen (with_value b place row))
  fields_value row = ages_changed (with_row row) (with_value b place row).live (key_with_row row (slot_at b n).entry.slice (slot_at b n).entry.content)

  -- the suffix of the entry at the place is what the slot holds
  suffix_read : suffix_at place b.live ≡ entry_suffix (slot_at b n).entry
  suffix_read = ap first_suffix (drop_more b.live place blank_slot.entry within) ∙ ap entry_suffix entry_read

  -- IT BECOMES A LINK, that was a longer key's
  fields_link : (head : NodeNo) → IsSome (suffix_at place b.live) → Ages (fields_seen b) (fields_seen (with_link_at b place head))
  fields_link head some =
      ages_changed (with_link head) (with_link_at b place head).live (key_with_link head (slot_at b n).entry.slice (slot_at b n).entry.content (subst (λ (o : Option (List ℕ)). IsSome o) suffix_read some))

-- ---- and so the border ages
pub ages_same : {commit : Option ℕ} (b : BorderView) → BorderChanges commit b b
ages_same b = record { ages = record { low = refl; fields = fields_same (fields_seen b); slots = λ seen. seen }; one = one_same b }

pub ages_locked : {commit : Option ℕ} (b : BorderView) → BorderChanges commit b (with_locked b)
ages_locked b = record { ages = record { low = refl; fields = fields_locked b; slots = λ seen. seen }; one = one_version b _ }

pub ages_unlocked : {commit : Option ℕ} (b : BorderView) → BorderChanges commit b (with_unlocked b)
ages_unlocked b = record { ages = record { low = refl; fields = fields_unlocked b; slots = λ seen. seen }; one = one_version b _ }

pub ages_deleted : {commit : Option ℕ} (b : BorderView) → BorderChanges commit b (with_deleted b)
ages_deleted b = record { ages = record { low = refl; fields = fields_deleted b; slots = λ seen. seen }; one = one_version b _ }

pub ages_right : {commit : Option ℕ} (b : BorderView) (right : Option RightLink) → NotLower b.right right → BorderChanges commit b (with_right b right)
ages_right b right up = record { ages = record { low = refl; fields = fields_right b right up; slots = λ seen. seen }; one = one_right b right }

pub ages_inserting : {commit : Option ℕ} (b : BorderView) → BorderChanges commit b (with_inserting b)
ages_inserting b = record { ages = record { low = refl; fields = fields_inserting b; slots = λ seen. seen }; one = one_version b (inserting_version (first_held b.unused) b.version) }

pub ages_keyed : {commit : Option ℕ} (b : BorderView) (key : SlotKey) → b.unwritten ≡ Nothing → BorderChanges commit b (with_key b key)
ages_keyed b key written = record { ages = record { low = refl; fields = fields_same (fields_seen b); slots = λ seen. seen }; one = one_keyed b key written }

pub ages_filled : {commit : Option ℕ} (b : BorderView) → IsBorder b → (key : SlotKey) → b.unwritten ≡ Value key → (entry : Entry) → entry_key entry ≡ key_seen key → BorderChanges commit b (with_filled b entry)
ages_filled b h key is entry same =
    let await = awaits b key is h in
    record { ages = record { low = refl; fields = fields_filled b h await.room key await entry; slots = λ seen. seen_filled b.live b.unused b.slots b.order seen entry await.room }; one = one_filled b h await.room key is entry same }

pub ages_shown : (b : BorderView) → IsBorder b → length b.live < 15 → (place version : ℕ) → first_held b.unused ≡ false → b.unwritten ≡ Nothing → BorderChanges (Some version) b (with_shown b place version)
ages_shown b h room place version fresh written = record { ages = record { low = refl; fields = fields_shown b h room place version fresh; slots = λ seen. seen_shown b.live b.unused b.slots b.order place version seen room }; one = one_shown b h room written fresh place version }

pub ages_hidden : {commit : Option ℕ} (b : BorderView) (place : ℕ) → b.unwritten ≡ Nothing → BorderChanges commit b (with_hidden b place)
ages_hidden b place written = record { ages = record { low = refl; fields = fields_hidden b place; slots = λ seen. seen_hidden b.live b.unused b.slots b.order seen place }; one = one_hidden b place written }

pub ages_forgotten : {commit : Option ℕ} (b : BorderView) → IsBorder b → MayForget b → BorderChanges commit b (with_forgotten b)
ages_forgotten b h may = record {
  ages = record { low = refl; fields = fields_forgotten b may.marked; slots = λ seen. seen_next_changed b.live b.unused b.slots b.order seen (with_entry (with_row no_row)) may.room };
  one = one_forgotten b h may.room;
}

pub ages_splitting : {commit : Option ℕ} (b : BorderView) → BorderChanges commit b (with_splitting b)
ages_splitting b = record { ages = record { low = refl; fields = fields_splitting b; slots = λ seen. seen }; one = one_version b _ }

pub ages_half_linked : {commit : Option ℕ} (b : BorderView) (keep : ℕ) (right : RightLink) → b.version.splitting ≡ true → b.unwritten ≡ Nothing → BorderChanges commit b (with_half_linked b keep right)
ages_half_linked b keep right flagged written = record { ages = record { low = refl; fields = fields_half_linked b keep right flagged; slots = λ seen. seen_split b.live b.unused b.slots b.order seen keep }; one = one_half_linked b keep right written }

pub ages_unstable : {commit : Option ℕ} (b : BorderView) (place : ℕ) → b.unwritten ≡ Nothing → BorderChanges commit b (with_unstable b place)
ages_unstable b place written = record { ages = record { low = refl; fields = fields_same (fields_seen b); slots = λ seen. seen }; one = one_unstable b place written }

pub ages_written : {commit : Option ℕ} (b : BorderView) → BorderChanges commit b (with_written b)
ages_written b = record { ages = record { low = refl; fields = fields_same (fields_seen b); slots = λ seen. seen }; one = one_written b }

pub ages_value : {commit : Option ℕ} (b : BorderView) → IsBorder b → (place : ℕ) → place < length b.live → (row : Row) → BorderChanges commit b (with_value b place row)
ages_value b h place within row = record { ages = record { low = refl; fields = fields_value b h place within row; slots = λ seen. seen_changed b.live b.unused b.slots b.order seen place (with_row row) within }; one = one_value b h place within row }

pub ages_link : {commit : Option ℕ} (b : BorderView) → IsBorder b → (place : ℕ) → place < length b.live → (head : NodeNo) → IsSome (suffix_at place b.live) → b.unwritten ≡ LinkAt (number_at place b.order) → BorderChanges commit b (with_link_at b place head)
ages_link b h place within head some unstable = record { ages = record { low = refl; fields = fields_link b h place within head some; slots = λ seen. seen_changed b.live b.unused b.slots b.order seen place (with_link head) within }; one = one_link b h place within head (suffix_read b h place within) some unstable }

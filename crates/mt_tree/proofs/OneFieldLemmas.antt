-- Each change of a border changes at most one field of it.
use Rattle.std.proofs.Common.{ℕ, ◌≡◌, ◌≢◌, ◌<◌, inl, inr, List, [], ◌++◌, ◌∷◌, length, take, drop, Option, Some, IsSome, Bool, true, false, ◌||◌, if◌then◌else◌, nat_eq, slice_index, unwrap_or, refl, ap, sym, subst, ◌∙◌, arith}
use Rattle.std.specs.List.{list_any}
use Rattle.std.proofs.lemmas.Bool.Decides.{eqb_tells}
use Rattle.std.proofs.lemmas.List.Folds.{list_any-append}
use Rattle.mt_types.specs.declared.row.Row.{Row}
use Rattle.mt_types.specs.declared.numbers.NodeNo.{NodeNo}
use Rattle.mt_word.specs.Slots.{Slots, with_first_unused_at}
use Rattle.mt_word.specs.Version.{VersionView}
use Rattle.mt_border.specs.Entry.{content_with, entry_with, content_with_row, content_at_version, entry_suffix, no_row, with_row, with_link}
use Rattle.mt_border.specs.Table.{number_at, next_number, with_entry, filled, shown}
use Rattle.mt_border.specs.Border.{BorderView, first_held, suffix_at, with_key, with_filled, with_shown, with_hidden, with_forgotten, with_value, with_unstable, with_link_at, with_half_linked, with_written, with_right}
use Rattle.mt_border.specs.Keys.{KeyView, entry_key, key_seen, unstable, unstable_with}
use Rattle.mt_border.specs.Order.{IsBorder}
use Rattle.mt_border.specs.Slots.{slot_at, is_live, key_in, key_at, order_in, order_shown}
use Rattle.mt_border.proofs.TableLemmas.{next_below}
use Rattle.mt_border.proofs.SlotLemmas.{unused_there}
use Rattle.mt_border.proofs.ChangeLemmas.{changed_there, changed_elsewhere, first_held_is_next, number_within, not_equal}
use Rattle.mt_border.proofs.FieldLemmas.{live_slot_held}
use Rattle.mt_border.specs.declared.entry.Content.{Content}
use Rattle.mt_border.specs.declared.entry.Content.TheVariants.{Short, Long, Link}
use Rattle.mt_border.specs.declared.entry.Entry.{Entry}
use Rattle.mt_border.specs.declared.entry.RightLink.{RightLink}
use Rattle.mt_border.specs.declared.slot_table.Slot.{Slot}
use Rattle.mt_border.specs.declared.unwritten.KeyRest.{KeyRest}
use Rattle.mt_border.specs.declared.unwritten.KeyRest.TheVariants.{Ends, Continues}
use Rattle.mt_border.specs.declared.unwritten.SlotKey.{SlotKey}
use Rattle.mt_border.specs.declared.unwritten.Unwritten.{Unwritten}
use Rattle.mt_border.specs.declared.unwritten.Unwritten.TheVariants.{Nothing, Value, Order, LinkAt, MarkAt}
use Rattle.mt_arena.specs.declared.part.Field.TheVariants.{Version, Right, Order as OrderField, Key, Value as ValueField}
use Rattle.mt_chart.proofs.Basics.{same_number}
use Rattle.mt_tree.specs.OneField.{ChangesOneField}

-- ---- the key of a number, among others
picks : {X : Type 0} (k n : ℕ) → k ≢ n → (one other : X) → (if nat_eq k n then one else other) ≡ other
picks k n differ one other = rw (not_equal k n differ) refl

itself : (n : ℕ) → nat_eq n n ≡ true
itself n = elim (eqb_tells n n) [
  | inl p ↦ p.0
  | inr p ↦ absurd (p.1 refl)
]

here : {X : Type 0} (n : ℕ) (one other : X) → (if nat_eq n n then one else other) ≡ one
here n one other = rw (itself n) refl

apart : (n k : ℕ) → Key n ≢ Key k → k ≢ n
apart n k ne e = ne (ap Key (sym e))

apart_value : (n k : ℕ) → ValueField n ≢ ValueField k → k ≢ n
apart_value n k ne e = ne (ap ValueField (sym e))

-- the key that a slot holds, and the key and the order that are read if this is unwritten
abbrev own_at : BorderView → ℕ → KeyView
own_at b k = entry_key (slot_at b k).entry

key_read : (b : BorderView) (u : Unwritten) → b.unwritten ≡ u → (k : ℕ) → key_at b k ≡ key_in u (next_number b.order) k (own_at b k)
key_read b u is k = ap (λ (v : Unwritten). key_in v (next_number b.order) k (own_at b k)) is

order_read : (b : BorderView) (u : Unwritten) → b.unwritten ≡ u → order_shown b ≡ order_in u b.order
order_read b u is = ap (λ (v : Unwritten). order_in v b.order) is

-- ---- THE VERSION, or the right link
pub one_version : {commit : Option ℕ} (b : BorderView) (version : VersionView) → ChangesOneField commit b (record b { version = version })
one_version b version = inl (Version, record { layer = refl; version = λ ne. absurd (ne refl); right = λ ne. refl; order = λ ne. refl; keys = λ k ne. refl; values = λ k ne. refl })

pub one_right : {commit : Option ℕ} (b : BorderView) (right : Option RightLink) → ChangesOneField commit b (with_right b right)
one_right b right = inl (Right, record { layer = refl; version = λ ne. refl; right = λ ne. absurd (ne refl); order = λ ne. refl; keys = λ k ne. refl; values = λ k ne. refl })

pub one_same : {commit : Option ℕ} (b : BorderView) → ChangesOneField commit b b
one_same b = one_version b b.version

-- THE RIGHT LINK of a border whose upper entries move to the right: others read the old order still
pub one_half_linked : {commit : Option ℕ} (b : BorderView) (keep : ℕ) (right : RightLink) → b.unwritten ≡ Nothing → ChangesOneField commit b (with_half_linked b keep right)
one_half_linked b keep right written = inl (
  Right,
  record {
    layer = refl;
    version = λ ne. refl;
    right = λ ne. absurd (ne refl);
    order = λ ne. sym (order_read b Nothing written);
    keys = λ k ne. sym (key_read b Nothing written k);
    values = λ k ne. refl;
  },
)

-- ---- THE KEY of the first unused slot, or the mark of one
one_key : {commit : Option ℕ} (b new : BorderView) (n : ℕ) → new.layer ≡ b.layer → new.version ≡ b.version → new.right ≡ b.right → order_shown new ≡ order_shown b → ((k : ℕ) → k ≢ n → key_at new k ≡ key_at b k) → ((k : ℕ) → slot_at new k ≡ slot_at b k) → ChangesOneField commit b new
one_key b new n layer version right order keys slots = inl (
  Key n,
  record {
    layer = layer;
    version = λ ne. version;
    right = λ ne. right;
    order = λ ne. order;
    keys = λ k ne. keys k (apart n k ne);
    values = λ k ne. ap (λ (s : Slot). s.entry.content) (slots k);
  },
)

pub one_keyed : {commit : Option ℕ} (b : BorderView) (key : SlotKey) → b.unwritten ≡ Nothing → ChangesOneField commit b (with_key b key)
one_keyed b key written =
    one_key b (with_key b key) (next_number b.order) refl refl refl (sym (order_read b Nothing written))
    (λ k differ. picks k (next_number b.order) differ (key_seen key) (own_at b k) ∙ sym (key_read b Nothing written k))
    (λ k. refl)

pub one_unstable : {commit : Option ℕ} (b : BorderView) (place : ℕ) → b.unwritten ≡ Nothing → ChangesOneField commit b (with_unstable b place)
one_unstable b place written =
    one_key b (with_unstable b place) (number_at place b.order) refl refl refl (sym (order_read b Nothing written))
    (λ k differ. picks k (number_at place b.order) differ (unstable (own_at b k)) (own_at b k) ∙ sym (key_read b Nothing written k))
    (λ k. refl)

-- ---- what was unwritten IS WRITTEN
pub one_written : {commit : Option ℕ} (b : BorderView) → ChangesOneField commit b (with_written b)
one_written {commit = commit} b = left b.unwritten refl
  where
    left : (u : Unwritten) → b.unwritten ≡ u → ChangesOneField commit b (with_written b)
    left Nothing is = one_key b (with_written b) 0 refl refl refl (sym (order_read b Nothing is)) (λ k differ. sym (key_read b Nothing is k)) (λ k. refl)
    left (Value key) is =
        one_key b (with_written b) (next_number b.order) refl refl refl (sym (order_read b (Value key) is))
        (λ k differ. sym (key_read b (Value key) is k ∙ picks k (next_number b.order) differ (key_seen key) (own_at b k)))
        (λ k. refl)
    left (Order shows) is = inl (
      OrderField,
      record {
        layer = refl;
        version = λ ne. refl;
        right = λ ne. refl;
        order = λ ne. absurd (ne refl);
        keys = λ k ne. sym (key_read b (Order shows) is k);
        values = λ k ne. refl;
      },
    )
    left (LinkAt n) is =
        one_key b (with_written b) n refl refl refl (sym (order_read b (LinkAt n) is))
        (λ k differ. sym (key_read b (LinkAt n) is k ∙ picks k n differ (unstable (own_at b k)) (own_at b k)))
        (λ k. refl)
    left (MarkAt n suffix) is =
        one_key b (with_written b) n refl refl refl (sym (order_read b (MarkAt n suffix) is))
        (λ k differ. sym (key_read b (MarkAt n suffix) is k ∙ picks k n differ (unstable_with (own_at b k).slice suffix) (own_at b k)))
        (λ k. refl)

-- ---- THE ORDER, when a slot is hidden
pub one_hidden : {commit : Option ℕ} (b : BorderView) (place : ℕ) → b.unwritten ≡ Nothing → ChangesOneField commit b (with_hidden b place)
one_hidden b place written = inl (
  OrderField,
  record {
    layer = refl;
    version = λ ne. refl;
    right = λ ne. refl;
    order = λ ne. absurd (ne refl);
    keys = λ k ne. key_read (with_hidden b place) Nothing written k ∙ sym (key_read b Nothing written k);
    values = λ k ne. refl;
  },
)

-- ---- the keys of entries that are changed
rest_key : (slice : ℕ) (rest : KeyRest) (row : Row) → entry_key (record { slice = slice; content = content_with rest row }) ≡ key_seen (record { slice = slice; rest = rest })
rest_key slice (Ends bytes) row = refl
rest_key slice (Continues suffix) row = refl

-- a key with a row has the key
pub entry_with_key : (key : SlotKey) (row : Row) → entry_key (entry_with key row) ≡ key_seen key
entry_with_key key row = rest_key key.slice key.rest row

stamped_key : (version slice : ℕ) (content : Content) → entry_key (record { slice = slice; content = content_at_version version content }) ≡ entry_key (record { slice = slice; content = content })
stamped_key version slice (Short bytes row) = refl
stamped_key version slice (Long suffix row) = refl
stamped_key version slice (Link head) = refl

key_with_row : (row : Row) (slice : ℕ) (content : Content) → entry_key (record { slice = slice; content = content_with_row row content }) ≡ entry_key (record { slice = slice; content = content })
key_with_row row slice (Short bytes old) = refl
key_with_row row slice (Long suffix old) = refl
key_with_row row slice (Link head) = refl

-- a longer key that is unstable
key_with_link : (slice : ℕ) (content : Content) → IsSome (entry_suffix (record { slice = slice; content = content })) → unstable_with slice (unwrap_or (entry_suffix (record { slice = slice; content = content })) []) ≡ unstable (entry_key (record { slice = slice; content = content }))
key_with_link slice (Short bytes row) some = absurd (cc)
key_with_link slice (Long suffix row) some = refl
key_with_link slice (Link head) some = absurd (cc)

-- ---- the first unused slot is live once it is shown
true_within : (before after : Bool) → (before || (true || after)) ≡ true
true_within true after = refl
true_within false after = refl

next_is_live : (s : Slots) (place : ℕ) → 0 < length s.unused → list_any (nat_eq (next_number s)) (with_first_unused_at s place).live ≡ true
next_is_live s place some = go s.unused some
  where
    go : (unused : List ℕ) → 0 < length unused → list_any (nat_eq (slice_index unused 0)) (take place s.live ++ (take 1 unused ++ drop place s.live)) ≡ true
    go [] none = absurd (omega (arith, none))
    go (n ∷ unused) some =
        let p : ℕ → Bool = nat_eq n in
        list_any-append p (take place s.live) (n ∷ drop place s.live)
        ∙ (ap (λ (x : Bool). list_any p (take place s.live) || (x || list_any p (drop place s.live))) (itself n) ∙ true_within (list_any p (take place s.live)) (list_any p (drop place s.live)))

-- ---- THE VALUE of the first unused slot
module _ (b : BorderView) (h : IsBorder b) (room : length b.live < 15) where
  abbrev next : ℕ
  next = next_number b.order

  next_within : next < length b.slots
  next_within = let below = next_below b.order h.seen.table.arranged (unused_there b.live b.unused b.slots b.order h.seen room) in omega (arith, below, h.seen.table.fifteen)

  pub one_filled : {commit : Option ℕ} (key : SlotKey) → b.unwritten ≡ Value key → (entry : Entry) → entry_key entry ≡ key_seen key → ChangesOneField commit b (with_filled b entry)
  one_filled key is entry same = inl (
    ValueField next,
    record {
      layer = refl;
      version = λ ne. refl;
      right = λ ne. refl;
      order = λ ne. sym (order_read b (Value key) is);
      keys = λ k ne. elim (same_number k next) [
        | inl e ↦ subst (λ (m : ℕ). own_at (with_filled b entry) m ≡ key_at b m) (sym e)
            (ap (λ (s : Slot). entry_key s.entry) (changed_there b.slots next (filled entry) next_within) ∙ (same ∙ sym (key_read b (Value key) is next ∙ here next (key_seen key) (own_at b next))))
        | inr differ ↦ ap (λ (s : Slot). entry_key s.entry) (changed_elsewhere b.slots next k (filled entry) differ) ∙ sym (key_read b (Value key) is k ∙ picks k next differ (key_seen key) (own_at b k))
      ];
      values = λ k ne. ap (λ (s : Slot). s.entry.content) (changed_elsewhere b.slots next k (filled entry) (apart_value next k ne));
    },
  )

  -- or no row is left there
  pub one_forgotten : {commit : Option ℕ} → ChangesOneField commit b (with_forgotten b)
  one_forgotten = inl (
    ValueField next,
    record {
      layer = refl;
      version = λ ne. refl;
      right = λ ne. refl;
      order = λ ne. refl;
      keys = λ k ne. ap (λ (own : KeyView). key_in b.unwritten (next_number b.order) k own) (own_key k);
      values = λ k ne. ap (λ (s : Slot). s.entry.content) (changed_elsewhere b.slots next k (with_entry (with_row no_row)) (apart_value next k ne));
    },
  )
    where
      own_key : (k : ℕ) → own_at (with_forgotten b) k ≡ own_at b k
      own_key k = elim (same_number k next) [
        | inl e ↦ subst (λ (m : ℕ). own_at (with_forgotten b) m ≡ own_at b m) (sym e)
            (ap (λ (s : Slot). entry_key s.entry) (changed_there b.slots next (with_entry (with_row no_row)) next_within) ∙ key_with_row no_row (slot_at b next).entry.slice (slot_at b next).entry.content)
        | inr differ ↦ ap (λ (s : Slot). entry_key s.entry) (changed_elsewhere b.slots next k (with_entry (with_row no_row)) differ)
      ]

  -- THE ORDER, when that slot is shown, whose row is stamped
  pub one_shown : b.unwritten ≡ Nothing → first_held b.unused ≡ false → (place version : ℕ) → ChangesOneField (Some version) b (with_shown b place version)
  one_shown written fresh place version = inr (
    version,
    refl,
    record {
      slot = next;
      hidden = ap (λ (s : Slots). list_any (nat_eq next) s.live) (order_read b Nothing written) ∙ hidden (is_live b next) refl;
      shows = ap (λ (s : Slots). list_any (nat_eq next) s.live) (order_read (with_shown b place version) Nothing written) ∙ next_is_live b.order place (unused_there b.live b.unused b.slots b.order h.seen room);
      layer = refl;
      version = refl;
      right = refl;
      keys = λ k. key_read (with_shown b place version) Nothing written k ∙ (own_key k ∙ sym (key_read b Nothing written k));
      values = λ k differ. ap (λ (s : Slot). s.entry.content) (changed_elsewhere b.slots next k (shown version) differ);
      stamped = ap (λ (s : Slot). s.entry.content) there;
    },
  )
    where
      there : slot_at (with_shown b place version) next ≡ shown version (slot_at b next)
      there = changed_there b.slots next (shown version) next_within

      hidden : (lives : Bool) → is_live b next ≡ lives → is_live b next ≡ false
      hidden false is = is
      hidden true is = let clash : true ≡ false = sym (live_slot_held b next h is) ∙ (sym (first_held_is_next b h room) ∙ fresh) in absurd (cc)

      own_key : (k : ℕ) → own_at (with_shown b place version) k ≡ own_at b k
      own_key k = elim (same_number k next) [
        | inl e ↦ subst (λ (m : ℕ). own_at (with_shown b place version) m ≡ own_at b m) (sym e) (ap (λ (s : Slot). entry_key s.entry) there ∙ stamped_key version (slot_at b next).entry.slice (slot_at b next).entry.content)
        | inr differ ↦ ap (λ (s : Slot). entry_key s.entry) (changed_elsewhere b.slots next k (shown version) differ)
      ]

-- ---- THE VALUE of the slot of the entry at a place
module _ (b : BorderView) (h : IsBorder b) (place : ℕ) (within : place < length b.live) where
  abbrev n : ℕ
  n = number_at place b.order

  pub one_value : {commit : Option ℕ} (row : Row) → ChangesOneField commit b (with_value b place row)
  one_value row = inl (
    ValueField n,
    record {
      layer = refl;
      version = λ ne. refl;
      right = λ ne. refl;
      order = λ ne. refl;
      keys = λ k ne. ap (λ (own : KeyView). key_in b.unwritten (next_number b.order) k own) (own_key k);
      values = λ k ne. ap (λ (s : Slot). s.entry.content) (changed_elsewhere b.slots n k (with_entry (with_row row)) (apart_value n k ne));
    },
  )
    where
      own_key : (k : ℕ) → own_at (with_value b place row) k ≡ own_at b k
      own_key k = elim (same_number k n) [
        | inl e ↦ subst (λ (m : ℕ). own_at (with_value b place row) m ≡ own_at b m) (sym e)
            (ap (λ (s : Slot). entry_key s.entry) (changed_there b.slots n (with_entry (with_row row)) (number_within b h place within)) ∙ key_with_row row (slot_at b n).entry.slice (slot_at b n).entry.content)
        | inr differ ↦ ap (λ (s : Slot). entry_key s.entry) (changed_elsewhere b.slots n k (with_entry (with_row row)) differ)
      ]

  pub one_link : {commit : Option ℕ} (head : NodeNo) → suffix_at place b.live ≡ entry_suffix (slot_at b n).entry → IsSome (suffix_at place b.live) → b.unwritten ≡ LinkAt n → ChangesOneField commit b (with_link_at b place head)
  one_link head read some unstably = inl (
    ValueField n,
    record {
      layer = refl;
      version = λ ne. refl;
      right = λ ne. refl;
      order = λ ne. sym (order_read b (LinkAt n) unstably);
      keys = λ k ne. keys k ∙ sym (key_read b (LinkAt n) unstably k);
      values = λ k ne. ap (λ (s : Slot). s.entry.content) (changed_elsewhere b.slots n k (with_entry (with_link head)) (apart_value n k ne));
    },
  )
    where
      whole : unstable_with (own_at (with_link_at b place head) n).slice (unwrap_or (suffix_at place b.live) []) ≡ unstable (own_at b n)
      whole =
          ap (λ (s : Slot). unstable_with s.entry.slice (unwrap_or (suffix_at place b.live) [])) (changed_there b.slots n (with_entry (with_link head)) (number_within b h place within))
          ∙ (ap (λ (o : Option (List ℕ)). unstable_with (slot_at b n).entry.slice (unwrap_or o [])) read ∙ key_with_link (slot_at b n).entry.slice (slot_at b n).entry.content (subst (λ (o : Option (List ℕ)). IsSome o) read some))

      keys : (k : ℕ) → key_at (with_link_at b place head) k ≡ key_in (LinkAt n) (next_number b.order) k (own_at b k)
      keys k = elim (same_number k n) [
        | inl e ↦ subst (λ (m : ℕ). key_at (with_link_at b place head) m ≡ key_in (LinkAt n) (next_number b.order) m (own_at b m)) (sym e)
            (here n (unstable_with (own_at (with_link_at b place head) n).slice (unwrap_or (suffix_at place b.live) [])) (own_at (with_link_at b place head) n) ∙ (whole ∙ sym (here n (unstable (own_at b n)) (own_at b n))))
        | inr differ ↦ picks k n differ (unstable_with (own_at (with_link_at b place head) k).slice (unwrap_or (suffix_at place b.live) [])) (own_at (with_link_at b place head) k)
            ∙ (ap (λ (s : Slot). entry_key s.entry) (changed_elsewhere b.slots n k (with_entry (with_link head)) differ) ∙ sym (picks k n differ (unstable (own_at b k)) (own_at b k)))
      ]

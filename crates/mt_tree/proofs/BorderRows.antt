-- A row that is shown, hidden or replaced in a border is shown, hidden or replaced in the tree.
use Rattle.std.proofs.Common.{ℕ, ◌≡◌, inl, List, ◌∷◌, ◌++◌, map, take, drop, slice_get, Option, Some, None, IsSome, IsSomeAnd, refl, ap, subst}
use Rattle.mt_slice.specs.Place.{under}
use Rattle.mt_types.specs.declared.row.Row.{Row}
use Rattle.mt_border.specs.Entry.{entry_row, content_row, at_version, content_at_version, with_row, content_with_row}
use Rattle.mt_border.specs.Border.{BorderView, with_shown, with_hidden, with_value}
use Rattle.mt_border.specs.Order.{IsBorder}
use Rattle.mt_border.specs.declared.entry.Content.{Content}
use Rattle.mt_border.specs.declared.entry.Content.TheVariants.{Short, Long, Link}
use Rattle.mt_border.specs.declared.entry.Entry.{Entry}
use Rattle.mt_border.specs.declared.slot_table.Slot.{Slot}
use Rattle.mt_arena.specs.Node.{border_at}
use Rattle.mt_arena.specs.Arena.{ArenaView, with_node_at}
use Rattle.mt_arena.specs.declared.node.Node.TheVariants.{Border}
use Rattle.mt_chart.specs.Tree.{HoldsRow}
use Rattle.mt_chart.proofs.BorderLaws.{showing, hiding, setting}
use Rattle.mt_tree.specs.Seen.{arena_seen, border_seen, content_seen, entry_seen, content_place, entry_place}
use Rattle.mt_tree.specs.Keeping.{AddsRow, RemovesRow, ReplacesRow}
use Rattle.mt_tree.specs.BorderSteps.{HasRowAt, ShowsNext, HidesRowAt, SetsRowAt}
use Rattle.mt_tree.proofs.BorderEntries.{asked, focus, seen_inserted, seen_inserted_lacked, seen_there, seen_hidden, seen_changed, seen_from_low, seen_to_right}
use Rattle.mt_tree.proofs.BorderMarks.{stands_seen, writes_seen}

-- an entry with a row holds it, at the entry's place
pub entry_holds : (entry : Entry) (row : Row) → entry_row entry ≡ Some row → HoldsRow entry.slice (entry_seen entry).content (entry_place entry) row
entry_holds entry row has = go entry.content has
  where
    go : (content : Content) → content_row content ≡ Some row → HoldsRow entry.slice (content_seen content) (content_place entry.slice content) row
    go (Short bytes own) has = (refl, cc)
    go (Long suffix own) has = (refl, cc)
    go (Link top) has = absurd (cc)

-- and so it does where its row is of another version, or another
row_at_version : (entry : Entry) (row : Row) (version : ℕ) → entry_row entry ≡ Some row → entry_row (at_version version entry) ≡ Some (record row { version = version })
row_at_version entry row version has = go entry.content has
  where
    go : (content : Content) → content_row content ≡ Some row → content_row (content_at_version version content) ≡ Some (record row { version = version })
    go (Short bytes own) has = let same : own ≡ row = cc in ap (λ (r : Row). Some (record r { version = version })) same
    go (Long suffix own) has = let same : own ≡ row = cc in ap (λ (r : Row). Some (record r { version = version })) same
    go (Link top) has = absurd (cc)

place_at_version : (entry : Entry) (version : ℕ) → entry_place (at_version version entry) ≡ entry_place entry
place_at_version entry version = go entry.content
  where
    go : (content : Content) → content_place entry.slice (content_at_version version content) ≡ content_place entry.slice content
    go (Short bytes own) = refl
    go (Long suffix own) = refl
    go (Link top) = refl

row_replaced : (entry : Entry) (row other : Row) → entry_row entry ≡ Some row → (entry_row (with_row other entry) ≡ Some other) × (entry_place (with_row other entry) ≡ entry_place entry)
row_replaced entry row other has = go entry.content has
  where
    go : (content : Content) → content_row content ≡ Some row → (content_row (content_with_row other content) ≡ Some other) × (content_place entry.slice (content_with_row other content) ≡ content_place entry.slice content)
    go (Short bytes own) has = (refl, refl)
    go (Long suffix own) has = (refl, refl)
    go (Link top) has = absurd (cc)

-- the row of the entry at a place
some_row : (row : Option Row) → IsSome row → (own : Row) × (row ≡ Some own)
some_row None is = absurd (cc)
some_row (Some own) is = (own, refl)

row_there : (b : BorderView) (place : ℕ) (entry : Entry) → slice_get b.live place ≡ Some entry → HasRowAt b place → (row : Row) × (entry_row entry ≡ Some row)
row_there b place entry there has = some_row (entry_row entry) (rw (focus b.live place entry there).dropped at has.row)

module _ (a : ArenaView) (number : ℕ) (b : BorderView) (is : border_at a.nodes number ≡ Some b) where
  -- what the first unused slot holds is shown
  module _ (place version : ℕ) (slot : Slot) (slots : List Slot) (row : Row) (unused : b.unused ≡ slot ∷ slots) (has : entry_row slot.entry ≡ Some row) (sound : IsBorder (with_shown b place version)) where
    abbrev shown : Entry
    shown = at_version version slot.entry

    abbrev new : BorderView
    new = record (with_shown b place version) { live = take place b.live ++ (shown ∷ drop place b.live); unused = slots }

    new_is : with_shown b place version ≡ new
    new_is = ap (λ (u : List Slot). record (with_shown b place version) { live = take place b.live ++ (map (λ (s : Slot). at_version version s.entry) (take 1 u) ++ drop place b.live); unused = drop 1 u }) unused

    pub row_shown : AddsRow a (with_node_at a number (Border (with_shown b place version))) number (entry_place slot.entry) (record row { version = version })
    row_shown = rw (new_is) (shown_in (rw new_is at sound))
      where
        shown_in : IsBorder new → AddsRow a (with_node_at a number (Border new)) number (entry_place slot.entry) (record row { version = version })
        shown_in own = record {
          adds = λ now twins chart prefix index stands.
              showing now twins (arena_seen a) (arena_seen (with_node_at a number (Border new))) chart (under prefix (entry_place slot.entry)) (record row { version = version }) index (record {
                number = number;
                prefix = prefix;
                old = border_seen b;
                new = border_seen new;
                writes = writes_seen a chart number prefix b new is (stands_seen a now twins chart number prefix b index stands is) refl own.deleted_empty;
                right = refl;
                entry = entry_seen shown;
                place = entry_place slot.entry;
                is_key = refl;
                holds = rw (← place_at_version slot.entry version) (entry_holds shown (record row { version = version }) (row_at_version slot.entry row version has));
                entries = seen_inserted b.live place shown;
                lacked = seen_inserted_lacked b.live place shown own.ordered own.entries;
                from_low = seen_from_low new own (entry_seen shown) ((seen_inserted b.live place shown (entry_seen shown)).1 (inl refl));
                to_right = seen_to_right b.low new.live b.right own.left_of (entry_seen shown) ((seen_inserted b.live place shown (entry_seen shown)).1 (inl refl));
              });
        }

  -- the row of an entry is hidden, or replaced
  module _ (place : ℕ) (entry : Entry) (there : slice_get b.live place ≡ Some entry) (row : Row) (has : entry_row entry ≡ Some row) (whole : IsBorder b) where
    pub row_hidden : IsBorder (with_hidden b place) → RemovesRow a (with_node_at a number (Border (with_hidden b place))) number (entry_place entry)
    row_hidden sound = record {
      removes = λ now twins chart prefix index stands.
          hiding now twins (arena_seen a) (arena_seen (with_node_at a number (Border (with_hidden b place)))) chart (under prefix (entry_place entry)) row index (record {
            number = number;
            prefix = prefix;
            old = border_seen b;
            new = border_seen (with_hidden b place);
            writes = writes_seen a chart number prefix b (with_hidden b place) is (stands_seen a now twins chart number prefix b index stands is) refl sound.deleted_empty;
            right = refl;
            entry = entry_seen entry;
            place = entry_place entry;
            is_key = refl;
            holds = entry_holds entry row has;
            stood = seen_there b.live place entry whole.ordered whole.entries there;
            entries = seen_hidden b.live place entry whole.ordered whole.entries there;
          });
    }

    pub row_set : (other : Row) → IsBorder (with_value b place other) → ReplacesRow a (with_node_at a number (Border (with_value b place other))) number (entry_place entry) other
    row_set other sound = record {
      replaces = λ now twins chart prefix index stands.
          setting now twins (arena_seen a) (arena_seen (with_node_at a number (Border (with_value b place other)))) chart (under prefix (entry_place entry)) row other index (record {
            number = number;
            prefix = prefix;
            old = border_seen b;
            new = border_seen (with_value b place other);
            writes = writes_seen a chart number prefix b (with_value b place other) is (stands_seen a now twins chart number prefix b index stands is) refl sound.deleted_empty;
            right = refl;
            entry = entry_seen entry;
            set = entry_seen (with_row other entry);
            place = entry_place entry;
            is_key = refl;
            holds = entry_holds entry row has;
            set_holds = (let (same_row, same_place) = row_replaced entry row other has in
                subst (λ p. HoldsRow entry.slice (entry_seen (with_row other entry)).content p other) same_place (entry_holds (with_row other entry) other same_row));
            stood = seen_there b.live place entry whole.ordered whole.entries there;
            entries = seen_changed b.live place entry whole.ordered whole.entries there (with_row other);
          });
    }

-- the same for the border that is found under the number, whoever reads it
module _ (a : ArenaView) (number place : ℕ) (b b' : BorderView) (is : border_at a.nodes number ≡ Some b) where
  pub shows_next : (version : ℕ) → b' ≡ with_shown b place version → IsBorder b' → ShowsNext a (with_node_at a number (Border b')) number version
  shows_next version new sound = record {
    shows = λ other slot slots row there unused has. (let same : other ≡ b = cc in
        rw new (row_shown a number b is place version slot slots row (rw same at unused) has (rw new at sound)));
  }

  pub hides_at : IsSomeAnd (border_at a.nodes number) (λ own. HasRowAt own place) → b' ≡ with_hidden b place → IsBorder b → IsBorder b' → HidesRowAt a (with_node_at a number (Border b')) number place
  hides_at required new whole sound = record {
    hides = λ other entry there at_place. (let same : other ≡ b = cc in
        let stands = rw same at at_place in
        let (row, has) = row_there b place entry stands (asked (λ (own : BorderView). HasRowAt own place) (border_at a.nodes number) b is required) in
        rw new (row_hidden a number b is place entry stands row has whole (rw new at sound)));
  }

  pub sets_at : (row : Row) → IsSomeAnd (border_at a.nodes number) (λ own. HasRowAt own place) → b' ≡ with_value b place row → IsBorder b → IsBorder b' → SetsRowAt a (with_node_at a number (Border b')) number place row
  sets_at row required new whole sound = record {
    sets = λ other entry there at_place. (let same : other ≡ b = cc in
        let stands = rw same at at_place in
        let (before, has) = row_there b place entry stands (asked (λ (own : BorderView). HasRowAt own place) (border_at a.nodes number) b is required) in
        rw new (row_set a number b is place entry stands before has whole row (rw new at sound)));
  }

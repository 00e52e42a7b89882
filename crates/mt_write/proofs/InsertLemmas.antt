-- The writes of a new key at the border that its call has locked: its key, and then its row.
use Rattle.std.proofs.Common.{ℕ, ◌≡◌, ◌<◌, ◌≤◌, inl, inr, List, length, drop, Option, Some, None, true, false, refl, sym, ap, subst, arith}
use Rattle.std.specs.Prelude.{IsSomeAnd}
use Rattle.std.specs.Option.{option_map}
use Rattle.mt_types.specs.declared.row.Row.{Row}
use Rattle.mt_slice.specs.Place.{slice_number}
use Rattle.mt_slice.specs.Classes.{class_of}
use Rattle.mt_slice.specs.declared.slice_class.Class.{Class}
use Rattle.mt_commit.specs.Log.{LogView}
use Rattle.mt_word.specs.declared.permutation_word.TheConstants.{SLOTS}
use Rattle.mt_border.specs.Border.{BorderView, with_filled, with_key}
use Rattle.mt_border.specs.Entry.{entry_class, entry_with, key_of_rest}
use Rattle.mt_border.specs.Find.{found_in}
use Rattle.mt_border.specs.Order.{IsBorder}
use Rattle.mt_border.specs.declared.found.Found.TheVariants.{Absent}
use Rattle.mt_border.specs.declared.unwritten.SlotKey.{SlotKey}
use Rattle.mt_border.specs.declared.unwritten.Unwritten.TheVariants.{Value}
use Rattle.mt_border.proofs.BorderLemmas.{awaits}
use Rattle.mt_border.proofs.ShowLemmas.{IsBeforeRight, IsBetween, between_from_absent, filled_shown, filled_row, row_of_row}
use Rattle.mt_arena.specs.Node.{border_at}
use Rattle.mt_arena.specs.Arena.{ArenaView, with_border_changed}
use Rattle.mt_chart.specs.Tree.{Among, Below}
use Rattle.mt_chart.specs.Steps.{SameContent}
use Rattle.mt_tree.specs.Seen.{arena_seen, right_seen}
use Rattle.mt_tree.specs.Fields.{BorderChanges}
use Rattle.mt_tree.specs.Keeping.{IsIndexAt, KeepsTree}
use Rattle.mt_tree.specs.BorderSteps.{AwaitsSome}
use Rattle.mt_tree.proofs.AgeLemmas.{ages_filled, ages_keyed}
use Rattle.mt_tree.proofs.OneFieldLemmas.{entry_with_key}
use Rattle.mt_tree.proofs.DescentLemmas.{slice_of_place}
use Rattle.mt_steps.specs.declared.way.Way.{Way}
use Rattle.mt_steps.specs.declared.progress.Progress.TheVariants.{Moved}
use Rattle.mt_steps.specs.World.{World, IsWorld, Goes, NotAmong, RowsAreOfKeys}
use Rattle.mt_steps.specs.Way.{rest_of, prefix_of}
use Rattle.mt_steps.specs.Step.{StepLaw}
use Rattle.mt_steps.proofs.BorderLemmas.{keys_same, goes_border, locked_may, mine_free, now_named}
use Rattle.mt_steps.proofs.FoundLemmas.{some_at}
use Rattle.mt_write.specs.declared.writing.Edit.{Edit}
use Rattle.mt_write.specs.declared.writing.Insertion.{Insertion}
use Rattle.mt_write.specs.declared.writing.Stage.{Stage}
use Rattle.mt_write.specs.declared.writing.Stage.TheVariants.{Reserved, KeyWritten, Filled}
use Rattle.mt_write.specs.Held.{edit_request, stage_held, owned}
use Rattle.mt_write.specs.Writing.{IsFilled, IsNewRow, StageIsTrue, new_entry}
use Rattle.mt_write.proofs.EntryLemmas.{class_of_content, left_of_right, next_slot}
use Rattle.mt_write.proofs.WriteLemmas.{others_changed, others_written, owned_at-changed, quiet_step, written_at}

-- ---- a change of the border of which the tree sees nothing
module _ (a : ArenaView) (n : ℕ) (change : BorderView → BorderView) (after : ArenaView) (is : after ≡ with_border_changed a n change) (keeps : KeepsTree a after) where
  pub goes_marked : (mine : List ℕ) (Then : World → Type 0) (now : ℕ) (w : World) (b : BorderView) (named : border_at a.nodes n ≡ Some b) → IsWorld a now w → BorderChanges None b (change b) → (change b).right ≡ b.right → b.version.locked ≡ true → (change b).version.deleted ≡ false → NotAmong n w.closing → Among n mine → Then w
      → Goes now a after w mine mine Then × SameContent (arena_seen a) (arena_seen after)
  goes_marked mine Then now w b named world ages right locked alive free own truth =
      let kept = keeps.keeps now w.twins w.chart world.index in (
        subst (λ (x : ArenaView). Goes now a x w mine mine Then) (sym is)
            (goes_border a n b change named now w mine mine Then world (λ known. (ages, inr right))
            (subst (λ (x : ArenaView). IsIndexAt x now w.twins w.chart) is kept.index)
            (subst (λ (x : ArenaView). RowsAreOfKeys x) is (keys_same a after kept.content world.keys))
            (mine_free a n w mine own) (λ other i. inl i) (λ other ne i. i) (λ locked. own) (locked_may a n b change named now w world locked free (inr alive)) truth),
        kept.content,
      )

-- what a border is under its number, once it is changed, is sound
pub sound_now : (a after : ArenaView) (n : ℕ) (b : BorderView) (change : BorderView → BorderView) → border_at a.nodes n ≡ Some b → after ≡ with_border_changed a n change → IsSomeAnd (border_at after.nodes n) IsBorder → IsBorder (change b)
sound_now a after n b change named is sound = some_at IsBorder (border_at after.nodes n) (change b) sound (subst (λ (x : ArenaView). border_at x.nodes n ≡ Some (change b)) (sym is) (now_named a n b change named))

-- once a key is written there, its value is to be written
pub awaits_there : (a after : ArenaView) (n : ℕ) (b : BorderView) (slot_key : SlotKey) → border_at a.nodes n ≡ Some b → after ≡ with_border_changed a n (λ x. with_key x slot_key)
    → IsSomeAnd (border_at after.nodes n) AwaitsSome × IsSomeAnd (border_at after.nodes n) (λ x. x.unwritten ≡ Value slot_key)
awaits_there a after n b slot_key named is =
    let there : border_at after.nodes n ≡ Some (with_key b slot_key) = subst (λ (x : ArenaView). border_at x.nodes n ≡ Some (with_key b slot_key)) (sym is) (now_named a n b (λ x. with_key x slot_key) named) in
    (subst (λ (o : Option BorderView). IsSomeAnd o AwaitsSome) (sym there) (slot_key, refl), subst (λ (o : Option BorderView). IsSomeAnd o (λ x. x.unwritten ≡ Value slot_key)) (sym there) refl)

-- and it is that key
pub key_there : (a after : ArenaView) (n : ℕ) (b : BorderView) (slot_key : SlotKey) → border_at a.nodes n ≡ Some b → after ≡ with_border_changed a n (λ x. with_key x slot_key)
    → (own : SlotKey) → IsSomeAnd (border_at after.nodes n) (λ x. x.unwritten ≡ Value own) → slot_key ≡ own
key_there a after n b slot_key named is own there =
    let keyed : border_at after.nodes n ≡ Some (with_key b slot_key) = subst (λ (x : ArenaView). border_at x.nodes n ≡ Some (with_key b slot_key)) (sym is) (now_named a n b (λ x. with_key x slot_key) named) in
    let both : Value slot_key ≡ Value own = some_at (λ (x : BorderView). x.unwritten ≡ Value own) (border_at after.nodes n) (with_key b slot_key) there keyed in
    cc

-- ---- the writes
module _ (C : ℕ) (a : ArenaView) (log : LogView) (key : List ℕ) (edit : Edit) (way : Way) (new : Insertion) (row : Row) (after : ArenaView) (keeps : KeepsTree a after) (sound : IsSomeAnd (border_at after.nodes way.node.0) IsBorder) where
  abbrev InsertLaw : Stage → Stage → Type 0
  InsertLaw stage then = StepLaw C a after log log (edit_request key edit) (stage_held way.node.0 stage) Moved (stage_held way.node.0 then) (λ begun moves past x w. StageIsTrue C key edit way stage begun x w) (λ begun moves past x w. StageIsTrue C key edit way then begun x w)

  pub keys : (slot_key : SlotKey) → after ≡ with_border_changed a way.node.0 (λ b. with_key b slot_key) → InsertLaw (Reserved new slot_key row) (KeyWritten new row)
  keys slot_key is = record {
    steps = λ now begun moves past w world before truth.
        let (b, at, p, f, k, has) = truth in
        let change : BorderView → BorderView = λ x. with_key x slot_key in
        let (goes, content) = goes_marked a way.node.0 change after is keeps (owned way.node.0 new.split) (λ next. StageIsTrue C key edit way (KeyWritten new row) begun after next) now w b at.named world (ages_keyed b slot_key at.written) refl at.locked at.alive at.free has.own (subst (λ (x : ArenaView). StageIsTrue C key edit way (KeyWritten new row) begun x w) (sym is) (
          change b,
          owned_at-changed a key way b w change at.named at.layer at.stands at.last refl refl refl at.alive at.locked at.free,
          p,
          record { bytes = f.bytes; fits = f.fits; sound = sound_now a after way.node.0 b change at.named is sound; stored_is = f.stored_is; absent = f.absent; columns = f.columns; row_is = f.row_is },
          ap Value k.key_is,
          others_changed (prefix_of key way) a way.node.0 b change at.named w new.split refl has,
        )) in
        quiet_step key edit goes content refl refl (inl refl);
  }

  -- the row in the first unused slot is to be shown
  filled_is : (sets : List (ℕ × List ℕ)) (b : BorderView) → IsNewRow C key sets way b new row → IsBorder (with_filled b (new_entry key way new.logged)) → length b.live < SLOTS → b.version.deleted ≡ false → b.low ≤ slice_number (rest_of key way) → IsBeforeRight (slice_number (rest_of key way)) b.right
      → IsFilled C key sets way (with_filled b (new_entry key way new.logged)) new.place new.key new.logged
  filled_is sets b f whole room alive low right =
      let entry = new_entry key way new.logged in
      let rest = rest_of key way in
      let own : Row = record { version = 0; columns = new.logged } in
      let class : entry_class entry ≡ class_of (length rest) = class_of_content (class_of (length rest)) (drop 8 rest) own in
      let between : IsBetween _ new.place b.live = between_from_absent (slice_number rest) (class_of (length rest)) (drop 8 rest) b.live new.place f.sound.ordered f.absent in
      let slots = f.sound.slots in
      let next = next_slot b.unused entry (omega (arith, slots, room)) in
      record {
        bytes = f.bytes;
        fits = f.fits;
        sound = whole;
        stored_is = f.stored_is;
        absent = f.absent;
        columns = f.columns;
        shows = λ version. record {
          room = room;
          written = refl;
          within = between.within;
          row = filled_row b entry room (row_of_row (class_of (length rest)) (drop 8 rest) own) f.sound;
          sound = filled_shown b entry (drop 8 rest) new.place version room alive (subst (λ (c : Class). found_in (slice_number rest) c (drop 8 rest) b.live ≡ Absent new.place) (sym class) f.absent) low right f.sound whole;
        };
        slot = next.slot;
        slots = next.more;
        unused = next.is;
        entry = next.holds;
        fresh = next.fresh;
      }

  pub values : ((slot_key : SlotKey) → IsSomeAnd (border_at a.nodes way.node.0) (λ b. b.unwritten ≡ Value slot_key) → after ≡ with_border_changed a way.node.0 (λ b. with_filled b (entry_with slot_key row))) → InsertLaw (KeyWritten new row) (Filled new.place new.key new.logged new.split)
  values writes = record {
    steps = λ now begun moves past w world before truth.
        let (b, at, p, f, k, has) = truth in
        let slot_key = key_of_rest (rest_of key way) in
        let change : BorderView → BorderView = λ x. with_filled x (new_entry key way new.logged) in
        let is : after ≡ with_border_changed a way.node.0 change = subst (λ (r : Row). after ≡ with_border_changed a way.node.0 (λ x. with_filled x (entry_with slot_key r))) f.row_is
        (writes slot_key (subst (λ (o : Option BorderView). IsSomeAnd o (λ x. x.unwritten ≡ Value slot_key)) (sym at.named) k)) in
        let await = awaits b slot_key k f.sound in
        let slices = slice_of_place (rest_of key way) in
        let low : b.low ≤ slice_number (rest_of key way) = subst (λ (s : ℕ). b.low ≤ s) slices at.stands.from_low in
        let right = left_of_right (slice_number (rest_of key way)) b.right (subst (λ (s : ℕ). Below s (option_map right_seen b.right)) slices at.stands.to_right) in
        let there = written_at _ key way (change b) w refl (owned_at-changed a key way b w change at.named at.layer at.stands at.last refl refl refl at.alive at.locked at.free) in
        let (goes, content) = goes_marked a way.node.0 change after is keeps (owned way.node.0 new.split) (λ next. StageIsTrue C key edit way (Filled new.place new.key new.logged new.split) begun after next) now w b at.named world (ages_filled b f.sound slot_key k (new_entry key way new.logged) (entry_with_key slot_key (record { version = 0; columns = new.logged }))) refl at.locked at.alive at.free has.own (subst (λ (x : ArenaView). StageIsTrue C key edit way (Filled new.place new.key new.logged new.split) begun x w) (sym is) (
          change b,
          there,
          p,
          filled_is p.sets b f (sound_now a after way.node.0 b change at.named is sound) await.room at.alive low right,
          others_written key a way b change at.named w new.split refl there has,
        )) in
        quiet_step key edit goes content refl refl (inl refl);
  }

-- The end of a remove: its border is marked, and the row that it has hidden is dropped.
use Rattle.std.proofs.Common.{ℕ, zero, suc, ◌≡◌, ◌<◌, inl, Bool, true, false, List, [], ◌∷◌, ◌++◌, length, take, drop, Option, Some, None, IsSome, refl, sym, ap, subst, ◌∙◌, arith}
use Rattle.std.specs.Prelude.{IsSomeAnd}
use Rattle.mt_commit.specs.Log.{LogView}
use Rattle.mt_word.specs.Version.{VersionView}
use Rattle.mt_border.specs.Border.{BorderView, first_held, inserting_version, with_forgotten, with_hidden, with_inserting}
use Rattle.mt_border.specs.Order.{IsBorder}
use Rattle.mt_border.specs.Table.{left_slots}
use Rattle.mt_border.specs.declared.entry.Entry.{Entry}
use Rattle.mt_border.specs.declared.slot_table.Slot.{Slot}
use Rattle.mt_border.specs.declared.unwritten.Unwritten.TheVariants.{Nothing}
use Rattle.mt_border.proofs.BorderLemmas.{border_hidden, inserting_deleted}
use Rattle.mt_arena.specs.Node.{border_at}
use Rattle.mt_arena.specs.Arena.{ArenaView, with_border_changed}
use Rattle.mt_chart.specs.Tree.{first}
use Rattle.mt_tree.specs.BorderSteps.{MayForget}
use Rattle.mt_tree.specs.Keeping.{KeepsTree}
use Rattle.mt_tree.proofs.AgeLemmas.{ages_forgotten, ages_inserting}
use Rattle.mt_steps.specs.declared.way.Way.{Way}
use Rattle.mt_steps.specs.declared.progress.Progress.TheVariants.{Moved}
use Rattle.mt_steps.specs.Step.{StepLaw}
use Rattle.mt_steps.specs.World.{World, IsLockedBorder, NotAmong}
use Rattle.mt_steps.specs.Way.{prefix_of}
use Rattle.mt_steps.proofs.BorderLemmas.{among_one, now_named}
use Rattle.mt_steps.proofs.FrameLemmas.{goes_same, quiet_same}
use Rattle.mt_write.specs.declared.writing.Edit.{Edit}
use Rattle.mt_write.specs.declared.writing.Stage.{Stage}
use Rattle.mt_write.specs.declared.writing.Stage.TheVariants.{Forgets, Hidden, Stored}
use Rattle.mt_write.specs.Held.{edit_request, stage_held}
use Rattle.mt_write.specs.Writing.{FirstHeld, HasHidden, HasLocked, IsInserting, StageIsTrue}
use Rattle.mt_write.proofs.InsertLemmas.{goes_marked, sound_now}
use Rattle.mt_write.proofs.WriteLemmas.{quiet_step}

-- ---- the version of a border that is marked
inserting_locked : (held : Bool) (v : VersionView) → (inserting_version held v).locked ≡ v.locked
inserting_locked true v = refl
inserting_locked false v = refl

inserting_set : (held : Bool) (v : VersionView) → held ≡ true → (inserting_version held v).inserting ≡ true
inserting_set held v is = ap (λ (h : Bool). (inserting_version h v).inserting) is

-- ---- once a row is hidden
-- its slot is the first unused one, and held a key
hidden_held : (live : List Entry) (place : ℕ) (unused : List Slot) → place < length live → first_held (left_slots (take 1 (drop place live)) ++ unused) ≡ true
hidden_held [] place unused within = absurd (omega (arith, within))
hidden_held (x ∷ live) zero unused within = refl
hidden_held (x ∷ live) (suc place) unused within = hidden_held live place unused (omega (arith, within))

held_some : (slots : List Slot) → first_held slots ≡ true → 0 < length slots
held_some [] held = absurd (let clash : false ≡ true = held in cc)
held_some (x ∷ slots) held = omega arith

pub hidden_is : (a : ArenaView) (w : World) (n : ℕ) (b : BorderView) (place : ℕ) → border_at a.nodes n ≡ Some b → IsSome (w.chart n) → b.version.locked ≡ true → b.version.deleted ≡ false → b.unwritten ≡ Nothing → NotAmong n w.closing → IsBorder b → place < length b.live
    → HasHidden FirstHeld (with_border_changed a n (λ x. with_hidden x place)) w n
hidden_is a w n b place named known locked alive written free sound within =
    let whole = border_hidden b place within written sound in
    let held = hidden_held b.live place b.unused within in
    let slots = whole.slots in
    let some = held_some (with_hidden b place).unused held in
    record { b = with_hidden b place; named = now_named a n b (λ x. with_hidden x place) named; known = known; locked = locked; alive = alive; written = written; free = free; sound = whole; room = omega (arith, slots, some); still = held }

-- the border is locked
pub hidden_locked : (Still : BorderView → Type 0) (prefix : List ℕ) (a : ArenaView) (w : World) (n : ℕ) → HasHidden Still a w n → HasLocked prefix a w n None
hidden_locked Still prefix a w n h = record {
  locked = λ other i. subst (λ (m : ℕ). IsLockedBorder a w m) (sym (among_one other n i)) (record { b = h.b; named = h.named; known = h.known; locked = h.locked; alive = h.alive; written = h.written; free = h.free });
  own = first;
  halves = tt;
}

-- once it is marked, its row may be dropped
pub marked_is : (a after : ArenaView) (w : World) (n : ℕ) → HasHidden FirstHeld a w n → after ≡ with_border_changed a n with_inserting → IsSomeAnd (border_at after.nodes n) IsBorder → HasHidden IsInserting after w n
marked_is a after w n h is sound = subst (λ (x : ArenaView). HasHidden IsInserting x w n) (sym is) (record {
  b = with_inserting h.b;
  named = now_named a n h.b with_inserting h.named;
  known = h.known;
  locked = inserting_locked (first_held h.b.unused) h.b.version ∙ h.locked;
  alive = inserting_deleted (first_held h.b.unused) h.b.version ∙ h.alive;
  written = h.written;
  free = h.free;
  sound = sound_now a after n h.b with_inserting h.named is sound;
  room = h.room;
  still = inserting_set (first_held h.b.unused) h.b.version h.still;
})

pub may_forget : (a : ArenaView) (w : World) (n : ℕ) → HasHidden IsInserting a w n → IsSomeAnd (border_at a.nodes n) MayForget
may_forget a w n h = subst (λ (o : Option BorderView). IsSomeAnd o MayForget) (sym h.named) (record { room = h.room; marked = h.still; written = h.written })

-- ---- the steps
module _ (C : ℕ) (a : ArenaView) (log : LogView) (key : List ℕ) (edit : Edit) (way : Way) (commit : ℕ) (after : ArenaView) where
  abbrev n : ℕ
  n = way.node.0

  abbrev ForgetLaw : Stage → Stage → Type 0
  ForgetLaw stage then = StepLaw C a after log log (edit_request key edit) (stage_held n stage) Moved (stage_held n then) (λ begun moves past x w. StageIsTrue C key edit way stage begun x w) (λ begun moves past x w. StageIsTrue C key edit way then begun x w)

  -- the border is marked
  pub marks : KeepsTree a after → IsSomeAnd (border_at after.nodes n) IsBorder → after ≡ with_border_changed a n with_inserting → ForgetLaw (Hidden commit) (Forgets commit)
  marks keeps sound is = record {
    steps = λ now begun moves past w world before h.
        let (goes, content) = goes_marked a n with_inserting after is keeps (n ∷ []) (λ next. StageIsTrue C key edit way (Forgets commit) begun after next) now w h.b h.named world (ages_inserting h.b) refl h.locked (inserting_deleted (first_held h.b.unused) h.b.version ∙ h.alive) h.free first
        (marked_is a after w n h is sound) in
        quiet_step key edit goes content refl refl (inl refl);
  }

  -- or it can't be marked
  pub skips : after ≡ a → ForgetLaw (Hidden commit) (Stored commit None)
  skips same = subst (λ (x : ArenaView). StepLaw C a x log log (edit_request key edit) (stage_held n (Hidden commit)) Moved (stage_held n (Stored commit None)) (λ begun moves past y w. StageIsTrue C key edit way (Hidden commit) begun y w) (λ begun moves past y w. StageIsTrue C key edit way (Stored commit None) begun y w)) (sym same) (record {
    steps = λ now begun moves past w world before h.
        quiet_step key edit (goes_same now a w _ (n ∷ []) (n ∷ []) refl world (hidden_locked FirstHeld (prefix_of key way) a w n h)) (quiet_same a log).content refl refl (inl refl);
  })

  -- the row is dropped
  pub forgets : KeepsTree a after → after ≡ with_border_changed a n with_forgotten → ForgetLaw (Forgets commit) (Stored commit None)
  forgets keeps is = record {
    steps = λ now begun moves past w world before h.
        let (goes, content) = goes_marked a n with_forgotten after is keeps (n ∷ []) (λ next. StageIsTrue C key edit way (Stored commit None) begun after next) now w h.b h.named world (ages_forgotten h.b h.sound (record { room = h.room; marked = h.still; written = h.written })) refl h.locked h.alive h.free first
        (subst (λ (x : ArenaView). HasLocked (prefix_of key way) x w n None) (sym is) (record {
          locked = λ other i. subst (λ (m : ℕ). IsLockedBorder (with_border_changed a n with_forgotten) w m) (sym (among_one other n i)) (record { b = with_forgotten h.b; named = now_named a n h.b with_forgotten h.named; known = h.known; locked = h.locked; alive = h.alive; written = h.written; free = h.free });
          own = first;
          halves = tt;
        })) in
        quiet_step key edit goes content refl refl (inl refl);
  }

-- What a put makes ready at its border, or at the half to which its key belongs.
use Rattle.std.proofs.Common.{ℕ, ◌≡◌, ◌<◌, inl, inr, List, [], ◌∷◌, length, Option, Some, None, true, false, refl, sym, ap, subst, ◌∙◌, arith, IsSomeAnd}
use Rattle.mt_types.specs.declared.row.Row.{Row}
use Rattle.mt_types.specs.declared.event.Request.TheVariants.{Put as PutRequest}
use Rattle.mt_types.specs.declared.refusal.Refusal.{Refusal}
use Rattle.mt_commit.specs.Log.{LogView}
use Rattle.mt_word.specs.declared.permutation_word.TheConstants.{SLOTS}
use Rattle.mt_border.specs.Border.{BorderView, with_inserting, with_splitting, first_held, row_at}
use Rattle.mt_border.specs.Order.{IsBorder}
use Rattle.mt_border.specs.declared.entry.Entry.{Entry}
use Rattle.mt_border.specs.declared.found.Found.{Found}
use Rattle.mt_border.proofs.BorderLemmas.{inserting_deleted}
use Rattle.mt_border.specs.declared.unwritten.Unwritten.TheVariants.{Nothing}
use Rattle.mt_tree.specs.BorderSteps.{MayWriteKey}
use Rattle.mt_border.specs.Keys.{key_seen, IsKey}
use Rattle.mt_arena.specs.Node.{border_at}
use Rattle.mt_steps.proofs.LayerLemmas.{goes_given_back}
use Rattle.mt_write.proofs.SpareLemmas.{has_locked_back, half_goes, spares_go}
use Rattle.mt_arena.specs.Arena.{ArenaView, with_border_changed}
use Rattle.mt_chart.specs.Tree.{Arena}
use Rattle.mt_tree.specs.Descent.{found_for, row_found}
use Rattle.mt_steps.specs.declared.way.Way.{Way}
use Rattle.mt_write.specs.declared.writing.Edit.{Edit}
use Rattle.mt_write.specs.declared.writing.Edit.TheVariants.{Put as PutEdit, Remove as RemoveEdit}
use Rattle.mt_write.specs.declared.writing.Stage.{Stage}
use Rattle.mt_write.specs.declared.writing.Stage.TheVariants.{Searched, Copies, Halved, LayerSpared, Reserved, Made, Failed}
use Rattle.mt_write.specs.declared.writing.Halves.{Halves}
use Rattle.mt_write.specs.declared.writing.Insertion.{Insertion}
use Rattle.mt_border.specs.declared.unwritten.SlotKey.{SlotKey}
use Rattle.mt_steps.specs.declared.entering.There.{There}
use Rattle.mt_steps.specs.declared.progress.Progress.TheVariants.{Moved}
use Rattle.mt_steps.specs.World.{World, IsWorld, Goes}
use Rattle.mt_steps.specs.Way.{rest_of, prefix_of}
use Rattle.mt_steps.specs.Step.{Stepped, StepLaw, bounds, MayFail}
use Rattle.mt_write.specs.Causes.{version_fault}
use Rattle.mt_write.specs.Held.{put_request, edit_request, stage_held, owned}
use Rattle.mt_write.specs.Writing.{IsLockedAt, HasLocked, IsNewRow, IsMade, StageIsTrue}
use Rattle.mt_write.specs.Splitting.{AreCopied}
use Rattle.mt_write.specs.Ready.{SomeSets, IsBack, Reserves, Prepares}
use Rattle.mt_steps.proofs.FrameLemmas.{goes_same, quiet_same}
use Rattle.mt_write.proofs.EntryLemmas.{is_marked, marked_locked}
use Rattle.mt_write.proofs.InsertLemmas.{goes_marked}
use Rattle.mt_tree.proofs.AgeLemmas.{ages_inserting}
use Rattle.mt_steps.proofs.BorderLemmas.{now_named}
use Rattle.mt_steps.proofs.FoundLemmas.{some_and, some_at}
use Rattle.mt_write.proofs.WriteLemmas.{alone, as_put, fails_at, has_changed, owned_at-changed, written_at, no_get, otherwise_tells, own_agrees, put_otherwise, quiet_step}

-- no entry of the upper half is copied yet
none_copied : (b : BorderView) (cut : ℕ) (entries : List Entry) → entries ≡ [] → cut < SLOTS → AreCopied (with_splitting b) cut entries
none_copied b cut entries empty last = subst (λ (es : List Entry). AreCopied (with_splitting b) cut es) (sym empty) (record { first = refl; some = omega (arith, last) })

-- a key may be written into the first unused slot of a border that was marked for it
pub may_write_marked : (a after : ArenaView) (n : ℕ) (slot_key : SlotKey) → IsSomeAnd (border_at a.nodes n) (λ b. length b.live < SLOTS) → IsSomeAnd (border_at a.nodes n) (λ b. b.version.locked ≡ true) → IsSomeAnd (border_at a.nodes n) (λ b. b.unwritten ≡ Nothing)
    → after ≡ with_border_changed a n with_inserting → IsKey (key_seen slot_key) → IsSomeAnd (border_at after.nodes n) (λ b. MayWriteKey b slot_key)
may_write_marked a after n slot_key rooms locked written is whole =
    let (b, named, room) = some_and _ (border_at a.nodes n) rooms in
    let own_lock = some_at (λ (x : BorderView). x.version.locked ≡ true) (border_at a.nodes n) b locked named in
    let own_written = some_at (λ (x : BorderView). x.unwritten ≡ Nothing) (border_at a.nodes n) b written named in
    let here : border_at after.nodes n ≡ Some (with_inserting b) = subst (λ (x : ArenaView). border_at x.nodes n ≡ Some (with_inserting b)) (sym is) (now_named a n b with_inserting named) in
    subst (λ (o : Option BorderView). IsSomeAnd o (λ x. MayWriteKey x slot_key)) (sym here)
    (record { room = room; locked = marked_locked (first_held b.unused) b.version ∙ own_lock; written = own_written; marked = λ was. is_marked (first_held b.unused) b.version was; whole = whole })

-- ---- ready
module _ (C : ℕ) (a : ArenaView) (log : LogView) (key : List ℕ) (sets : List (ℕ × List ℕ)) (only : Option ℕ) (way : Way) where
  abbrev ReadyLaw : There → ArenaView → LogView → Stage → Type 0
  ReadyLaw there after left stage = StepLaw C a after log left (put_request key sets only) (stage_held way.node.0 (Searched there)) Moved (stage_held way.node.0 stage) (λ begun moves past x w. StageIsTrue C key (PutEdit sets only) way (Searched there) begun x w) (λ begun moves past x w. StageIsTrue C key (PutEdit sets only) way stage begun x w)

  -- a new row is made, and the border is marked for it
  ready_reserve : version_fault only None ≡ None → (split : Option Halves) (new : Insertion) (slot_key : SlotKey) (row : Row) (after : ArenaView) (left : LogView) → new.split ≡ split → Reserves C key sets way a log new slot_key row after left → (now begun moves : ℕ) (past : List Arena) (w : World) → IsWorld a now w → (b : BorderView) → IsLockedAt a key way b w → HasLocked (prefix_of key way) a w way.node.0 split
      → Stepped C now moves past a after log left w (put_request key sets only) (record { owns = owned way.node.0 split; reserves = 0; committed = None; blocked = None }) Moved (stage_held way.node.0 (Reserved new slot_key row)) (λ m next. StageIsTrue C key (PutEdit sets only) way (Reserved new slot_key row) begun after next)
  ready_reserve agrees split new slot_key row after left split_is f now begun moves past w world b at has =
      let same : f.b ≡ b = (let both : ◌≡◌ {A = Option BorderView} (Some f.b) (Some b) = sym f.named ∙ at.named in cc) in
      let held = first_held b.unused in
      let alive : (with_inserting b).version.deleted ≡ false = inserting_deleted held b.version ∙ at.alive in
      let locked : (with_inserting b).version.locked ≡ true = marked_locked held b.version ∙ at.locked in
      let here = now_named a way.node.0 b with_inserting at.named in
      let sound : IsBorder (with_inserting b) = some_at IsBorder (border_at after.nodes way.node.0) (with_inserting b) f.sound (subst (λ (x : ArenaView). border_at x.nodes way.node.0 ≡ Some (with_inserting b)) (sym f.marked) here) in
      let made : IsNewRow C key sets way b new row = subst (λ (x : BorderView). IsNewRow C key sets way x new row) same f.made in
      let owned_is : owned way.node.0 split ≡ owned way.node.0 new.split = ap (owned way.node.0) (sym split_is) in
      let (goes, content) = goes_marked a way.node.0 with_inserting after f.marked f.keeps (owned way.node.0 split) (λ next. StageIsTrue C key (PutEdit sets only) way (Reserved new slot_key row) begun after next) now w b at.named world (ages_inserting b) refl at.locked alive at.free has.own (subst (λ (x : ArenaView). StageIsTrue C key (PutEdit sets only) way (Reserved new slot_key row) begun x w) (sym f.marked) (
        with_inserting b,
        written_at _ key way (with_inserting b) w at.written (owned_at-changed a key way b w with_inserting at.named at.layer at.stands at.last refl refl refl alive locked at.free),
        record { sets = sets; only = only; is_put = refl; agrees = agrees },
        record { bytes = made.bytes; fits = made.fits; sound = sound; stored_is = made.stored_is; absent = made.absent; columns = made.columns; row_is = made.row_is },
        record { room = subst (λ (x : BorderView). length x.live < SLOTS) same f.room; marked = λ was. is_marked held b.version was; key_is = f.key_is; whole = f.whole },
        subst (λ (s : Option Halves). HasLocked (prefix_of key way) (with_border_changed a way.node.0 with_inserting) w way.node.0 s) (sym split_is) (has_changed (prefix_of key way) a way.node.0 b with_inserting at.named w split locked alive at.written refl has),
      )) in
      record {
        goes = subst (λ (owns : List ℕ). Goes now a after w (owned way.node.0 split) owns (λ next. StageIsTrue C key (PutEdit sets only) way (Reserved new slot_key row) begun after next)) owned_is goes;
        does = (record { content = content; trimmed = ap (λ (l : LogView). l.held_after) f.reserved; deltas = ap (λ (l : LogView). l.deltas) f.reserved; rows = ap (λ (l : LogView). l.rows) f.reserved }, refl);
        reserved = let more = ap (λ (l : LogView). l.reserved) f.reserved in omega (arith, more);
        bounds = ap bounds f.reserved;
        blocked = inl refl;
        may = λ get. absurd (no_get key (PutEdit sets only) get);
      }

  abbrev FailStep : ArenaView → LogView → Option Halves → Refusal → ℕ → ℕ → ℕ → List Arena → World → Type 0
  FailStep after left split refusal now begun moves past w =
      Stepped C now moves past a after log left w (put_request key sets only) (record { owns = owned way.node.0 split; reserves = 0; committed = None; blocked = None }) Moved (stage_held way.node.0 (Failed refusal split)) (λ m next. StageIsTrue C key (PutEdit sets only) way (Failed refusal split) begun after next)

  ready_fail : (split : Option Halves) (refusal : Refusal) (after : ArenaView) (left : LogView) → MayFail log (PutRequest key sets) refusal × IsBack a after × (left ≡ log) → (now begun moves : ℕ) (past : List Arena) (w : World) → IsWorld a now w → HasLocked (prefix_of key way) a w way.node.0 split → FailStep after left split refusal now begun moves past w
  ready_fail split refusal after left (may, back, same_log) now begun moves past w world has = subst (λ (l : LogView). FailStep after l split refusal now begun moves past w) (sym same_log) (elim back [
    | inl same ↦ subst (λ (x : ArenaView). FailStep x log split refusal now begun moves past w) (sym same) (quiet_step key (PutEdit sets only)
        (goes_same now a w _ (owned way.node.0 split) (owned way.node.0 split) refl world (has, as_put key sets only refusal may.0, otherwise_tells a w key way refusal split (put_otherwise key sets refusal may.0)))
        (quiet_same a log).content refl refl (fails_at log refusal may.1))
    | inr gave ↦ (let o = gave.occupied in
        let (goes, content) = goes_given_back now a gave.between after w gave.number gave.node (owned way.node.0 split) (λ next. StageIsTrue C key (PutEdit sets only) way (Failed refusal split) begun after next) o.vacant o.updates o.retired o.unknown o.keeps gave.back gave.retired gave.keeps world
        (has_locked_back (prefix_of key way) a gave.between after w way.node.0 split gave.number gave.node o.vacant o.updates gave.back has, as_put key sets only refusal may.0, otherwise_tells after w key way refusal split (put_otherwise key sets refusal may.0)) in quiet_step key (PutEdit sets only)
        goes
        content refl refl (fails_at log refusal may.1))
  ])

  -- the row at the border is of the version that is asked for
  abbrev Agrees : Type 0
  Agrees = (b : BorderView) → border_at a.nodes way.node.0 ≡ Some b → version_fault only (row_found b.live (found_for (rest_of key way) b.live)) ≡ None

  ready : (there : There) → Agrees → (stage : Stage) (after : ArenaView) (left : LogView) → Prepares C key sets way a log None stage after left → ReadyLaw there after left stage
  ready there agrees (Reserved new slot_key row) after left (none, f) = record {
    steps = λ now begun moves past w world before truth. let (b, at, told) = truth in ready_reserve (subst (λ (o : Found). version_fault only (row_found f.b.live o) ≡ None) f.made.absent (agrees f.b f.named)) None new slot_key row after left none f now begun moves past w world b at (alone a key way b w at);
  }
  ready there agrees (Copies half cut place outline entries) after left (none, f, empty, same_log) = record {
    steps = λ now begun moves past w world before truth.
        let (b, was, told) = truth in
        let same : f.b ≡ b = (let both : ◌≡◌ {A = Option BorderView} (Some f.b) (Some b) = sym f.named ∙ was.named in cc) in
        let at : IsLockedAt a key way f.b w = subst (λ (x : BorderView). IsLockedAt a key way x w) (sym same) was in
        let (goes, content) = half_goes now begun a after w key way half cut place outline f world at (λ next. StageIsTrue C key (PutEdit sets only) way (Copies half cut place outline entries) begun after next)
        (λ at c s. (with_splitting f.b, at, refl, c, s, record { right = f.read.right; order = f.read.order; keys = f.read.keys }, none_copied f.b cut entries empty c.best.lawful.last, record { sets = sets; only = only; is_put = refl; agrees = subst (λ (o : Found). version_fault only (row_found f.b.live o) ≡ None) f.cut_at.absent (agrees f.b f.named) })) in
        subst (λ (l : LogView). Stepped C now moves past a after log l w (put_request key sets only) (stage_held way.node.0 (Searched there)) Moved (stage_held way.node.0 (Copies half cut place outline entries)) (λ m next. StageIsTrue C key (PutEdit sets only) way (Copies half cut place outline entries) begun after next)) (sym same_log)
        (quiet_step key (PutEdit sets only) goes content refl refl (inl refl));
  }
  ready there agrees (LayerSpared layer entries) after left (none, f, same_log) = record {
    steps = λ now begun moves past w world before truth.
        let (b, was, told) = truth in
        let same : f.b ≡ b = (let both : ◌≡◌ {A = Option BorderView} (Some f.b) (Some b) = sym f.named ∙ was.named in cc) in
        let at : IsLockedAt a key way f.b w = subst (λ (x : BorderView). IsLockedAt a key way x w) (sym same) was in
        let (goes, content) = spares_go now begun a after w key way layer entries f world at in
        subst (λ (l : LogView). Stepped C now moves past a after log l w (put_request key sets only) (stage_held way.node.0 (Searched there)) Moved (stage_held way.node.0 (LayerSpared layer entries)) (λ m next. StageIsTrue C key (PutEdit sets only) way (LayerSpared layer entries) begun after next)) (sym same_log) (quiet_step key (PutEdit sets only)
        goes
        content refl refl (inl refl));
  }
  ready there agrees (Made place stored columns logged) after left (none, f) = record {
    steps = λ now begun moves past w world before truth.
        let (b, at, told) = truth in
        let same : f.b ≡ b = (let both : ◌≡◌ {A = Option BorderView} (Some f.b) (Some b) = sym f.named ∙ at.named in cc) in
        subst (λ (x : ArenaView). Stepped C now moves past a x log left w (put_request key sets only) (stage_held way.node.0 (Searched there)) Moved (stage_held way.node.0 (Made place stored columns logged)) (λ m next. StageIsTrue C key (PutEdit sets only) way (Made place stored columns logged) begun x next)) (sym f.same)
        (record {
          goes = goes_same now a w _ (way.node.0 ∷ []) (way.node.0 ∷ []) refl world (b, at, record { sets = sets; only = only; is_put = refl; agrees = subst (λ (x : BorderView). version_fault only (row_at place x.live) ≡ None) same (subst (λ (o : Found). version_fault only (row_found f.b.live o) ≡ None) f.made.there (agrees f.b f.named)) }, subst (λ (x : BorderView). IsMade C key sets way x place stored columns logged) same f.made);
          does = (record { content = λ k row. ((λ h. h), (λ h. h)); trimmed = ap (λ (l : LogView). l.held_after) f.reserved; deltas = ap (λ (l : LogView). l.deltas) f.reserved; rows = ap (λ (l : LogView). l.rows) f.reserved }, refl);
          reserved = let more = ap (λ (l : LogView). l.reserved) f.reserved in omega (arith, more);
          bounds = ap bounds f.reserved;
          blocked = inl refl;
          may = λ get. absurd (no_get key (PutEdit sets only) get);
        });
  }
  ready there agrees (Failed refusal split) after left (none, may, same, same_log) = subst (λ (s : Option Halves). ReadyLaw there after left (Failed refusal s)) (sym none) (record {
    steps = λ now begun moves past w world before truth. let (b, at, told) = truth in ready_fail None refusal after left (may, same, same_log) now begun moves past w world (alone a key way b w at);
  })
  ready there agrees _ after left f = absurd f

  pub readies : (there : There) (stage : Stage) (edit : Edit) (after : ArenaView) (left : LogView) → edit ≡ PutEdit sets only → Agrees → Prepares C key sets way a log None stage after left
      → StepLaw C a after log left (edit_request key edit) (stage_held way.node.0 (Searched there)) Moved (stage_held way.node.0 stage) (λ begun moves past x w. StageIsTrue C key edit way (Searched there) begun x w) (λ begun moves past x w. StageIsTrue C key edit way stage begun x w)
  readies there stage edit after left is_put agrees p =
      subst (λ (e : Edit). StepLaw C a after log left (edit_request key e) (stage_held way.node.0 (Searched there)) Moved (stage_held way.node.0 stage) (λ begun moves past x w. StageIsTrue C key e way (Searched there) begun x w) (λ begun moves past x w. StageIsTrue C key e way stage begun x w)) (sym is_put)
      (ready there agrees stage after left p)

-- ---- ready in a half
pub one_or_none : {x : Halves} → ◌≡◌ {A = Option Halves} (Some x) None → ⊥
one_or_none e = cc

half_ready : (C : ℕ) (a : ArenaView) (log : LogView) (key : List ℕ) (sets : List (ℕ × List ℕ)) (only : Option ℕ) (way : Way) (split : Halves) (there : ℕ) (stage : Stage) (after : ArenaView) (left : LogView) → Prepares C key sets way a log (Some split) stage after left
    → StepLaw C a after log left (put_request key sets only) (stage_held way.node.0 (Halved split there)) Moved (stage_held way.node.0 stage) (λ begun moves past x w. StageIsTrue C key (PutEdit sets only) way (Halved split there) begun x w) (λ begun moves past x w. StageIsTrue C key (PutEdit sets only) way stage begun x w)
half_ready C a log key sets only way split there (Reserved new slot_key row) after left (is, f) = record {
  steps = λ now begun moves past w world before truth. let (b, at, h, has, p) = truth in ready_reserve C a log key sets only way (own_agrees sets only p) (Some split) new slot_key row after left is f now begun moves past w world b at has;
}
half_ready C a log key sets only way split there (Failed refusal halves) after left (is, may, same, same_log) = subst (λ (s : Option Halves). StepLaw C a after log left (put_request key sets only) (stage_held way.node.0 (Halved split there)) Moved (stage_held way.node.0 (Failed refusal s)) (λ begun moves past x w. StageIsTrue C key (PutEdit sets only) way (Halved split there) begun x w) (λ begun moves past x w. StageIsTrue C key (PutEdit sets only) way (Failed refusal s) begun x w)) (sym is) (record {
  steps = λ now begun moves past w world before truth. let (b, at, h, has, p) = truth in ready_fail C a log key sets only way (Some split) refusal after left (may, same, same_log) now begun moves past w world has;
})
half_ready C a log key sets only way split there (Copies half cut place outline entries) after left (is, f, empty, same_log) = absurd (one_or_none is)
half_ready C a log key sets only way split there (LayerSpared layer entries) after left (is, f, same_log) = absurd (one_or_none is)
half_ready C a log key sets only way split there (Made place stored columns logged) after left (is, f) = absurd (one_or_none is)
half_ready C a log key sets only way split there _ after left f = absurd f

pub half_readies : (C : ℕ) (a : ArenaView) (log : LogView) (key : List ℕ) (edit : Edit) (way : Way) (split : Halves) (there : ℕ) (stage : Stage) (after : ArenaView) (left : LogView) → SomeSets edit (λ sets. Prepares C key sets way a log (Some split) stage after left)
    → StepLaw C a after log left (edit_request key edit) (stage_held way.node.0 (Halved split there)) Moved (stage_held way.node.0 stage) (λ begun moves past x w. StageIsTrue C key edit way (Halved split there) begun x w) (λ begun moves past x w. StageIsTrue C key edit way stage begun x w)
half_readies C a log key (PutEdit sets only) way split there stage after left p = half_ready C a log key sets only way split there stage after left p
half_readies C a log key RemoveEdit way split there stage after left p = absurd p

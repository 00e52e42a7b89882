-- A put or remove of which no delta stays in the log: its two steps, as if the delta were appended and trimmed.
use Rattle.std.proofs.Common.{ℕ, ◌≡◌, ◌≤◌, ◌<◌, ◌+◌, ◌∙◌, List, [], ◌∷◌, ◌++◌, length, Option, Some, None, IsSome, Result, Ok, Err, Bool, true, false, inl, refl, sym, ap, subst, arith}
use Rattle.std.specs.Prelude.{IsSomeAnd, IfErr, MatchOption, cond}
use Rattle.std.specs.Option.{option_or}
use Rattle.std.proofs.lemmas.List.{length-append}
use Rattle.mt_types.specs.Limits.{refused_if}
use Rattle.mt_types.specs.declared.limits.TheConstants.{MAX_KEY_BYTES}
use Rattle.mt_types.specs.declared.event.Request.TheVariants.{Put as PutRequest, Remove as RemoveRequest}
use Rattle.mt_types.specs.declared.refusal.Refusal.{Refusal}
use Rattle.mt_types.specs.declared.refusal.Refusal.TheVariants.{NoMemory, Spent, FeedFull}
use Rattle.mt_types.specs.declared.row.Delta.{Delta}
use Rattle.mt_types.specs.declared.row.Row.{Row}
use Rattle.mt_slice.specs.Place.{AreBytes}
use Rattle.mt_word.specs.declared.permutation_word.TheConstants.{SLOTS}
use Rattle.mt_commit.specs.Log.{LogView, IsLog, effect_of, newest, reserve_fault, slowest, trimmed, with_delta}
use Rattle.mt_commit.specs.declared.effect.Effect.TheVariants.{Adds, Keeps, Removes}
use Rattle.mt_commit.proofs.LogLemmas.{appended_log}
use Rattle.mt_border.specs.Border.{BorderView, row_at, with_filled, with_hidden, with_inserting, with_shown, with_value}
use Rattle.mt_border.specs.Order.{IsBorder}
use Rattle.mt_border.specs.declared.found.Found.{Found}
use Rattle.mt_border.specs.declared.found.Found.TheVariants.{Absent as AbsentFound, Row as RowFound}
use Rattle.mt_arena.specs.Node.{border_at}
use Rattle.mt_arena.specs.Arena.{ArenaView, IsArena, with_border_changed}
use Rattle.mt_tree.specs.Descent.{IsFoundAt, found_for, row_found}
use Rattle.mt_tree.specs.BorderSteps.{HidesRowAt, MayShowAt, SetsRowAt, ShowsNext}
use Rattle.mt_steps.specs.Way.{Finds, rest_of}
use Rattle.mt_steps.specs.Step.{MayFail, columns_after}
use Rattle.mt_steps.specs.declared.entering.There.{There}
use Rattle.mt_steps.specs.declared.progress.Progress.TheVariants.{Committed, Moved}
use Rattle.mt_write.specs.declared.writing.Write.{Write}
use Rattle.mt_write.specs.declared.writing.Edit.TheVariants.{Put as PutEdit, Remove as RemoveEdit}
use Rattle.mt_write.specs.declared.writing.Stage.{Stage}
use Rattle.mt_write.specs.declared.writing.Stage.TheVariants.{Failed, Filled, KeyWritten, Searched, Made, Reserved, Taken}
use Rattle.mt_write.specs.Ready.{Inserts, Prepares, Reserves, put_delta, remove_delta, with_room}
use Rattle.mt_write.specs.Causes.{FailsBy, IsNotFailed, ReadyFor, RemoveFailsBy, fill_fault, put_fault, remove_fault, version_fault}
use Rattle.mt_write.specs.Follows.{WriteStep}
use Rattle.mt_write.specs.Runs.{CommitsAt, MayAct}
use Rattle.mt_write.proofs.CauseLemmas.{ready_err, ready_ok, room_ready}
use Rattle.mt_write.proofs.FindLemmas.{faults_told, found_is, found_stands}
use Rattle.mt_write.proofs.FinishLemmas.{ReadiedAt, commits_ready, committed_at, may_next, readied_more, readied_one}
use Rattle.mt_write.proofs.InsertLemmas.{key_there}
use Rattle.mt_write.proofs.LaterSteps.{writes_key, writes_value}
use Rattle.mt_border.specs.Entry.{entry_with, key_of_rest}
use Rattle.mt_border.specs.declared.unwritten.SlotKey.{SlotKey}
use Rattle.mt_border.specs.declared.unwritten.Unwritten.TheVariants.{Value}
use Rattle.mt_steps.proofs.BorderLemmas.{now_named}
use Rattle.mt_write.specs.declared.writing.Insertion.{Insertion}
use Rattle.mt_write.proofs.StageSteps.{hides_row, may_show, readies_put, readies_remove, row_there, shows_row, writes_row}

-- ---- the row that was found
row_is : (o : Option Row) → IsSome o → (row : Row) × (o ≡ Some row)
row_is None has = absurd (let clash : false ≡ true = has in cc)
row_is (Some row) has = (row, refl)

-- a put over it leaves as many rows
keeps_over : (o : Option Row) (row : Row) → IsSome o → effect_of o (Some row) ≡ Keeps
keeps_over None row has = absurd (let clash : false ≡ true = has in cc)
keeps_over (Some old) row has = refl

has_row : (a : ArenaView) (write : Write) (found : Found) → Finds a write.key write.way found → (place : ℕ) → found ≡ RowFound place → (b : BorderView) → border_at a.nodes write.way.node.0 ≡ Some b → IsSome (row_at place b.live)
has_row a write found f place row b named =
    let at = subst (λ (x : Found). IsFoundAt (rest_of write.key write.way) b.live x) row (found_stands a write.key write.way found f b named) in
    (row_there b.live place at.entry at.stands at.row).1

-- ---- why what was to be made was not made
-- for a fault, if there is one, and otherwise only if out of memory
abbrev pub MadeFor : (T : Type 0) → Option Refusal → Result T Refusal → Type 0
MadeFor T fault result = MatchOption fault (IfErr result (λ refusal. refusal ≡ NoMemory)) (λ due. result ≡ Err due)

-- the same of the stage that was made ready with it
pub made_ready : (T : Type 0) (fault : Option Refusal) (made : T) (stage : Stage) → IsNotFailed stage → MadeFor T fault (Ok made) → ReadyFor fault (Ok stage)
made_ready T None made stage stands never = stands
made_ready T (Some due) made stage stands never = (let clash : ◌≡◌ {A = Result T Refusal} (Ok made) (Err due) = never in absurd (cc))

pub made_refused : (T : Type 0) (fault : Option Refusal) (refusal : Refusal) → MadeFor T fault (Err refusal) → ReadyFor fault (Err refusal)
made_refused T None refusal memory = memory
made_refused T (Some due) refusal is =
    let both : ◌≡◌ {A = Result T Refusal} (Err refusal) (Err due) = is in
    let same : refusal ≡ due = cc in
    let turned : ◌≡◌ {A = Result Stage Refusal} (Err refusal) (Err due) = ap (λ (r : Refusal). Err r) same in
    turned

-- a remove may fail for lack of room in the log
room_fails : (T : Type 0) (log : LogView) (key : List ℕ) (spent full : Bool) (refusal : Refusal) → MadeFor T (option_or (refused_if spent Spent) (refused_if full (FeedFull (slowest log)))) (Err refusal) → MayFail log (RemoveRequest key) refusal
room_fails T log key true full refusal is =
    let both : ◌≡◌ {A = Result T Refusal} (Err refusal) (Err Spent) = is in
    let same : Spent ≡ refusal = cc in
    subst (λ (r : Refusal). MayFail log (RemoveRequest key) r) same (tt, tt)
room_fails T log key false true refusal is =
    let both : ◌≡◌ {A = Result T Refusal} (Err refusal) (Err (FeedFull (slowest log))) = is in
    let same : FeedFull (slowest log) ≡ refusal = cc in
    subst (λ (r : Refusal). MayFail log (RemoveRequest key) r) same (tt, refl)
room_fails T log key false false refusal is = subst (λ (r : Refusal). MayFail log (RemoveRequest key) r) (sym is) (tt, tt)

-- ---- its commit, which appends a delta that doesn't stay
module _ (C : ℕ) (a between after : ArenaView) (log left last : LogView) (write : Write) (there : There) (stage : Stage) (steps number : ℕ) (delta : Delta) (hides : Bool) where
  passes : ReadiedAt C a log write there between left stage steps → WriteStep C between after left (with_delta left delta) write stage (Committed number) (record write { stage = committed_at hides number })
      → delta.number ≡ newest left + 1 → 1 ≤ left.reserved → last ≡ trimmed (with_delta left delta) → newest last ≡ newest left + 1 → IsLog left → IsArena after → steps + 1 + cond hides 2 0 ≤ 4 → CommitsAt C a after log last write there (record { commit = number; steps = steps + 1; hides = hides })
  passes ready commits next room passed newest_is sound arena few =
      let long = length-append left.deltas (delta ∷ []) in
      commits_ready C a log write there between left stage steps ready hides after (with_delta left delta) last number commits (appended_log left delta (left.deltas ++ delta ∷ []) _ sound room next refl) arena passed (omega (arith, newest_is, long)) few

-- there is room for the delta
pub has_room : (log left : LogView) → left ≡ with_room log → 1 ≤ left.reserved
has_room log left reserved = subst (λ (l : LogView). 1 ≤ l.reserved) (sym reserved) (omega arith)

some_for : (place : ℕ) (o : Option BorderView) → IsSomeAnd o (λ x. (version : ℕ) → MayShowAt x place version) → (version : ℕ) → IsSomeAnd o (λ x. MayShowAt x place version)
some_for place (Some x) may version = may version
some_for place None may version = may

-- ---- a put
module _ (C : ℕ) (a : ArenaView) (log left : LogView) (write : Write) (there : There) (sets : List (ℕ × List ℕ)) (only : Option ℕ) (is : write.edit ≡ PutEdit sets only) (found : Found) (f : Finds a write.key write.way found)
    (b : BorderView) (named : border_at a.nodes write.way.node.0 ≡ Some b) (sound : IsBorder b) (agrees : None ≡ version_fault only (row_found b.live found)) where
  as_found : (at : Found) → found ≡ at → found_for (rest_of write.key write.way) b.live ≡ at
  as_found at is_at = sym (found_is a write.key write.way found f b named) ∙ is_at

  -- a stage fails at the border by the fault of what was found
  by_fault : (at : Found) → found ≡ at → (stage : Stage) → FailsBy (put_fault a log b at) None stage → IsSomeAnd (border_at a.nodes write.way.node.0) (λ x. FailsBy (put_fault a log x (found_for (rest_of write.key write.way) x.live)) None stage)
  by_fault at is_at stage fails = subst (λ (o : Option BorderView). IsSomeAnd o (λ x. FailsBy (put_fault a log x (found_for (rest_of write.key write.way) x.live)) None stage)) (sym named)
      (subst (λ (at : Found). FailsBy (put_fault a log b at) None stage) (sym (as_found at is_at)) fails)

  readies : (at : Found) → found ≡ at → (after : ArenaView) (stage : Stage) → Prepares C write.key sets write.way a log None stage after left → ReadyFor (put_fault a log b at) (Ok stage) → WriteStep C a after log left write (Searched there) Moved (record write { stage = stage })
  readies at is_at after stage ready fault = readies_put C a after log left write there sets only stage is
      (faults_told a write.key write.way found f b named only None sound agrees)
      ready (by_fault at is_at stage (ready_ok (put_fault a log b at) (Ok stage) stage None fault refl))

  fails : (at : Found) → found ≡ at → (after : ArenaView) → after ≡ a → (refusal : Refusal) → MayFail log (PutRequest write.key sets) refusal → left ≡ log → ReadyFor (put_fault a log b at) (Err refusal) → WriteStep C a after log left write (Searched there) Moved (record write { stage = Failed refusal None })
  fails at is_at after same refusal may kept fault = readies_put C a after log left write there sets only (Failed refusal None) is
      (faults_told a write.key write.way found f b named only None sound agrees)
      (refl, may, inl same, kept) (by_fault at is_at (Failed refusal None) (ready_err (put_fault a log b at) (Err refusal) refusal None fault refl))

  -- ---- over a row
  pub over_fails : (place : ℕ) → found ≡ RowFound place → (refusal : Refusal) → MayFail log (PutRequest write.key sets) refusal × (left ≡ log) → MadeFor (List (List ℕ)) (reserve_fault log) (Err refusal) → WriteStep C a a log left write (Searched there) Moved (record write { stage = Failed refusal None })
  over_fails place row refusal (may, kept) fault = fails (RowFound place) row a refl refusal may kept (made_refused (List (List ℕ)) (reserve_fault log) refusal fault)

  module _ (place : ℕ) (row : found ≡ RowFound place) (bytes : AreBytes write.key) (fits : length write.key ≤ MAX_KEY_BYTES) (made : List (List ℕ)) (ready : (made ≡ columns_after C sets (row_at place b.live)) × (left ≡ with_room log)) (fault : MadeFor (List (List ℕ)) (reserve_fault log) (Ok made)) where
    readies_over : WriteStep C a a log left write (Searched there) Moved (record write { stage = Made place write.key made made })
    readies_over = readies (RowFound place) row a (Made place write.key made made)
        (refl, record { b = b; named = named; made = record { bytes = bytes; fits = fits; sound = sound; stored_is = refl; there = as_found (RowFound place) row; made = ready.0; copied = refl }; same = refl; reserved = ready.1 })
        (made_ready (List (List ℕ)) (reserve_fault log) made (Made place write.key made made) tt fault)

    pub passes_over : MayAct C a log write found there → (after : ArenaView) (last : LogView) (number : ℕ) → number ≡ newest last → after ≡ with_border_changed a write.way.node.0 (λ x. with_value x place (record { version = number; columns = made }))
        → SetsRowAt a after write.way.node.0 place (record { version = number; columns = made }) → ((delta : Delta) → effect_of delta.before delta.after ≡ Keeps → last ≡ trimmed (with_delta left delta)) → newest last ≡ newest left + 1 → IsLog left → IsArena after → CommitsAt C a after log last write there (record { commit = number; steps = 2; hides = false })
    passes_over act after last number is_last written sets_row passed newest_is sound_left arena =
        let next : number ≡ newest left + 1 = is_last ∙ newest_is in
        let delta : Delta = put_delta (newest left + 1) write.key (row_at place b.live) made in
        let room = has_room log left ready.1 in
        passes C a a after log left last write there (Made place write.key made made) 1 number delta false (readied_one C a log write there act.may act.trimmed act.arena a left (Made place write.key made made) readies_over act.arena sound_left)
        (writes_row C a after left (with_delta left delta) write place write.key made made number next
        (subst (λ (n : ℕ). after ≡ with_border_changed a write.way.node.0 (λ x. with_value x place (record { version = n; columns = made }))) next written)
        (subst (λ (n : ℕ). SetsRowAt a after write.way.node.0 place (record { version = n; columns = made })) next sets_row)
        (subst (λ (o : Option BorderView). IsSomeAnd o (λ x. with_delta left delta ≡ with_delta left (put_delta (newest left + 1) write.key (row_at place x.live) made))) (sym named) refl) room)
        refl room (passed delta (keeps_over (row_at place b.live) _ (has_row a write found f place row b named))) newest_is sound_left arena (omega arith)

  -- ---- of a new key
  pub new_fails : (T : Type 0) (place : ℕ) → found ≡ AbsentFound place → length b.live < SLOTS → (after : ArenaView) (refusal : Refusal) → MayFail log (PutRequest write.key sets) refusal × (after ≡ a) × (left ≡ log) → MadeFor T (fill_fault log b) (Err refusal)
      → WriteStep C a after log left write (Searched there) Moved (record write { stage = Failed refusal None })
  new_fails T place none room after refusal (may, same, kept) fault = fails (AbsentFound place) none after same refusal may kept (room_ready a log b place (Err refusal) room (made_refused T (fill_fault log b) refusal fault))

  module _ (T : Type 0) (done : T) (place : ℕ) (none : found ≡ AbsentFound place) (room : length b.live < SLOTS) (between : ArenaView) (i : Inserts C write.key sets write.way a between) (reserved : left ≡ with_room log) (fault : MadeFor T (fill_fault log b) (Ok done)) (act : MayAct C a log write found there) (sound_left : IsLog left) (arena_between : IsArena between) where
    abbrev new : Insertion
    new = record { place = place; key = write.key; logged = columns_after C sets None; split = None }

    abbrev slot_key : SlotKey
    slot_key = key_of_rest (rest_of write.key write.way)

    abbrev row : Row
    row = record { version = 0; columns = columns_after C sets None }

    abbrev filled : Stage
    filled = Filled place write.key (columns_after C sets None) None

    reserves : Reserves C write.key sets write.way a log new slot_key row i.marked left
    reserves = record {
      b = b;
      named = named;
      made = record { bytes = i.bytes; fits = i.fits; sound = sound; stored_is = refl; absent = as_found (AbsentFound place) none; columns = refl; row_is = refl };
      room = room;
      key_is = refl;
      whole = i.whole;
      marked = i.marks;
      sound = i.marked_sound;
      keeps = i.marked_keeps;
      reserved = reserved;
    }

    readies_new : WriteStep C a i.marked log left write (Searched there) Moved (record write { stage = Reserved new slot_key row })
    readies_new = readies (AbsentFound place) none i.marked (Reserved new slot_key row) (refl, reserves) (room_ready a log b place (Ok (Reserved new slot_key row)) room (made_ready T (fill_fault log b) done (Reserved new slot_key row) tt fault))

    readied_new : ReadiedAt C a log write there between left filled 3
    readied_new =
        let w = i.writes in
        let one = readied_one C a log write there act.may act.trimmed act.arena i.marked left (Reserved new slot_key row) readies_new i.arena sound_left in
        let two = readied_more C a log write there i.marked left (Reserved new slot_key row) 1 one w.keyed (KeyWritten new row) (writes_key i.marked w.keyed write new slot_key row w.key w.key_keeps w.key_sound C left) sound_left w.arena in
        readied_more C a log write there w.keyed left (KeyWritten new row) 2 two between filled (writes_value w.keyed between write new row (λ own is. subst (λ (k : SlotKey). between ≡ with_border_changed w.keyed write.way.node.0 (λ x. with_filled x (entry_with k row))) (own_key own is) w.value) w.value_keeps w.value_sound C left) sound_left arena_between
      where
        own_key : (own : SlotKey) → IsSomeAnd (border_at i.writes.keyed.nodes write.way.node.0) (λ x. x.unwritten ≡ Value own) → slot_key ≡ own
        own_key own is = key_there i.marked i.writes.keyed write.way.node.0 (with_inserting b) slot_key (subst (λ (x : ArenaView). border_at x.nodes write.way.node.0 ≡ Some (with_inserting b)) (sym i.marks) (now_named a write.way.node.0 b with_inserting named)) i.writes.key own is

    pub may_show_new : (version : ℕ) → IsSomeAnd (border_at between.nodes write.way.node.0) (λ x. MayShowAt x place version)
    may_show_new version = some_for place (border_at between.nodes write.way.node.0) (may_show between write left place write.key (columns_after C sets None) None (C, may_next C a log write there between left filled 3 readied_new)) version

    pub passes_new : (after : ArenaView) (last : LogView) (number : ℕ) → number ≡ newest last → after ≡ with_border_changed between write.way.node.0 (λ x. with_shown x place number)
        → ShowsNext between after write.way.node.0 number → ((delta : Delta) → effect_of delta.before delta.after ≡ Adds → last ≡ trimmed (with_delta left delta)) → newest last ≡ newest left + 1 → IsArena after → CommitsAt C a after log last write there (record { commit = number; steps = 4; hides = false })
    passes_new after last number is_last shown shows passed newest_is arena =
        let next : number ≡ newest left + 1 = is_last ∙ newest_is in
        let delta : Delta = put_delta (newest left + 1) write.key None (columns_after C sets None) in
        let room = has_room log left reserved in
        passes C a between after log left last write there filled 3 number delta false readied_new
        (shows_row C between after left (with_delta left delta) write place write.key (columns_after C sets None) None number next
        (subst (λ (n : ℕ). after ≡ with_border_changed between write.way.node.0 (λ x. with_shown x place n)) next shown) (subst (λ (n : ℕ). ShowsNext between after write.way.node.0 n) next shows) refl room)
        refl room (passed delta refl) newest_is sound_left arena (omega arith)

-- ---- a remove
module _ (C : ℕ) (a : ArenaView) (log left : LogView) (write : Write) (there : There) (is : write.edit ≡ RemoveEdit) (found : Found) (f : Finds a write.key write.way found) (place : ℕ) (row : found ≡ RowFound place) (b : BorderView) (named : border_at a.nodes write.way.node.0 ≡ Some b) where
  there_is : found_for (rest_of write.key write.way) b.live ≡ RowFound place
  there_is = sym (found_is a write.key write.way found f b named) ∙ row

  -- a stage fails at the border by the fault of the room in the log
  by_log : (stage : Stage) → FailsBy (reserve_fault log) None stage → IsSomeAnd (border_at a.nodes write.way.node.0) (λ x. RemoveFailsBy (remove_fault log (found_for (rest_of write.key write.way) x.live)) (Some stage))
  by_log stage fails = subst (λ (o : Option BorderView). IsSomeAnd o (λ x. RemoveFailsBy (remove_fault log (found_for (rest_of write.key write.way) x.live)) (Some stage))) (sym named)
      (subst (λ (at : Found). FailsBy (remove_fault log at) None stage) (sym there_is) fails)

  pub remove_fails : (T : Type 0) (refusal : Refusal) → left ≡ log → MadeFor T (reserve_fault log) (Err refusal) → WriteStep C a a log left write (Searched there) Moved (record write { stage = Failed refusal None })
  remove_fails T refusal kept fault = readies_remove C a log left write there is (Some (Failed refusal None)) (refl, room_fails T log write.key _ _ refusal fault, kept)
      (by_log (Failed refusal None) (ready_err (reserve_fault log) (Err refusal) refusal None (made_refused T (reserve_fault log) refusal fault) refl)) (Failed refusal None) refl

  module _ (sound : IsBorder b) (bytes : AreBytes write.key) (fits : length write.key ≤ MAX_KEY_BYTES) (T : Type 0) (done : T) (reserved : left ≡ with_room log) (fault : MadeFor T (reserve_fault log) (Ok done)) where
    readies_found : (before : Row) → row_at place b.live ≡ Some before → WriteStep C a a log left write (Searched there) Moved (record write { stage = Taken place write.key before })
    readies_found before copied = readies_remove C a log left write there is (Some (Taken place write.key before))
        (record { b = b; named = named; found = record { bytes = bytes; fits = fits; sound = sound; stored_is = refl; there = there_is; is_remove = refl; copied = copied }; reserved = reserved })
        (by_log (Taken place write.key before) (ready_ok (reserve_fault log) (Ok (Taken place write.key before)) (Taken place write.key before) None (made_ready T (reserve_fault log) done (Taken place write.key before) tt fault) refl))
        (Taken place write.key before) refl

    pub passes_found : MayAct C a log write found there → (after : ArenaView) (last : LogView) (number : ℕ) → number ≡ newest last → after ≡ with_border_changed a write.way.node.0 (λ x. with_hidden x place) → HidesRowAt a after write.way.node.0 place
        → ((delta : Delta) → effect_of delta.before delta.after ≡ Removes → last ≡ trimmed (with_delta left delta)) → newest last ≡ newest left + 1 → IsLog left → IsArena after → CommitsAt C a after log last write there (record { commit = number; steps = 2; hides = true })
    passes_found act after last number is_last hidden hides passed newest_is sound_left arena =
        let next : number ≡ newest left + 1 = is_last ∙ newest_is in
        let (before, copied) = row_is (row_at place b.live) (has_row a write found f place row b named) in
        let delta : Delta = remove_delta (newest left + 1) write.key before in
        let room = has_room log left reserved in
        passes C a a after log left last write there (Taken place write.key before) 1 number delta true (readied_one C a log write there act.may act.trimmed act.arena a left (Taken place write.key before) (readies_found before copied) act.arena sound_left)
        (hides_row C a after left (with_delta left delta) write place write.key before number next hidden hides refl room)
        refl room (passed delta refl) newest_is sound_left arena (omega arith)

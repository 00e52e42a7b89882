-- The commits of a put or remove, what a remove makes ready, and their ends.
use Rattle.std.proofs.Common.{ℕ, ◌≡◌, ◌≢◌, ◌≤◌, ◌+◌, ◌*◌, ◌⊎◌, ◌↔◌, inl, inr, List, [], ◌∷◌, length, drop, Option, Some, None, IsSome, true, false, refl, sym, ap, subst, ◌∙◌, arith}
use Rattle.mt_types.specs.declared.row.Row.{Row}
use Rattle.mt_types.specs.declared.limits.TheConstants.{MAX_KEY_BYTES}
use Rattle.mt_types.specs.declared.event.Request.TheVariants.{PutIf as PutIfRequest}
use Rattle.mt_types.specs.declared.event.Answer.{Answer}
use Rattle.mt_types.specs.declared.event.Answer.TheVariants.{Absent as AbsentAnswer}
use Rattle.mt_types.specs.declared.refusal.Refusal.{Refusal}
use Rattle.mt_types.specs.declared.refusal.Refusal.TheVariants.{OtherVersion}
use Rattle.mt_slice.specs.Place.{Place, AreBytes, place_of, under}
use Rattle.mt_slice.specs.Classes.{class_of}
use Rattle.mt_slice.proofs.Slices.{bytes-drop}
use Rattle.mt_commit.specs.Log.{LogView, newest, with_delta}
use Rattle.mt_border.specs.Border.{BorderView, with_unlocked, with_hidden, with_shown, with_value, first_held, row_at}
use Rattle.mt_border.specs.Entry.{entry_row}
use Rattle.mt_border.specs.Order.{IsBorder}
use Rattle.mt_border.specs.declared.found.Found.TheVariants.{Row as RowFound}
use Rattle.mt_arena.specs.Node.{border_at}
use Rattle.mt_arena.specs.Arena.{ArenaView, with_border_changed}
use Rattle.mt_chart.specs.Tree.{first, Has}
use Rattle.mt_chart.specs.Chart.{Spot}
use Rattle.mt_tree.specs.Fields.{BorderChanges}
use Rattle.mt_tree.specs.Seen.{arena_seen, border_seen, entry_place}
use Rattle.mt_tree.specs.Keeping.{KeepsTree, IsOnIn, IsIndexAt}
use Rattle.mt_tree.specs.Descent.{found_for, row_found}
use Rattle.mt_tree.specs.BorderSteps.{ShowsNext, HidesRowAt, SetsRowAt}
use Rattle.mt_steps.specs.declared.way.Way.{Way}
use Rattle.mt_write.specs.declared.writing.Edit.{Edit}
use Rattle.mt_write.specs.declared.writing.Edit.TheVariants.{Put as PutEdit, Remove as RemoveEdit}
use Rattle.mt_write.specs.declared.writing.Stage.{Stage}
use Rattle.mt_write.specs.declared.writing.Stage.TheVariants.{Searched, Filled, Made, Taken, Stored, Hidden, Failed}
use Rattle.mt_write.specs.declared.writing.Halves.{Halves}
use Rattle.mt_steps.specs.declared.entering.There.{There}
use Rattle.mt_steps.specs.declared.progress.Progress.{Progress}
use Rattle.mt_steps.specs.declared.progress.Progress.TheVariants.{Moved, Committed, Answered, Refused}
use Rattle.mt_steps.specs.World.{World, IsWorld, RowsAreOfKeys, Goes, GoesBy}
use Rattle.mt_steps.specs.Way.{rest_of, prefix_of, IsLayerOf}
use Rattle.mt_steps.specs.Step.{Held, Truth, StepLaw, RowIs, IsQuiet, put_row, Commits, Changes, blocked_by, bounds, MayRefuse, TellsVersion, IsRight}
use Rattle.mt_write.specs.Causes.{version_fault}
use Rattle.mt_write.specs.Held.{edit_request, written_answer, stage_held, owned}
use Rattle.mt_write.specs.Writing.{Tells, IsLockedAt, HasHidden, FirstHeld, HasLocked, IsFound, StageIsTrue}
use Rattle.mt_write.proofs.ForgetLemmas.{hidden_is}
use Rattle.mt_write.specs.Ready.{PreparesRemove, LacksRow, put_delta, remove_delta}
use Rattle.mt_steps.specs.World.{IsLockedBorder}
use Rattle.mt_steps.proofs.FrameLemmas.{goes_same, quiet_same}
use Rattle.std.specs.Prelude.{IsSomeAnd}
use Rattle.mt_steps.proofs.FoundLemmas.{some_at, some_and}
use Rattle.mt_write.proofs.EntryLemmas.{row_of_content, entry_place_is}
use Rattle.mt_write.proofs.VersionLemmas.{other_found}
use Rattle.mt_tree.proofs.AgeLemmas.{ages_unlocked, ages_shown, ages_hidden, ages_value}
use Rattle.std.proofs.lemmas.Option.{slice_get_within}
use Rattle.mt_tree.proofs.RowLemmas.{stands_at, tells_row}
use Rattle.mt_steps.proofs.GetLemmas.{found_is_row}
use Rattle.mt_steps.proofs.BorderLemmas.{keys_same, keys_changed, goes_border, locked_may, own_free, mine_free, among_one}
use Rattle.mt_write.proofs.WriteLemmas.{alone, answer_right, commits_put, fails_at, has_changed, known_on, no_get, otherwise_tells, quiet_step, remove_otherwise}

-- ---- the commit
module _ (C : ℕ) (a : ArenaView) (log : LogView) (key : List ℕ) (edit : Edit) (way : Way) where
  abbrev rest : List ℕ
  rest = rest_of key way

  -- the place of the key's rest, in its layer, is the key's
  key_place : IsLayerOf key way → (place : Place) → place ≡ place_of rest → under (prefix_of key way) place ≡ place_of key
  key_place layer place is = ap (under (prefix_of key way)) is ∙ sym layer.under

  on_in : (b : BorderView) (w : World) → IsLockedAt a key way b w → IsOnIn w.chart way.node.0 (prefix_of key way)
  on_in b w at = record { low = b.low; posted = at.stands.stands.posted; place = at.stands.stands.place }

  -- what the border has is what the tree has
  stood_is : (b : BorderView) (w : World) (now : ℕ) → AreBytes key → IsBorder b → IsWorld a now w → IsLockedAt a key way b w → RowIs a key (row_found b.live (found_for rest b.live))
  stood_is b w now bytes sound world at =
      found_is_row a key way now w rest (found_for rest b.live) b refl at.named refl (tells_row a way.node.0 rest b at.named sound (bytes-drop (8 * way.layer) key bytes)) world
      (record { layer = at.layer; here = record { border = b; named = at.named; stands = at.stands }; alive = at.alive; last = at.last })

  abbrev CommitLaw : ArenaView → LogView → ℕ → Option Halves → Stage → Type 0
  CommitLaw after left number split stage = StepLaw C a after log left (edit_request key edit) (stage_held way.node.0 stage) (Committed number) (stage_held way.node.0 (Stored number split)) (λ begun moves past x w. StageIsTrue C key edit way stage begun x w) (λ begun moves past x w. StageIsTrue C key edit way (Stored number split) begun x w)

  -- another row at the key, or none, instead of what was there
  changes : (after : ArenaView) (before then : Option Row) (place : Place) (number : ℕ) (left : LogView) → AreBytes key → length key ≤ MAX_KEY_BYTES → IsLayerOf key way → RowIs a key before → place ≡ place_of rest
      → ((other : Place) (shown : Row) → Has (arena_seen after) other shown ↔ (((other ≡ under (prefix_of key way) place) × (then ≡ Some shown)) ⊎ (Has (arena_seen a) other shown × (other ≢ under (prefix_of key way) place))))
      → number ≡ newest log + 1 → left ≡ with_delta log (record { number = number; key = key; before = before; after = then })
      → Changes a after log left key before then number
  changes after before then place number left bytes fits layer stood at content next appended = record {
    bytes = bytes;
    fits = fits;
    stood = stood;
    is_next = next;
    content = λ other shown.
        subst (λ (p : Place). Has (arena_seen after) other shown ↔ (((other ≡ p) × (then ≡ Some shown)) ⊎ (Has (arena_seen a) other shown × (other ≢ p)))) (key_place layer place at) (content other shown);
    logged = appended;
  }

  -- a row is there exactly if it is the new one, or is at another place
  replaced_content : (after : ArenaView) (place : Place) (row : Row)
      → ((other : Place) (shown : Row) → Has (arena_seen after) other shown ↔ (((other ≡ place) × (shown ≡ row)) ⊎ (Has (arena_seen a) other shown × (other ≢ place))))
      → (other : Place) (shown : Row) → Has (arena_seen after) other shown ↔ (((other ≡ place) × (Some row ≡ Some shown)) ⊎ (Has (arena_seen a) other shown × (other ≢ place)))
  replaced_content after place row h other shown = (
    (λ has. elim ((h other shown).0 has) [ inl here ↦ inl (here.0, ap Some (sym here.1)) | inr there ↦ inr there ]),
    (λ either. (h other shown).1 (elim either [ inl here ↦ inl (here.0, one_row here.1) | inr there ↦ inr there ])),
  )
    where
      one_row : {x y : Row} → ◌≡◌ {A = Option Row} (Some x) (Some y) → y ≡ x
      one_row e = cc

  removed_content : (after : ArenaView) (place : Place)
      → ((other : Place) (shown : Row) → Has (arena_seen after) other shown ↔ (Has (arena_seen a) other shown × (other ≢ place)))
      → (other : Place) (shown : Row) → Has (arena_seen after) other shown ↔ (((other ≡ place) × (None ≡ Some shown)) ⊎ (Has (arena_seen a) other shown × (other ≢ place)))
  removed_content after place h other shown = (
    (λ has. inr ((h other shown).0 has)),
    (λ either. (h other shown).1 (elim either [ inl here ↦ absurd (never here.1) | inr there ↦ there ])),
  )
    where
      never : {x : Row} → ◌≡◌ {A = Option Row} None (Some x) → ⊥
      never e = cc

  shown_content : (after : ArenaView) (place : Place) (row : Row) → ((r : Row) → Has (arena_seen a) place r → ⊥)
      → ((other : Place) (shown : Row) → Has (arena_seen after) other shown ↔ (((other ≡ place) × (shown ≡ row)) ⊎ Has (arena_seen a) other shown))
      → (other : Place) (shown : Row) → Has (arena_seen after) other shown ↔ (((other ≡ place) × (shown ≡ row)) ⊎ (Has (arena_seen a) other shown × (other ≢ place)))
  shown_content after place row none adds other shown = (
    (λ has. elim ((adds other shown).0 has) [
      | inl here ↦ inl here
      | inr there ↦ inr (there, λ same. none shown (subst (λ (p : Place). Has (arena_seen a) p shown) same there))
    ]),
    (λ either. (adds other shown).1 (elim either [ inl here ↦ inl here | inr there ↦ inr there.0 ])),
  )

  pub shows : (split : Option Halves) (place : ℕ) (stored : List ℕ) (logged : List (List ℕ)) (number : ℕ) (after : ArenaView) (left : LogView) → number ≡ newest log + 1 → after ≡ with_border_changed a way.node.0 (λ b. with_shown b place (newest log + 1)) → ShowsNext a after way.node.0 (newest log + 1)
      → left ≡ with_delta log (put_delta (newest log + 1) stored None logged) → 1 ≤ log.reserved → CommitLaw after left number split (Filled place stored logged split)
  shows split place stored logged number after left next is shown appended room = record {
    steps = λ now begun moves past w world before truth.
        let (b, at, p, f, has) = truth in
        let commit = newest log + 1 in
        let row : Row = record { version = 0; columns = logged } in
        let show : BorderView → BorderView = λ (x : BorderView). with_shown x place commit in
        let has_row : entry_row f.slot.entry ≡ Some row = ap entry_row f.entry ∙ row_of_content (class_of (length rest)) (drop 8 rest) row in
        let adds = (shown.shows b f.slot f.slots row at.named f.unused has_row).adds now w.twins w.chart (prefix_of key way) world.index (on_in b w at) in
        let place_is : entry_place f.slot.entry ≡ place_of rest = ap entry_place f.entry ∙ entry_place_is rest row in
        let stood : RowIs a key None = subst (λ (r : Option Row). RowIs a key r) (ap (row_found b.live) f.absent) (stood_is b w now f.bytes f.sound world at) in
        let nothing_there : (r : Row) → Has (arena_seen a) (under (prefix_of key way) (entry_place f.slot.entry)) r → ⊥ =
        λ r has. no_row r ((stood r).0 (subst (λ (p : Place). Has (arena_seen a) p r) (key_place at.layer (entry_place f.slot.entry) place_is) has)) in
        let row_is : record { version = commit; columns = logged } ≡ put_row C number p.sets None = ap (λ (n : ℕ). record { version = n; columns = logged }) (sym next) ∙ ap (λ (c : List (List ℕ)). record { version = number; columns = c }) f.columns in
        let done : Changes a after log left key None (Some (put_row C number p.sets None)) number =
        changes after None (Some (put_row C number p.sets None)) (entry_place f.slot.entry) number left f.bytes f.fits at.layer stood place_is
        (subst (λ (r : Row). (other : Place) (shown : Row) → Has (arena_seen after) other shown ↔ (((other ≡ under (prefix_of key way) (entry_place f.slot.entry)) × (Some r ≡ Some shown)) ⊎ (Has (arena_seen a) other shown × (other ≢ under (prefix_of key way) (entry_place f.slot.entry))))) row_is
        (replaced_content after (under (prefix_of key way) (entry_place f.slot.entry)) (record { version = commit; columns = logged })
        (shown_content after (under (prefix_of key way) (entry_place f.slot.entry)) (record { version = commit; columns = logged }) nothing_there adds.1)))
        next
        (appended ∙ (ap (λ (n : ℕ). with_delta log (put_delta n stored None logged)) (sym next) ∙ (ap (λ (k : List ℕ). with_delta log (put_delta number k None logged)) f.stored_is
        ∙ ap (λ (c : List (List ℕ)). with_delta log (put_delta number key None c)) f.columns))) in
        record {
          goes = subst (λ (x : ArenaView). GoesBy (Some number) now a x w (owned way.node.0 split) (owned way.node.0 split) (λ next. StageIsTrue C key edit way (Stored number split) begun after next)) (sym is)
              (goes_border a way.node.0 b show at.named now w (owned way.node.0 split) (owned way.node.0 split) _ world
              (λ known. (subst (λ (m : ℕ). BorderChanges (Some m) b (show b)) (sym next) (ages_shown b f.sound (f.shows commit).room place commit (ap first_held f.unused ∙ f.fresh) at.written), inr refl))
              (subst (λ (x : ArenaView). IsIndexAt x now w.twins w.chart) is adds.0)
              (subst (λ (x : ArenaView). RowsAreOfKeys x) is (keys_changed a after log left key None (Some (put_row C number p.sets None)) number done world.keys)) (mine_free a way.node.0 w (owned way.node.0 split) has.own) (λ other i. inl i) (λ other ne i. i) (λ locked. has.own) (locked_may a way.node.0 b show at.named now w world at.locked at.free (inr at.alive))
              (subst (λ (x : ArenaView). HasLocked (prefix_of key way) x w way.node.0 split) (sym is) (has_changed (prefix_of key way) a way.node.0 b show at.named w split at.locked at.alive at.written refl has)));
          does = (
            subst (λ (e : Edit). Commits C a after log left (edit_request key e) number) (sym p.is_put) (commits_put C a after log left key p.sets p.only None number p.agrees done),
            refl,
            refl,
          );
          reserved = let less = ap (λ (l : LogView). l.reserved) appended in omega (arith, less, room);
          bounds = ap bounds appended;
          blocked = inl refl;
          may = tt;
        };
  }
    where
      no_row : (r : Row) → ◌≡◌ {A = Option Row} None (Some r) → ⊥
      no_row r e = cc

  pub writes : (place : ℕ) (stored : List ℕ) (columns logged : List (List ℕ)) (number : ℕ) (after : ArenaView) (left : LogView) → number ≡ newest log + 1
      → after ≡ with_border_changed a way.node.0 (λ b. with_value b place (record { version = newest log + 1; columns = columns })) → SetsRowAt a after way.node.0 place (record { version = newest log + 1; columns = columns })
      → IsSomeAnd (border_at a.nodes way.node.0) (λ b. left ≡ with_delta log (put_delta (newest log + 1) stored (row_at place b.live) logged)) → 1 ≤ log.reserved → CommitLaw after left number None (Made place stored columns logged)
  writes place stored columns logged number after left next is written logs room = record {
    steps = λ now begun moves past w world before truth.
        let (b, at, p, f) = truth in
        let commit = newest log + 1 in
        let row : Row = record { version = commit; columns = columns } in
        let write : BorderView → BorderView = λ (x : BorderView). with_value x place row in
        let e = stands_at b f.sound rest (RowFound place) f.there in
        let replaces = (written.sets b e.entry at.named e.stands).replaces now w.twins w.chart (prefix_of key way) world.index (on_in b w at) in
        let appended : left ≡ with_delta log (put_delta commit stored (row_at place b.live) logged) = some_at _ (border_at a.nodes way.node.0) b logs at.named in
        let stood : RowIs a key (row_at place b.live) = subst (λ (r : Option Row). RowIs a key r) (ap (row_found b.live) f.there) (stood_is b w now f.bytes f.sound world at) in
        let row_is : row ≡ put_row C number p.sets (row_at place b.live) = ap (λ (n : ℕ). record { version = n; columns = columns }) (sym next) ∙ ap (λ (c : List (List ℕ)). record { version = number; columns = c }) f.made in
        let done : Changes a after log left key (row_at place b.live) (Some (put_row C number p.sets (row_at place b.live))) number =
        changes after (row_at place b.live) (Some (put_row C number p.sets (row_at place b.live))) (entry_place e.entry) number left f.bytes f.fits at.layer stood e.of_rest
        (subst (λ (r : Row). (other : Place) (shown : Row) → Has (arena_seen after) other shown ↔ (((other ≡ under (prefix_of key way) (entry_place e.entry)) × (Some r ≡ Some shown)) ⊎ (Has (arena_seen a) other shown × (other ≢ under (prefix_of key way) (entry_place e.entry))))) row_is
        (replaced_content after (under (prefix_of key way) (entry_place e.entry)) row replaces.1))
        next
        (appended ∙ (ap (λ (n : ℕ). with_delta log (put_delta n stored (row_at place b.live) logged)) (sym next) ∙ (ap (λ (k : List ℕ). with_delta log (put_delta number k (row_at place b.live) logged)) f.stored_is
        ∙ ap (λ (c : List (List ℕ)). with_delta log (put_delta number key (row_at place b.live) c)) (f.copied ∙ f.made)))) in
        record {
          goes = subst (λ (x : ArenaView). GoesBy (Some number) now a x w (way.node.0 ∷ []) (way.node.0 ∷ []) (λ next. StageIsTrue C key edit way (Stored number None) begun after next)) (sym is)
              (goes_border a way.node.0 b write at.named now w (way.node.0 ∷ []) (way.node.0 ∷ []) _ world
              (λ known. (ages_value b f.sound place (slice_get_within b.live place e.entry e.stands) row, inr refl))
              (subst (λ (x : ArenaView). IsIndexAt x now w.twins w.chart) is replaces.0)
              (subst (λ (x : ArenaView). RowsAreOfKeys x) is (keys_changed a after log left key (row_at place b.live) (Some (put_row C number p.sets (row_at place b.live))) number done world.keys)) (own_free a way.node.0 w) (λ other i. inl i) (λ other ne i. i) (λ locked. first) (locked_may a way.node.0 b write at.named now w world at.locked at.free (inr at.alive))
              (subst (λ (x : ArenaView). HasLocked (prefix_of key way) x w way.node.0 None) (sym is) (has_changed (prefix_of key way) a way.node.0 b write at.named w None at.locked at.alive at.written refl (alone a key way b w at))));
          does = (
            subst (λ (e : Edit). Commits C a after log left (edit_request key e) number) (sym p.is_put) (commits_put C a after log left key p.sets p.only (row_at place b.live) number p.agrees done),
            refl,
            refl,
          );
          reserved = let less = ap (λ (l : LogView). l.reserved) appended in omega (arith, less, room);
          bounds = ap bounds appended;
          blocked = inl refl;
          may = tt;
        };
  }

  abbrev HideLaw : ArenaView → LogView → ℕ → Stage → Type 0
  HideLaw after left number stage = StepLaw C a after log left (edit_request key edit) (stage_held way.node.0 stage) (Committed number) (stage_held way.node.0 (Hidden number)) (λ begun moves past x w. StageIsTrue C key edit way stage begun x w) (λ begun moves past x w. StageIsTrue C key edit way (Hidden number) begun x w)

  pub hides : (place : ℕ) (stored : List ℕ) (before : Row) (number : ℕ) (after : ArenaView) (left : LogView) → number ≡ newest log + 1
      → after ≡ with_border_changed a way.node.0 (λ b. with_hidden b place) → HidesRowAt a after way.node.0 place
      → left ≡ with_delta log (remove_delta (newest log + 1) stored before) → 1 ≤ log.reserved → HideLaw after left number (Taken place stored before)
  hides place stored before number after left next is hidden appended room = record {
    steps = λ now begun moves past w world early truth.
        let (b, at, f) = truth in
        let hide : BorderView → BorderView = λ (x : BorderView). with_hidden x place in
        let e = stands_at b f.sound rest (RowFound place) f.there in
        let removes = (hidden.hides b e.entry at.named e.stands).removes now w.twins w.chart (prefix_of key way) world.index (on_in b w at) in
        let stood : RowIs a key (Some before) = subst (λ (r : Option Row). RowIs a key r) (ap (row_found b.live) f.there ∙ f.copied) (stood_is b w now f.bytes f.sound world at) in
        let done : Changes a after log left key (Some before) None number =
        changes after (Some before) None (entry_place e.entry) number left f.bytes f.fits at.layer stood e.of_rest
        (removed_content after (under (prefix_of key way) (entry_place e.entry)) removes.1)
        next
        (appended ∙ (ap (λ (n : ℕ). with_delta log (remove_delta n stored before)) (sym next) ∙ ap (λ (k : List ℕ). with_delta log (remove_delta number k before)) f.stored_is)) in
        record {
          goes = subst (λ (x : ArenaView). GoesBy (Some number) now a x w (way.node.0 ∷ []) (way.node.0 ∷ []) (λ next. StageIsTrue C key edit way (Hidden number) begun after next)) (sym is)
              (goes_border a way.node.0 b hide at.named now w (way.node.0 ∷ []) (way.node.0 ∷ []) _ world (λ known. (ages_hidden b place at.written, inr refl)) (subst (λ (x : ArenaView). IsIndexAt x now w.twins w.chart) is removes.0)
              (subst (λ (x : ArenaView). RowsAreOfKeys x) is (keys_changed a after log left key (Some before) None number done world.keys)) (own_free a way.node.0 w) (λ other i. inl i) (λ other ne i. i) (λ locked. first) (locked_may a way.node.0 b hide at.named now w world at.locked at.free (inr at.alive))
              (subst (λ (x : ArenaView). HasHidden FirstHeld x w way.node.0) (sym is)
              (hidden_is a w way.node.0 b place at.named (known_on (arena_seen a) w.chart way.node.0 (prefix_of key way) (border_seen b) at.stands.stands) at.locked at.alive at.written at.free f.sound (slice_get_within b.live place e.entry e.stands))));
          does = (
            subst (λ (x : Edit). Commits C a after log left (edit_request key x) number) (sym f.is_remove) (
              before,
              done,
            ),
            refl,
            refl,
          );
          reserved = let less = ap (λ (l : LogView). l.reserved) appended in omega (arith, less, room);
          bounds = ap bounds appended;
          blocked = inl refl;
          may = tt;
        };
  }

  abbrev EndLaw : ArenaView → Progress → Held → Truth → Stage → Type 0
  EndLaw after p then Then stage = StepLaw C a after log log (edit_request key edit) (stage_held way.node.0 stage) p then (λ begun moves past x w. StageIsTrue C key edit way stage begun x w) Then

  abbrev unlock : BorderView → BorderView
  unlock b = with_unlocked b

  -- a remove is ready, or it fails
  pub takes : (there : There) (stage : Stage) (left : LogView) → edit ≡ RemoveEdit → PreparesRemove key way a log (Some stage) left
      → StepLaw C a a log left (edit_request key edit) (stage_held way.node.0 (Searched there)) Moved (stage_held way.node.0 stage) (λ begun moves past x w. StageIsTrue C key edit way (Searched there) begun x w) (λ begun moves past x w. StageIsTrue C key edit way stage begun x w)
  takes there (Taken place stored before) left is_remove f = record {
    steps = λ now begun moves past w world early truth.
        let (b, at, told) = truth in
        let same : f.b ≡ b = (let both : ◌≡◌ {A = Option BorderView} (Some f.b) (Some b) = sym f.named ∙ at.named in cc) in
        record {
          goes = goes_same now a w _ (way.node.0 ∷ []) (way.node.0 ∷ []) refl world (b, at, subst (λ (e : Edit). IsFound key e way b place stored before) (sym is_remove) (subst (λ (x : BorderView). IsFound key RemoveEdit way x place stored before) same f.found));
          does = (record { content = λ k row. ((λ h. h), (λ h. h)); trimmed = ap (λ (l : LogView). l.held_after) f.reserved; deltas = ap (λ (l : LogView). l.deltas) f.reserved; rows = ap (λ (l : LogView). l.rows) f.reserved }, refl);
          reserved = let more = ap (λ (l : LogView). l.reserved) f.reserved in omega (arith, more);
          bounds = ap bounds f.reserved;
          blocked = inl refl;
          may = λ get. absurd (no_get key edit get);
        };
  }
  takes there (Failed refusal split) left is_remove (none, may, same_log) =
      subst (λ (s : Option Halves). StepLaw C a a log left (edit_request key edit) (stage_held way.node.0 (Searched there)) Moved (stage_held way.node.0 (Failed refusal s)) (λ begun moves past x w. StageIsTrue C key edit way (Searched there) begun x w) (λ begun moves past x w. StageIsTrue C key edit way (Failed refusal s) begun x w)) (sym none)
      (subst (λ (l : LogView). StepLaw C a a log l (edit_request key edit) (stage_held way.node.0 (Searched there)) Moved (stage_held way.node.0 (Failed refusal None)) (λ begun moves past x w. StageIsTrue C key edit way (Searched there) begun x w) (λ begun moves past x w. StageIsTrue C key edit way (Failed refusal None) begun x w)) (sym same_log) (record {
        steps = λ now begun moves past w world before truth.
            let (b, at, told) = truth in
            quiet_step key edit
            (goes_same now a w _ (way.node.0 ∷ []) (way.node.0 ∷ []) refl world (
              alone a key way b w at,
              subst (λ (e : Edit). MayRefuse (edit_request key e) refusal) (sym is_remove) may.0,
              otherwise_tells a w key way refusal None (remove_otherwise key refusal may.0),
            ))
            (quiet_same a log).content refl refl (fails_at log refusal may.1);
      }))
  takes there _ left is_remove f = absurd f

  -- ---- the end
  pub ends : (Then : World → Type 0) (now : ℕ) (w : World) (after : ArenaView) → after ≡ with_border_changed a way.node.0 unlock → KeepsTree a after → IsWorld a now w → IsLockedBorder a w way.node.0 → Then w
      → Goes now a after w (way.node.0 ∷ []) [] Then × IsQuiet a after log log
  ends Then now w after is keeps world at truth =
      let kept = keeps.keeps now w.twins w.chart world.index in (
        subst (λ (x : ArenaView). Goes now a x w (way.node.0 ∷ []) [] Then) (sym is)
            (goes_border a way.node.0 at.b unlock at.named now w (way.node.0 ∷ []) [] _ world (λ known. (ages_unlocked at.b, inr refl)) (subst (λ (x : ArenaView). IsIndexAt x now w.twins w.chart) is kept.index)
            (subst (λ (x : ArenaView). RowsAreOfKeys x) is (keys_same a after kept.content world.keys))
            (own_free a way.node.0 w) (λ other i. elim i [ ]) (λ other ne i. absurd (ne (among_one other way.node.0 i))) (λ taken. absurd (elim taken [ inl locked ↦ (let clash : false ≡ true = locked in cc) | inr none ↦ (let some : IsSome (let nothing : Option Spot = None in nothing) = subst (λ (x : Option Spot). IsSome x) none at.known in cc) ])) (locked_may a way.node.0 at.b unlock at.named now w world at.locked at.free (inr at.alive)) truth),
        record { content = kept.content; trimmed = refl; deltas = refl; rows = refl },
      )

  pub answers : (number : ℕ) (answer : Answer) → answer ≡ written_answer edit number → (then : Held) (Then : Truth) (after : ArenaView) → after ≡ with_border_changed a way.node.0 unlock → KeepsTree a after → EndLaw after (Answered answer) then Then (Stored number None)
  answers number answer answer_is then Then after is keeps = record {
    steps = λ now begun moves past w world before truth.
        let (goes, quiet) = ends (λ next. Unit {0}) now w after is keeps world (truth.locked way.node.0 first) tt in
        record { goes = goes; does = (quiet, subst (λ (x : Answer). IsRight past a (edit_request key edit) (Some number) x) (sym answer_is) (answer_right past a key edit number)); reserved = refl; bounds = refl; blocked = tt; may = tt };
  }

  -- a remove that finds no row ends
  pub lacks : (there : There) (then : Held) (Then : Truth) (after : ArenaView) → edit ≡ RemoveEdit → after ≡ with_border_changed a way.node.0 unlock → KeepsTree a after → LacksRow key way a → (left : LogView) → left ≡ log
      → StepLaw C a after log left (edit_request key edit) (stage_held way.node.0 (Searched there)) (Answered AbsentAnswer) then (λ begun moves past x w. StageIsTrue C key edit way (Searched there) begun x w) Then
  lacks there then Then after is_remove is keeps lacking left same_log = subst (λ (l : LogView). StepLaw C a after log l (edit_request key edit) (stage_held way.node.0 (Searched there)) (Answered AbsentAnswer) then (λ begun moves past x w. StageIsTrue C key edit way (Searched there) begun x w) Then) (sym same_log) (record {
    steps = λ now begun moves past w world before truth.
        let (b, at, told) = truth in
        let same : lacking.b ≡ b = (let both : ◌≡◌ {A = Option BorderView} (Some lacking.b) (Some b) = sym lacking.named ∙ at.named in cc) in
        let (goes, quiet) = ends (λ next. Unit {0}) now w after is keeps world (record { b = b; named = at.named; known = known_on (arena_seen a) w.chart way.node.0 (prefix_of key way) (border_seen b) at.stands.stands; locked = at.locked; alive = at.alive; written = at.written; free = at.free }) tt in
        let stood = stood_is b w now lacking.bytes (subst IsBorder same lacking.sound) world at in
        let none : row_found b.live (found_for rest b.live) ≡ None = subst (λ (x : BorderView). row_found x.live (found_for rest x.live) ≡ None) same lacking.none in
        record {
          goes = goes;
          does = (quiet, subst (λ (e : Edit). IsRight past a (edit_request key e) None AbsentAnswer) (sym is_remove) (refl, lacking.bytes, subst (λ (r : Option Row). RowIs a key r) none stood));
          reserved = refl;
          bounds = refl;
          blocked = tt;
          may = tt;
        };
  })

  -- what it tells is so
  pub tells_version : (w : World) (now : ℕ) → IsWorld a now w → (own : Edit) (refusal : Refusal) → Tells a w key way refusal None → TellsVersion a (edit_request key own) refusal
  tells_version w now world (PutEdit sets (Some version)) (OtherVersion other) tells = record {
    bytes = tells.bytes;
    there = row_found tells.b.live (found_for rest tells.b.live);
    stands = stood_is tells.b w now tells.bytes tells.sound world tells.at;
    is = tells.is;
  }
  tells_version w now world (PutEdit sets None) refusal tells = tt
  tells_version w now world (PutEdit sets (Some version)) _ tells = tt
  tells_version w now world RemoveEdit refusal tells = tt

  -- a put that asks for another version than the row is of fails for that
  pub differs : (there : There) (sets : List (ℕ × List ℕ)) (only : Option ℕ) (refusal : Refusal) → edit ≡ PutEdit sets only → AreBytes key → IsSomeAnd (border_at a.nodes way.node.0) (λ b. IsBorder b × (Some refusal ≡ version_fault only (row_found b.live (found_for rest b.live))))
      → StepLaw C a a log log (edit_request key edit) (stage_held way.node.0 (Searched there)) Moved (stage_held way.node.0 (Failed refusal None)) (λ begun moves past x w. StageIsTrue C key edit way (Searched there) begun x w) (λ begun moves past x w. StageIsTrue C key edit way (Failed refusal None) begun x w)
  differs there sets None refusal is_put bytes fault = let (b, named, both) = some_and _ (border_at a.nodes way.node.0) fault in absurd (let clash : ◌≡◌ {A = Option Refusal} (Some refusal) None = both.1 in cc)
  differs there sets (Some version) refusal is_put bytes fault = record {
    steps = λ now begun moves past w world early truth.
        let (b, at, told) = truth in
        let here = some_at _ (border_at a.nodes way.node.0) b fault at.named in
        let (other, is) = other_found version (row_found b.live (found_for rest b.live)) refusal here.1 in
        quiet_step key edit
        (goes_same now a w _ (way.node.0 ∷ []) (way.node.0 ∷ []) refl world (
          alone a key way b w at,
          subst (λ (e : Edit). MayRefuse (edit_request key e) refusal) (sym is_put) (subst (λ (r : Refusal). MayRefuse (PutIfRequest key sets version) r) (sym is) other),
          subst (λ (r : Refusal). Tells a w key way r None) (sym is) (record { b = b; at = at; bytes = bytes; sound = here.0; is = refl }),
        ))
        (quiet_same a log).content refl refl (inl (subst (λ (r : Refusal). blocked_by r ≡ None) (sym is) refl));
  }

  pub refuses : (refusal : Refusal) (then : Held) (Then : Truth) (after : ArenaView) → after ≡ with_border_changed a way.node.0 unlock → KeepsTree a after → EndLaw after (Refused refusal) then Then (Failed refusal None)
  refuses refusal then Then after is keeps = record {
    steps = λ now begun moves past w world before truth.
        let (goes, quiet) = ends (λ next. Unit {0}) now w after is keeps world (truth.0.locked way.node.0 first) tt in
        record { goes = goes; does = (quiet, refl, truth.1, tells_version w now world edit refusal truth.2); reserved = refl; bounds = refl; blocked = refl; may = tt };
  }

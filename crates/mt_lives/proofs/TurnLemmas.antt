-- Where each turn leads a map and its log.
use Rattle.std.proofs.Common.{◌≡◌, ◌∙◌, ◌+◌, ◌-◌, ◌++◌, ◌∷◌, ◌<◌, ℕ, min, List, [], length, take, drop, get_or, Result, refl, sym, ap, subst, arith}
use Rattle.std.proofs.lemmas.List.{append_assoc, length-append, length-drop, length-map, length-take, length-take-le, take-append-le, take-take, take_all, take_more}
use Rattle.mt_types.specs.Rows.{Rows, after}
use Rattle.mt_types.specs.declared.event.Answer.{Answer}
use Rattle.mt_types.specs.declared.event.Request.{Request}
use Rattle.mt_types.specs.declared.limits.TheConstants.{MAX_RANGE}
use Rattle.mt_types.specs.declared.refusal.Refusal.{Refusal}
use Rattle.mt_types.specs.declared.row.Change.{Change}
use Rattle.mt_commit.specs.Logged.{deltas_of}
use Rattle.mt_commit.proofs.DeltaLemmas.{deltas_of-length}
use Rattle.mt_index.specs.Stands.{MachineView, Stands}
use Rattle.mt_promise.specs.History.{History, moment, rows}
use Rattle.mt_replay.specs.Replay.{record_of}
use Rattle.mt_folder_log.specs.Made.{AreFirstOf}
use Rattle.mt_map_folder.specs.Changes.{KeepsChanges}
use Rattle.mt_map_folder.specs.Written.{left_after}
use Rattle.mt_map_folder.specs.declared.log.MapLog.{MapLog}
use Rattle.mt_folder_log.proofs.MadeLemmas.{rows_made}
use Rattle.mt_store.proofs.ExtendLemmas.{made_from}
use Rattle.mt_lives.specs.Lives.{AreFront, HasLived}
use Rattle.mt_lives.specs.Turns.{AnswersAs, Leads, LeadsAll, Reached}
use Rattle.mt_lives.specs.declared.turn.Told.{Told}
use Rattle.mt_lives.specs.declared.turn.Turn.{Turn}
use Rattle.mt_lives.proofs.AskLemmas.{Asked}
use Rattle.mt_lives.proofs.ReachLemmas.{front_self, own}

-- ---- a map that was asked
-- the first of more changes are the first
front_less : (changes made later : List Change) → AreFront (changes ++ made) later → AreFront changes later
front_less changes made later front =
    let long = length-append changes made in
    sym (take-take (length changes) (length (changes ++ made)) later (omega (arith, long)))
    ∙ ap (take (length changes)) front
    ∙ take-append-le (length changes) changes made (omega arith)
    ∙ take_all (length changes) changes (omega arith)

-- the commits of the map are the first of the changes, with those that were made then; as many were there when it was opened
first_more : (C K : ℕ) (later commits then changes made : List Change) (first : AreFirstOf C later commits) → K ≡ C → then ≡ commits ++ made → length commits ≡ length changes → AreFront changes later → AreFront (changes ++ made) later
    → (more : AreFirstOf K later then) × (length more.before ≡ length first.before)
first_more C K later commits then changes made first same is many front more =
    let long : length then ≡ length (changes ++ made) = ap length is ∙ length-append commits made ∙ ap (λ (n : ℕ). n + length made) many ∙ sym (length-append changes made) in
    let before : changes ≡ first.before ++ first.more = sym front ∙ ap (λ (n : ℕ). take n later) (sym many) ∙ first.changes_are in (
      record {
        loaded = first.loaded;
        before = first.before;
        more = first.more ++ made;
        commits_are = is ∙ ap (λ (cs : List Change). cs ++ made) first.commits_are ∙ append_assoc first.loaded first.more made;
        changes_are = ap (λ (n : ℕ). take n later) long ∙ more ∙ ap (λ (cs : List Change). cs ++ made) before ∙ append_assoc first.before first.more made;
        as_many = first.as_many;
        same_rows = subst (λ (k : ℕ). after k first.loaded ≡ after k first.before) (sym same) first.same_rows;
      },
      refl,
    )

module _ {D : Type 0} (seen : D → List ℕ) (may_leave : D → List ℕ → Type 0) (C : ℕ) (a : Reached) (s : MachineView) (log : MapLog D) (lived : HasLived seen may_leave C a s log) where
  -- the map has made as many commits as there are changes
  many : (h : History) → Stands s h → length (moment h).commits ≡ length a.changes
  many h stands = sym stands.commits ∙ lived.all

  -- and its rows are those after them
  same_rows : (kept : KeepsChanges seen may_leave a.changes s log) → rows s.columns (moment kept.h) ≡ after C a.changes
  same_rows kept =
      rows_made s.columns a.changes (moment kept.h).commits kept.made
      ∙ ap (λ (n : ℕ). after s.columns (take n a.changes)) (many kept.h kept.stands)
      ∙ ap (after s.columns) (front_self a.changes)
      ∙ ap (λ (k : ℕ). after k a.changes) lived.columns

  module _ (t : MachineView) (request : Request) (result : Result Answer Refusal) (is : Asked s request result t) where
    abbrev made : List Change
    made = made_from request result

    abbrev pub asked_to : Reached
    asked_to = record { changes = a.changes ++ made; written = a.written; durable = a.durable }

    pub answers : AnswersAs (after C a.changes) (length a.changes) request result made
    answers =
        let kept = own seen may_leave C a s log lived in
        subst (λ (n : ℕ). AnswersAs (after C a.changes) n request result made) (many kept.h kept.stands)
        (subst (λ (rs : Rows). AnswersAs rs (length (moment kept.h).commits) request result made) (same_rows kept) (is.1 kept.h kept.stands))

    asked_keeps : (later : List Change) → AreFront (a.changes ++ made) later → KeepsChanges seen may_leave later t log
    asked_keeps later more =
        let front = front_less a.changes made later more in
        let kept = lived.kept later front in
        let (g, stands, commits) = is.0.1 kept.h kept.stands in
        let long : length (moment g).commits ≡ length (moment kept.h).commits + length made = ap length commits ∙ length-append (moment kept.h).commits made in
        let (then, opened) = first_more s.columns t.columns later (moment kept.h).commits (moment g).commits a.changes made kept.made is.0.0 commits (many kept.h kept.stands) front more in
        record {
          h = g;
          stands = stands;
          made = then;
          columns = is.0.0 ∙ kept.columns;
          opened = omega (arith, opened, kept.opened);
          within = omega (arith, kept.within, long);
          kept = kept.kept;
        }

    pub asked_lives : HasLived seen may_leave C asked_to t log
    asked_lives =
        let kept = own seen may_leave C a s log lived in
        let (g, stands, commits) = is.0.1 kept.h kept.stands in
        record {
          kept = asked_keeps;
          all = stands.commits ∙ ap length commits ∙ length-append (moment kept.h).commits made ∙ ap (λ (n : ℕ). n + length made) (many kept.h kept.stands)
              ∙ sym (length-append a.changes made);
          columns = is.0.0 ∙ lived.columns;
          written = lived.written;
          durable = lived.durable;
        }

  -- ---- the log
  -- how many commits are written next
  pub next_written : (h : History) → Stands s h → (n : ℕ) → n ≡ log.log.journal.at.newest + length (left_after s.columns log.log.journal.at.newest h)
      → n ≡ a.written + min MAX_RANGE (length a.changes - a.written)
  next_written h stands n is =
      let deltas = deltas_of s.columns (moment h).commits in
      let from = log.log.journal.at.newest in
      let count : length (left_after s.columns from h) ≡ min MAX_RANGE (length a.changes - from) =
      length-map (take MAX_RANGE (drop from deltas)) record_of ∙ length-take MAX_RANGE (drop from deltas)
      ∙ ap (min MAX_RANGE) (length-drop from deltas ∙ ap (λ (k : ℕ). k - from) (deltas_of-length s.columns (moment h).commits ∙ many h stands)) in
      is ∙ ap (λ (k : ℕ). from + k) count ∙ ap (λ (k : ℕ). k + min MAX_RANGE (length a.changes - k)) lived.written

-- ---- turns one after the other
-- more turns were left
pub leads_left : (C : ℕ) (turns more : List Turn) (told : List Told) (a b : Reached) → LeadsAll C turns told a b → LeadsAll C (turns ++ more) told a b
leads_left C turns more [] a b leads = leads
leads_left C [] more (one ∷ told) a b leads = absurd leads
leads_left C (turn ∷ turns) more (one ∷ told) a b (m, first, rest) = (m, first, leads_left C turns more told m b rest)

-- one more turn was taken
pub leads_on : (C : ℕ) (turns : List Turn) (told : List Told) (turn : Turn) (one : Told) (a m b : Reached) → length told ≡ length turns → LeadsAll C turns told a m → Leads C turn one m b → LeadsAll C (turns ++ turn ∷ []) (told ++ one ∷ []) a b
leads_on C [] [] turn one a m b many is next = (b, subst (λ (x : Reached). Leads C turn one x b) is next, refl)
leads_on C [] (first ∷ told) turn one a m b many leads next = absurd leads
leads_on C (first ∷ turns) [] turn one a m b many leads next = absurd (omega (arith, many))
leads_on C (first ∷ turns) (say ∷ told) turn one a m b many (r, leads, rest) next = (r, leads, leads_on C turns told turn one r m b (omega (arith, many)) rest next)

pub leads_at : (C : ℕ) (turns : List Turn) (i : ℕ) (d : Turn) (told : List Told) (one : Told) (a m b : Reached) → i < length turns → length told ≡ i → LeadsAll C (take i turns) told a m → Leads C (get_or turns i d) one m b → LeadsAll C (take (i + 1) turns) (told ++ one ∷ []) a b
leads_at C turns i d told one a m b less many leads next =
    let long : length (take i turns) ≡ i = length-take-le i turns (omega (arith, less)) in
    subst (λ (ts : List Turn). LeadsAll C ts (told ++ one ∷ []) a b) (sym (take_more turns i d less)) (leads_on C (take i turns) told (get_or turns i d) one a m b (many ∙ sym long) leads next)

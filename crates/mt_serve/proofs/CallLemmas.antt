-- The one call that is open: what its record says, why it may fail, and what its steps leave of that.
use Rattle.std.proofs.Common.{ℕ, ◌≡◌, ◌<◌, ◌≤◌, Bool, true, false, inl, inr, List, [], ◌∷◌, ◌++◌, length, Option, Some, None, refl, sym, ap, subst, ◌∙◌, arith}
use Rattle.std.specs.Prelude.{◌+◌, ◌-◌, ◌==◌, ◌⊎◌, suc, nat_le, nat_lt, if◌then◌else◌, IsSomeAnd}
use Rattle.std.specs.Option.{option_or}
use Rattle.std.proofs.lemmas.Bool.{eq-eqb}
use Rattle.std.proofs.lemmas.Bool.Decides.{eqb_tells, leb_tells}
use Rattle.mt_types.specs.Numbers.{greatest_number}
use Rattle.mt_types.specs.Limits.{refused_if}
use Rattle.mt_types.specs.declared.limits.TheConstants.{MAX_NODES}
use Rattle.mt_types.specs.declared.numbers.PassNo.{PassNo}
use Rattle.mt_types.specs.declared.numbers.CallNo.{CallNo}
use Rattle.mt_types.specs.declared.row.Row.{Row as RowValue}
use Rattle.mt_types.specs.declared.refusal.Refusal.{Refusal}
use Rattle.mt_types.specs.declared.refusal.Refusal.TheVariants.{ArenaFull, FeedFull, Spent, OtherVersion}
use Rattle.mt_types.specs.declared.event.Event.TheVariants.{Begin, Step}
use Rattle.mt_types.specs.declared.event.Outcome.{Outcome}
use Rattle.mt_types.specs.declared.event.Outcome.TheVariants.{Call as Called, Moved, Again, Commit, Refused}
use Rattle.mt_types.specs.declared.event.Request.{Request}
use Rattle.mt_promise.specs.History.{History, OpenCall, moment}
use Rattle.mt_types.specs.Rows.{version_of}
use Rattle.mt_word.specs.declared.version_word.TheConstants.{MAX_SPLITS}
use Rattle.mt_word.specs.declared.permutation_word.TheConstants.{SLOTS}
use Rattle.mt_border.specs.Border.{BorderView, insert_is_spent}
use Rattle.mt_border.specs.declared.found.Found.{Found}
use Rattle.mt_border.specs.declared.found.Found.TheVariants.{Absent, Row, OtherSuffix}
use Rattle.mt_arena.specs.Node.{border_at, occupied}
use Rattle.mt_commit.specs.Log.{LogView, newest as newest_of, slowest, reserve_fault}
use Rattle.mt_tree.specs.Descent.{found_for, row_found}
use Rattle.mt_steps.specs.Way.{rest_of}
use Rattle.mt_write.specs.declared.writing.Write.{Write as WriteView}
use Rattle.mt_write.specs.declared.writing.Edit.{Edit}
use Rattle.mt_write.specs.declared.writing.Edit.TheVariants.{Put as PutEdit, Remove as RemoveEdit}
use Rattle.mt_write.specs.declared.writing.Stage.{Stage}
use Rattle.mt_write.specs.Causes.{fill_fault, split_fault, layer_fault, version_fault, put_fault, remove_fault, edit_fault}
use Rattle.mt_write.specs.Held.{stage_held}
use Rattle.mt_works.specs.declared.work.Work.{Work}
use Rattle.mt_works.specs.declared.work.Work.TheVariants.{Write}
use Rattle.mt_works.specs.Works.{request_of, held, IsAtStart, IsBuiltWork}
use Rattle.mt_works.specs.Causes.{WorkRefuses}
use Rattle.mt_index.specs.declared.calls.Call.{Call}
use Rattle.mt_index.specs.Calls.{call_at, all_reserved}
use Rattle.mt_index.specs.Paired.{Paired}
use Rattle.mt_index.specs.Causes.{RefusedFor}
use Rattle.mt_index.specs.Events.{EventDoes, Happens}
use Rattle.mt_index.specs.Stands.{MachineView, Stands, CallStands, Begins}
use Rattle.mt_shared.specs.Drives.{Continues}
use Rattle.mt_serve.specs.Store.{Store, newest, ComesTo, Meets, MeetsSpent, HasFewNodes}
use Rattle.mt_serve.proofs.ReadLemmas.{no_entries}
use Rattle.mt_serve.proofs.StageLemmas.{WorkSays, Explains, IsWriting, work_moved, work_rests, work_commits, work_begins, work_refused}

-- ---- why a call that began at a store may fail
abbrev pub Cause : Store → PassNo → Request → CallNo → Refusal → Type 0
Cause s pass request number ArenaFull = Meets s pass request number HasFewNodes
Cause s pass request number (FeedFull slowest) = s.machine.log.capacity ≤ newest s - slowest
Cause s pass request number Spent = MeetsSpent s pass request number
Cause s pass request number _ = Unit {0}

abbrev some : Refusal → Option Refusal
some refusal = Some refusal

same_refusal : (a b : Refusal) → some a ≡ some b → a ≡ b
same_refusal a b e = cc e

none_some : {X : Type 0} (a : Refusal) → ◌≡◌ {A = Option Refusal} None (Some a) → X
none_some a e = cc

less_tells : (a b : ℕ) → ((nat_lt a b ≡ true) × (a < b)) ⊎ ((nat_lt a b ≡ false) × (b ≤ a))
less_tells a b = elim (leb_tells (suc a) b) [
  | inl e ↦ (let most = e.1 in inl (e.0, omega (arith, most)))
  | inr e ↦ (let least = e.1 in inr (e.0, omega (arith, least)))
]

-- a fault of two is the first or the second
of_two : (broken : Bool) (own other : Refusal) (rest : Option Refusal) → option_or (refused_if broken own) rest ≡ Some other → ((broken ≡ true) × (other ≡ own)) ⊎ (rest ≡ Some other)
of_two true own other rest e = inl (refl, sym (same_refusal own other e))
of_two false own other rest e = inr e

of_one : (broken : Bool) (own other : Refusal) → refused_if broken own ≡ Some other → (broken ≡ true) × (other ≡ own)
of_one true own other e = (refl, sym (same_refusal own other e))
of_one false own other e = none_some other e

module _ (s : Store) (pass : PassNo) (request : Request) (number : CallNo) where
  abbrev Says : Refusal → Type 0
  Says = Cause s pass request number

  -- a store to which it has come, where nothing was committed since it began, and no room is reserved
  pub record Came (m : Store) : Type 0 where
    pub comes : ComesTo s pass request number m
    pub commits : newest_of m.machine.log ≡ newest s
    pub reserved : m.machine.log.reserved ≡ 0
    pub feed : m.machine.log.capacity ≡ s.machine.log.capacity

  module _ (m : Store) (came : Came m) where
    log : LogView
    log = m.machine.log

    reserve_says : (refusal : Refusal) → reserve_fault m.machine.log ≡ Some refusal → Says refusal
    reserve_says refusal e =
        let log = m.machine.log in
        let commits = came.commits in
        let reserved = came.reserved in
        let feed = came.feed in
        elim (of_two (nat_le greatest_number (newest_of log + log.reserved)) Spent refusal (refused_if (nat_lt log.capacity (newest_of log - slowest log + log.reserved + 1)) (FeedFull (slowest log))) e) [
          | inl spent ↦ elim (leb_tells greatest_number (newest_of log + log.reserved)) [
            | inl t ↦ (let most = t.1 in subst Says (sym spent.1) (inl (omega (arith, most, commits, reserved))))
            | inr f ↦ (let clash : ◌≡◌ {A = Bool} true false = sym spent.0 ∙ f.0 in cc)
          ]
          | inr rest ↦
              let full = of_one (nat_lt log.capacity (newest_of log - slowest log + log.reserved + 1)) (FeedFull (slowest log)) refusal rest in
              elim (less_tells log.capacity (newest_of log - slowest log + log.reserved + 1)) [
                | inl t ↦ (let less = t.1 in subst Says (sym full.1) (omega (arith, less, commits, reserved, feed)))
                | inr f ↦ (let clash : ◌≡◌ {A = Bool} true false = sym full.0 ∙ f.0 in cc)
              ]
        ]

    fill_says : (node : ℕ) (b : BorderView) → border_at m.machine.tree.nodes node ≡ Some b → (refusal : Refusal) → fill_fault m.machine.log b ≡ Some refusal → Says refusal
    fill_says node b at refusal e = elim (of_two (insert_is_spent b) Spent refusal (reserve_fault m.machine.log) e) [
      | inl spent ↦ subst Says (sym spent.1) (inr (m, came.comes, (node, subst (λ (o : Option BorderView). IsSomeAnd o (λ (x : BorderView). (insert_is_spent x ≡ true) ⊎ (x.version.vsplit ≡ MAX_SPLITS))) (sym at) (inl spent.0))))
      | inr rest ↦ reserve_says refusal rest
    ]

    split_says : (node : ℕ) (b : BorderView) → border_at m.machine.tree.nodes node ≡ Some b → (refusal : Refusal) → split_fault m.machine.tree b ≡ Some refusal → Says refusal
    split_says node b at refusal e = elim (of_two (b.version.vsplit == MAX_SPLITS) Spent refusal (refused_if (occupied m.machine.tree.nodes == MAX_NODES) ArenaFull) e) [
      | inl spent ↦ elim (eqb_tells b.version.vsplit MAX_SPLITS) [
        | inl t ↦ subst Says (sym spent.1) (inr (m, came.comes, (node, subst (λ (o : Option BorderView). IsSomeAnd o (λ (x : BorderView). (insert_is_spent x ≡ true) ⊎ (x.version.vsplit ≡ MAX_SPLITS))) (sym at) (inr t.1))))
        | inr f ↦ (let clash : ◌≡◌ {A = Bool} true false = sym spent.0 ∙ f.0 in cc)
      ]
      | inr rest ↦
          let full = of_one (occupied m.machine.tree.nodes == MAX_NODES) ArenaFull refusal rest in
          elim (eqb_tells (occupied m.machine.tree.nodes) MAX_NODES) [
            | inl t ↦ (let all = t.1 in subst Says (sym full.1) (m, came.comes, omega (arith, all)))
            | inr f ↦ (let clash : ◌≡◌ {A = Bool} true false = sym full.0 ∙ f.0 in cc)
          ]
    ]

    layer_says : (refusal : Refusal) → layer_fault m.machine.tree ≡ Some refusal → Says refusal
    layer_says refusal e =
        let full = of_one (nat_lt MAX_NODES (occupied m.machine.tree.nodes + 2)) ArenaFull refusal e in
        elim (less_tells MAX_NODES (occupied m.machine.tree.nodes + 2)) [
          | inl t ↦ (let less = t.1 in subst Says (sym full.1) (m, came.comes, omega (arith, less)))
          | inr f ↦ (let clash : ◌≡◌ {A = Bool} true false = sym full.0 ∙ f.0 in cc)
        ]

    put_says : (node : ℕ) (b : BorderView) → border_at m.machine.tree.nodes node ≡ Some b → (found : Found) (refusal : Refusal) → put_fault m.machine.tree m.machine.log b found ≡ Some refusal → Says refusal
    put_says node b at (Absent place) refusal e = by_room (length b.live == SLOTS) e
      where
        by_room : (full : Bool) → (if full then split_fault m.machine.tree b else fill_fault m.machine.log b) ≡ Some refusal → Says refusal
        by_room true e = split_says node b at refusal e
        by_room false e = fill_says node b at refusal e
    put_says node b at (Row place) refusal e = reserve_says refusal e
    put_says node b at (OtherSuffix place) refusal e = layer_says refusal e
    put_says node b at _ refusal e = none_some refusal e

    remove_says : (found : Found) (refusal : Refusal) → remove_fault m.machine.log found ≡ Some refusal → Says refusal
    remove_says (Row place) refusal e = reserve_says refusal e
    remove_says _ refusal e = none_some refusal e

    version_says : (only : Option ℕ) (row : Option RowValue) (refusal : Refusal) → version_fault only row ≡ Some refusal → Says refusal
    version_says None row refusal e = none_some refusal e
    version_says (Some version) row refusal e = by_version (version_of row == version) e
      where
        by_version : (same : Bool) → (if same then None else Some (OtherVersion (version_of row))) ≡ Some refusal → Says refusal
        by_version true e = none_some refusal e
        by_version false e = subst Says (same_refusal (OtherVersion (version_of row)) refusal e) tt

    of_either : (first rest : Option Refusal) (refusal : Refusal) → option_or first rest ≡ Some refusal → (first ≡ Some refusal) ⊎ (rest ≡ Some refusal)
    of_either None rest refusal e = inr e
    of_either (Some x) rest refusal e = inl e

    edit_says : (node : ℕ) (b : BorderView) → border_at m.machine.tree.nodes node ≡ Some b → (edit : Edit) (found : Found) (refusal : Refusal) → edit_fault m.machine.tree m.machine.log edit b found ≡ Some refusal → Says refusal
    edit_says node b at (PutEdit sets only) found refusal e = elim (of_either (version_fault only (row_found b.live found)) (put_fault m.machine.tree m.machine.log b found) refusal e) [
      | inl first ↦ version_says only (row_found b.live found) refusal first
      | inr rest ↦ put_says node b at found refusal rest
    ]
    edit_says node b at RemoveEdit found refusal e = remove_says found refusal e

  -- ---- the one call that is open
  pub record Only (m : MachineView) (past : History) (one : OpenCall) : Type 0 where
    pub kept : Call
    pub is : m.calls.calls ≡ (number.0, kept) ∷ []
    pub asks : one.request ≡ request_of kept.work
    pub committed : one.committed ≡ (held kept.work).committed
    pub reserved : m.log.reserved ≡ (held kept.work).reserves

  pub only_one : (m : MachineView) (past : History) (one : OpenCall) → Stands m past → (moment past).calls ≡ one ∷ [] → one.number ≡ number.0 → Only m past one
  only_one m past one st calls named = go m.calls.calls refl (subst (λ (l : List OpenCall). Paired (CallStands m.columns m.epoch m.tree st.w past) 0 m.calls.begun m.calls.calls l) calls st.calls)
    where
      go : (entries : List (ℕ × Call)) → m.calls.calls ≡ entries → Paired (CallStands m.columns m.epoch m.tree st.w past) 0 m.calls.begun entries (one ∷ []) → Only m past one
      go [] is pairs = absurd pairs
      go (entry ∷ []) is (above, same, stands, rest) = record {
        kept = entry.1;
        is = is ∙ ap (λ (n : ℕ). (n, entry.1) ∷ []) (sym same ∙ named);
        asks = stands.request;
        committed = stands.committed;
        reserved = st.reserved ∙ (ap all_reserved is ∙ (let zero : (held entry.1.work).reserves + 0 ≡ (held entry.1.work).reserves = omega arith in zero));
      }
      go (entry ∷ other ∷ entries) is (above, same, stands, rest) = absurd rest

  pub found_one : (m : MachineView) (past : History) (one : OpenCall) (o : Only m past one) → call_at number.0 m.calls.calls ≡ Some o.kept
  found_one m past one o = ap (call_at number.0) o.is ∙ ap (λ (b : Bool). if b then Some o.kept else None) (eq-eqb number.0 number.0 refl)

  abbrev pub CallSays : MachineView → Type 0
  CallSays m = (c : Call) → call_at number.0 m.calls.calls ≡ Some c → WorkSays Says c.work

  -- it is so of each fault for which it may fail at a store to which it has come
  explains : (m : Store) (one : OpenCall) (o : Only m.machine m.past one) → ComesTo s pass request number m → (one.committed ≡ None → newest_of m.machine.log ≡ newest s) → m.machine.log.capacity ≡ s.machine.log.capacity
      → (write : WriteView) → o.kept.work ≡ Write write → Explains Says m.machine.tree m.machine.log write
  explains m one o comes quiet feed write is = record {
    memory = tt;
    searched = λ found at b there refusal e. edit_says m (came (ap (λ (x : Stage). (stage_held write.way.node.0 x).committed) at) (ap (λ (x : Stage). (stage_held write.way.node.0 x).reserves) at)) write.way.node.0 b there write.edit (found_for (rest_of write.key write.way) b.live) refusal e;
    halved = λ split place at b refusal there e. fill_says m (came (ap (λ (x : Stage). (stage_held write.way.node.0 x).committed) at) (ap (λ (x : Stage). (stage_held write.way.node.0 x).reserves) at)) write.way.node.0 b there refusal e;
  }
    where
      came : (stage_held write.way.node.0 write.stage).committed ≡ None → (stage_held write.way.node.0 write.stage).reserves ≡ 0 → Came m
      came pending none = record {
        comes = comes;
        commits = quiet (o.committed ∙ (ap (λ (w : Work). (held w).committed) is ∙ pending));
        reserved = o.reserved ∙ (ap (λ (w : Work). (held w).reserves) is ∙ none);
        feed = feed;
      }

  -- a step leaves it so
  pub says_on : (m : Store) (n : MachineView) (one : OpenCall) (o : Only m.machine m.past one) → ComesTo s pass request number m → (one.committed ≡ None → newest_of m.machine.log ≡ newest s) → m.machine.log.capacity ≡ s.machine.log.capacity
      → (outcome : Outcome) → Continues outcome → Happens m.machine (Step number) outcome n → CallSays m.machine → CallSays n
  says_on m n one o comes quiet feed Moved on h says = λ c at.
      work_moved Says m.machine.tree m.machine.log o.kept.work c.work (explains m one o comes quiet feed)
      (h.one_step o.kept c (found_one m.machine m.past one o) at) (h.caused o.kept c (found_one m.machine m.past one o) at) (says o.kept (found_one m.machine m.past one o))
  says_on m n one o comes quiet feed Again on h says = λ c at.
      work_rests Says m.machine.tree m.machine.log o.kept.work c.work (h.one_step o.kept c (found_one m.machine m.past one o) at) (says o.kept (found_one m.machine m.past one o))
  says_on m n one o comes quiet feed (Commit commit) on h says = λ c at.
      work_commits Says m.machine.tree m.machine.log o.kept.work c.work commit (h.one_step o.kept c (found_one m.machine m.past one o) at)
  says_on m n one o comes quiet feed _ on h says = absurd on

  -- it is so when the call has begun, if no other call is open
  begins_of : (m n : MachineView) (own : PassNo) (asked : Request) → EventDoes m (Begin own asked) (Called number) n → Begins m own asked (Called number) n
  unfolding EventDoes
  begins_of m n own asked does = does

  pub says_begun : (m n : MachineView) (past : History) (own : PassNo) (asked : Request) → Stands m past → (moment past).calls ≡ [] → Happens m (Begin own asked) (Called number) n → CallSays n
  says_begun m n past own asked st none h =
      let (unfaulted, next, work, asks, new, is) = begins_of m n own asked h.does in
      λ c at. by_number m (m.calls.begun + 1 == number.0) work c new.at_start
      (sym (ap (λ (l : List (ℕ × Call)). call_at number.0 (l ++ (m.calls.begun + 1, record { pass = own; from = newest_of m.log; epoch = m.epoch; work = work }) ∷ [])) (no_entries m past st none))
      ∙ (sym (ap (λ (x : MachineView). call_at number.0 x.calls.calls) is) ∙ at))
    where
      by_number : (m : MachineView) (here : Bool) (work : Work) (c : Call) → IsAtStart work
          → (if here then Some (record { pass = own; from = newest_of m.log; epoch = m.epoch; work = work }) else None) ≡ Some c → WorkSays Says c.work
      by_number m true work c start e = let same : record { pass = own; from = newest_of m.log; epoch = m.epoch; work = work } ≡ c = cc e in subst (λ (x : Call). WorkSays Says x.work) same (work_begins Says work start)
      by_number m false work c start e = let clash : ◌≡◌ {A = Option Call} None (Some c) = e in cc

  -- a put or remove is refused for what is so
  pub refused_says : (m n : MachineView) (past : History) (one : OpenCall) (o : Only m past one) → one.request ≡ request → (refusal : Refusal) → Happens m (Step number) (Refused refusal) n → CallSays m → IsWriting request → Says refusal
  refused_says m n past one o asks refusal h says writing =
      work_refused Says m.tree o.kept.work refusal (subst IsWriting (sym asks ∙ o.asks) writing)
      (by_cause (subst (λ (c : Option Call). RefusedFor m c refusal) (found_one m past one o) h.caused)) (says o.kept (found_one m past one o))
    where
      by_cause : RefusedFor m (Some o.kept) refusal → WorkRefuses m.tree o.kept.work refusal ⊎ IsBuiltWork o.kept.work
      by_cause (inl refuses) = inl refuses
      by_cause (inr spent) = inr spent.2

-- The laws of an index of one caller: its queries are answered plainly.
use Rattle.std.proofs.Common.{ℕ, ◌≡◌, ◌<◌, ◌≤◌, Bool, true, false, inl, inr, List, [], ◌∷◌, ◌++◌, length, Option, Some, None, IfSome, refl, sym, ap, subst, ◌∙◌, arith, append-nil}
use Rattle.std.specs.Prelude.{zero, suc, ◌⊎◌, ◌==◌, ◌&&◌, not, nat_le, MatchBool, Result, Ok, Err}
use Rattle.std.proofs.lemmas.Bool.{cases_Bool}
use Rattle.mt_types.specs.Numbers.{greatest_number}
use Rattle.mt_types.specs.declared.refusal.Refusal.{Refusal}
use Rattle.mt_types.specs.declared.limits.TheConstants.{MAX_VIEWS}
use Rattle.mt_types.specs.declared.event.Event.TheVariants.{Begin, Advance, Collect, ViewRead as ReadOf, ViewDrop as DropOf}
use Rattle.mt_types.specs.declared.event.Outcome.TheVariants.{Done, Dropped, Refused}
use Rattle.mt_types.specs.declared.event.Request.{Request}
use Rattle.mt_types.specs.declared.event.Request.TheVariants.{Remove, Tidy}
use Rattle.mt_types.specs.declared.event.Reply.{Reply}
use Rattle.mt_promise.specs.History.{History, happening, StandingView, moment, without_view}
use Rattle.mt_shared.specs.Passes.{PassView}
use Rattle.mt_shared.specs.Drives.{whole, IsDrive}
use Rattle.mt_shared.specs.Reads.{ReadsNow}
use Rattle.mt_shared.specs.Pages.{PagesNow}
use Rattle.mt_shared.specs.Quiet.{QuietReadsNow}
use Rattle.mt_shared.specs.Tidies.{Frees, Looks, Purges, Tidies, TidiesAll, TidiesOnce}
use Rattle.mt_walk.specs.declared.place.TheConstants.{MAX_TIDIES}
use Rattle.mt_index.specs.Viewing.{page_outcome}
use Rattle.mt_shared.specs.Turns.{drop_outcome, turn}
use Rattle.mt_shared.specs.Inner.{InnerView, Does}
use Rattle.mt_wire.specs.declared.query.Query.{Query}
use Rattle.mt_wire.specs.declared.query.Query.TheVariants.{Call, Read, ViewRead, ViewDrop, Server}
use Rattle.mt_wire.specs.declared.response.Response.{Response}
use Rattle.mt_wire.specs.declared.frame.Frame.{Frame}
use Rattle.mt_serve.specs.Asking.{Asks, Answers, AnswersAll, AnswersFrames, Follows, KeepsViews, PurgesFor, changes}
use Rattle.mt_serve.specs.declared.fault.SessionFault.{SessionFault}
use Rattle.mt_serve.specs.declared.fault.SessionFault.TheVariants.{Write, NoMemory as WantsMemory}
use Rattle.mt_serve.specs.Sessions.{BreaksIn, BreaksAt, requests_of}
use Rattle.mt_serve.specs.Plain.{IsAlone, PlainlyAsks, PlainlyAnswers, PlainlyFollows, MayBeTidied, TidiesPlainly, TidiesPlainlyOnce, store_of, FreshIsAlone, AloneAnswersPlainly, AloneAnswersFramesPlainly, AloneServesPlainly, AloneBreaksPlainly, BreaksInPlainly, BreaksAtPlainly}
use Rattle.mt_serve.specs.Store.{Store}
use Rattle.mt_serve.proofs.QuietLemmas.{query_plainly}
use Rattle.mt_serve.proofs.ReadLemmas.{read_same, read_ends}
use Rattle.mt_serve.proofs.AloneEnds.{drive_ends}
use Rattle.mt_serve.proofs.AloneEvents.{keeping, goes, leads_one, does_rises, runs_rise}
use Rattle.mt_serve.proofs.AloneTurns.{keeps_up}
use Rattle.mt_serve.proofs.NewestLemmas.{advanced_calls, advanced_views}

-- ---- events are counted
drive_rises : (s t : InnerView) (p q : PassView) (request : Request) (result : Result Reply Refusal) → IsDrive Does s p request result t q → s.events ≤ t.events
drive_rises s t p q request (Ok reply) d = runs_rise s t p q (whole p.number request reply.call d.driven.steps (Done reply)) d.driven.runs
drive_rises s t p q request (Err refusal) d = elim d.refused [
  | inl turned ↦ does_rises s t p q (Begin p.number request) (Refused refusal) turned
  | inr cut ↦ runs_rise s t p q (whole p.number request cut.call cut.steps cut.last) cut.runs
]

same_rise : (s t : InnerView) → t ≡ s → s.events ≤ t.events
same_rise s t is = let equal = ap (λ (k : InnerView). k.events) is in omega (arith, equal)

asks_rise : (s t : InnerView) (p q : PassView) (query : Query) (response : Response) → Asks Does ReadsNow PagesNow QuietReadsNow s p query response t q → s.events ≤ t.events
asks_rise s t p q (Call request) response (result, inl (inl (must, drive)), is) = drive_rises s t p q request result drive
asks_rise s t p q (Call request) response (result, inr (within, short, same, pass), is) = same_rise s t same
asks_rise s t p q (Call request) response (result, inl (inr read), is) =
    let equal = ap (λ (k : InnerView). k.events) (read_same s t p q request result read) in omega (arith, equal)
asks_rise s t p q (ViewRead view floor start limit) response (result, inl (shown, same, pass), is) = same_rise s t same
asks_rise s t p q (ViewRead view floor start limit) response (result, inr (must, does, told), is) = does_rises s t p q (ReadOf view floor start limit) (page_outcome result) does
asks_rise s t p q (ViewDrop view) response (result, does, is) = does_rises s t p q (DropOf view) (drop_outcome result) does
asks_rise s t p q (Read query) response (same, by) = same_rise s t same
asks_rise s t p q (Server query) response (same, pass, is) = same_rise s t same

keeps_rise : (s t : InnerView) (p q : PassView) → KeepsViews Does s p t q → s.events ≤ t.events
keeps_rise s t p q (inl (applied, kept)) = runs_rise s t p q (kept.turned.turns ++ kept.last) kept.turned.runs
keeps_rise s t p q (inr (refusal, stopped)) = runs_rise s t p q (stopped.turned.turns ++ turn p.number (Refused refusal) ∷ []) stopped.turned.runs

once_rise : (s t : InnerView) (p q : PassView) (key : List ℕ) (took : Bool) → TidiesOnce Does s p key took t q → s.events ≤ t.events
once_rise s t p q key took (inl (result, drive, is)) = drive_rises s t p q (Tidy key) result drive
once_rise s t p q key took (inr (none, is, same)) = same_rise s t is

tidies_rise : (s t : InnerView) (p q : PassView) (key : List ℕ) (tidies : ℕ) → Tidies Does Looks s p key tidies t q → s.events ≤ t.events
tidies_rise s t p q key zero (is, same) = same_rise s t is
tidies_rise s t p q key (suc tidies) (m, r, before, one, still) =
    let a = tidies_rise s m p r key tidies before in
    let b = once_rise m t r q key true one in omega (arith, a, b)

tidies_all_rise : (s t : InnerView) (p q : PassView) (key : List ℕ) → TidiesAll Does Looks s p key t q → s.events ≤ t.events
tidies_all_rise s t p q key (inl all) = tidies_rise s t p q key MAX_TIDIES all
tidies_all_rise s t p q key (inr (tidies, fewer, m, r, before, (took, one, last))) =
    let a = tidies_rise s m p r key tidies before in
    let b = once_rise m t r q key took one in omega (arith, a, b)

frees_rise : (s t : InnerView) (p q : PassView) → Frees Does s p t q → s.events ≤ t.events
frees_rise s t p q (m, r, next, freed, advances, collects) =
    let a = does_rises s m p r Advance next advances in
    let b = does_rises m t r q Collect freed collects in omega (arith, a, b)

emptied_rise : (s t : InnerView) (p q : PassView) (key : List ℕ) (empty : Bool) → MatchBool empty (Purges Does Looks s p key t q) ((t ≡ s) × (q ≡ p)) → s.events ≤ t.events
emptied_rise s t p q key true (m, r, all, frees) =
    let a = tidies_all_rise s m p r key all in
    let b = frees_rise m t r q frees in omega (arith, a, b)
emptied_rise s t p q key false (is, same) = same_rise s t is

purges_rise : (s t : InnerView) (p q : PassView) (query : Query) → PurgesFor Does Looks query s p t q → s.events ≤ t.events
purges_rise s t p q (Call (Remove key)) (inl (empty, looks, by)) = emptied_rise s t p q key empty by
purges_rise s t p q (Call (Remove key)) (inr (none, is, same)) = same_rise s t is
purges_rise s t p q _ same = same_rise s t same.0

then_rise : (s t : InnerView) (p q : PassView) (query : Query) (b : Bool) → MatchBool b (Follows Does Looks query s p t q) ((t ≡ s) × (q ≡ p)) → s.events ≤ t.events
then_rise s t p q query true (m, r, kept, purges) =
    let a = keeps_rise s m p r kept in
    let b = purges_rise m t r q query purges in omega (arith, a, b)
then_rise s t p q query false (is, same) = same_rise s t is

answers_rise : (s t : InnerView) (p q : PassView) (query : Query) (response : Response) → Answers Does ReadsNow PagesNow QuietReadsNow Looks s p query response t q → s.events ≤ t.events
answers_rise s t p q query response (m, r, asks, final) =
    let a = asks_rise s m p r query response asks in
    let b = then_rise m t r q query (changes response) final in omega (arith, a, b)

pub all_rise : (s t : InnerView) (p q : PassView) (queries : List Query) (responses : List Response) → AnswersAll Does ReadsNow PagesNow QuietReadsNow Looks s p queries responses t q → s.events ≤ t.events
all_rise s t p q [] [] (is, same) = let equal = ap (λ (k : InnerView). k.events) is in omega (arith, equal)
all_rise s t p q (query ∷ queries) (response ∷ responses) (m, r, one, more) =
    let a = answers_rise s m p r query response one in
    let b = all_rise m t r q queries responses more in omega (arith, a, b)
all_rise s t p q [] (response ∷ responses) never = absurd never
all_rise s t p q (query ∷ queries) [] never = absurd never

frames_rise : (s t : InnerView) (p q : PassView) (frames : List (Frame Query)) (replies : List (Frame Response)) → AnswersFrames Does ReadsNow PagesNow QuietReadsNow Looks s p frames replies t q → s.events ≤ t.events
frames_rise s t p q [] [] (is, same) = let equal = ap (λ (k : InnerView). k.events) is in omega (arith, equal)
frames_rise s t p q (frame ∷ frames) (reply ∷ replies) (m, r, one, more) =
    let a = all_rise s m p r frame.messages reply.messages one.1 in
    let b = frames_rise m t r q frames replies more in omega (arith, a, b)
frames_rise s t p q [] (reply ∷ replies) never = absurd never
frames_rise s t p q (frame ∷ frames) [] never = absurd never

-- ---- a query
-- what came of what a query asked
record IsAsked (s : Store) (query : Query) (response : Response) (t : InnerView) (q : PassView) : Type 0 where
  final : History
  alone : IsAlone t q final
  columns : t.machine.columns ≡ s.machine.columns
  plain : PlainlyAsks s query response (store_of t final)

few_left : (number : ℕ) (views : List StandingView) → length (without_view number views) ≤ length views
few_left number [] = omega arith
few_left number (v ∷ views) =
    let rest = few_left number views in
    elim (cases_Bool (v.number == number)) [ inl b ↦ rw b (omega (arith, rest)) | inr b ↦ rw b (omega (arith, rest)) ]

asks_plainly : (s t : InnerView) (p q : PassView) (h : History) (query : Query) (response : Response) → IsAlone s p h → t.events < greatest_number → Asks Does ReadsNow PagesNow QuietReadsNow s p query response t q → IsAsked (store_of s h) query response t q
asks_plainly s t p q h (Call request) response a few (result, inl (inl (must, drive)), is) =
    let (final, alone, columns, ends) = drive_ends s t p q h request result a few drive in
    record { final = final; alone = alone; columns = columns; plain = (result, inl ends, is) }
asks_plainly s t p q h (Call request) response a few (result, inl (inr read), is) =
    let (alone, ends) = read_ends s t p q h request result a read in
    record { final = h; alone = alone; columns = ap (λ (k : InnerView). k.machine.columns) (read_same s t p q request result read); plain = (result, inr (inl ends), is) }
asks_plainly s t p q h (Call request) response a few (result, inr (within, short, same, pass), is) = record {
  final = h;
  alone = subst (λ (k : InnerView). IsAlone k q h) (sym same) (subst (λ (v : PassView). IsAlone s v h) (sym pass) a);
  columns = ap (λ (k : InnerView). k.machine.columns) same;
  plain = (result, inr (inr (within, short, ap (λ (k : InnerView). store_of k h) same)), is);
}
asks_plainly s t p q h (ViewRead view floor start limit) response a few (result, inl (shown, same, pass), is) =
    let (note, then) = shown.page.stands h a.stands in
    record {
      final = h;
      alone = subst (λ (k : InnerView). IsAlone k q h) (sym same) (subst (λ (v : PassView). IsAlone s v h) (sym pass) a);
      columns = ap (λ (k : InnerView). k.machine.columns) same;
      plain = (result, inr (ap (λ (k : InnerView). store_of k h) same, (note, then.legal.1)), is);
    }
asks_plainly s t p q h (ViewRead view floor start limit) response a few (result, inr (must, does, told), is) =
    let went = goes s t p q h (ReadOf view floor start limit) (page_outcome result) (keeping s p h a) few refl does in
    record {
      final = happening (ReadOf view floor start limit) (page_outcome result) went.note ∷ h;
      alone = record { stands = went.keeps.stands; ended = a.ended; few_views = a.few_views; own = went.keeps.own; seen = went.keeps.seen; counted = went.keeps.counted };
      columns = went.columns;
      plain = (result, inl (leads_one s t h (ReadOf view floor start limit) (page_outcome result) went.note went.happens, (went.note, went.may)), is);
    }
asks_plainly s t p q h (ViewDrop view) response a few (Ok done, does, is) =
    let went = goes s t p q h (DropOf view) Dropped (keeping s p h a) few refl does in
    record {
      final = happening (DropOf view) Dropped went.note ∷ h;
      alone = record {
        stands = went.keeps.stands;
        ended = a.ended;
        few_views = (let left = few_left view.0 (moment h).views in let most = a.few_views in omega (arith, left, most));
        own = went.keeps.own;
        seen = went.keeps.seen;
        counted = went.keeps.counted;
      };
      columns = went.columns;
      plain = (Ok done, (leads_one s t h (DropOf view) Dropped went.note went.happens, (went.note, went.may)), is);
    }
asks_plainly s t p q h (ViewDrop view) response a few (Err refusal, does, is) =
    let went = goes s t p q h (DropOf view) (Refused refusal) (keeping s p h a) few refl does in
    record {
      final = happening (DropOf view) (Refused refusal) went.note ∷ h;
      alone = record { stands = went.keeps.stands; ended = a.ended; few_views = a.few_views; own = went.keeps.own; seen = went.keeps.seen; counted = went.keeps.counted };
      columns = went.columns;
      plain = (Err refusal, (leads_one s t h (DropOf view) (Refused refusal) went.note went.happens, (went.note, went.may)), is);
    }
asks_plainly s t p q h (Read query) response a few (same, by) =
    let (alone, plain) = query_plainly s p q h query response a by in
    record {
      final = h;
      alone = subst (λ (k : InnerView). IsAlone k q h) (sym same) alone;
      columns = ap (λ (k : InnerView). k.machine.columns) same;
      plain = (ap (λ (k : InnerView). store_of k h) same, plain);
    }
asks_plainly s t p q h (Server query) response a few (same, pass, is) = record {
  final = h;
  alone = subst (λ (k : InnerView). IsAlone k q h) (sym same) (subst (λ (v : PassView). IsAlone s v h) (sym pass) a);
  columns = ap (λ (k : InnerView). k.machine.columns) same;
  plain = (ap (λ (k : InnerView). store_of k h) same, is);
}

-- ---- tidies
-- what was done leaves the pass alone, at a store of which this holds
record ThenAlone (C : ℕ) (P : Store → Type 0) (t : InnerView) (q : PassView) : Type 0 where
  final : History
  alone : IsAlone t q final
  columns : t.machine.columns ≡ C
  plain : P (store_of t final)

alone_still : (s t : InnerView) (p q : PassView) (h : History) (P : Store → Type 0) → IsAlone s p h → t ≡ s → q ≡ p → P (store_of t h) → ThenAlone s.machine.columns P t q
alone_still s t p q h P a is same plain = record {
  final = h;
  alone = subst (λ (k : InnerView). IsAlone k q h) (sym is) (subst (λ (v : PassView). IsAlone s v h) (sym same) a);
  columns = ap (λ (k : InnerView). k.machine.columns) is;
  plain = plain;
}

once_plainly : (s t : InnerView) (p q : PassView) (h : History) (key : List ℕ) (took : Bool) → IsAlone s p h → t.events < greatest_number → TidiesOnce Does s p key took t q
    → ThenAlone s.machine.columns (TidiesPlainlyOnce (store_of s h) key took) t q
once_plainly s t p q h key took a few (inl (result, drive, is)) =
    let (final, alone, columns, ends) = drive_ends s t p q h (Tidy key) result a few drive in
    record { final = final; alone = alone; columns = columns; plain = inl (result, inl ends, is) }
once_plainly s t p q h key took a few (inr (none, is, same)) =
    alone_still s t p q h (TidiesPlainlyOnce (store_of s h) key took) a is same (inr (none, ap (λ (k : InnerView). store_of k h) is))

tidies_plainly : (s t : InnerView) (p q : PassView) (h : History) (key : List ℕ) (tidies : ℕ) → IsAlone s p h → t.events < greatest_number → Tidies Does Looks s p key tidies t q
    → ThenAlone s.machine.columns (TidiesPlainly (store_of s h) key tidies) t q
tidies_plainly s t p q h key zero a few (is, same) =
    alone_still s t p q h (TidiesPlainly (store_of s h) key zero) a is same (ap (λ (k : InnerView). store_of k h) is)
tidies_plainly s t p q h key (suc tidies) a few (m, r, before, one, still) =
    let rises = once_rise m t r q key true one in
    let so_far = tidies_plainly s m p r h key tidies a (omega (arith, few, rises)) before in
    let last = once_plainly m t r q so_far.final key true so_far.alone few one in
    record { final = last.final; alone = last.alone; columns = last.columns ∙ so_far.columns; plain = (store_of m so_far.final, so_far.plain, last.plain) }

abbrev AllPlainly : Store → List ℕ → Store → Type 0
AllPlainly s key t = TidiesPlainly s key MAX_TIDIES t
    ⊎ ((tidies : ℕ) × (tidies < MAX_TIDIES) × (m : Store) × TidiesPlainly s key tidies m × ((took : Bool) × TidiesPlainlyOnce m key took t))

tidies_all_plainly : (s t : InnerView) (p q : PassView) (h : History) (key : List ℕ) → IsAlone s p h → t.events < greatest_number → TidiesAll Does Looks s p key t q
    → ThenAlone s.machine.columns (AllPlainly (store_of s h) key) t q
tidies_all_plainly s t p q h key a few (inl all) =
    let done = tidies_plainly s t p q h key MAX_TIDIES a few all in
    record { final = done.final; alone = done.alone; columns = done.columns; plain = inl done.plain }
tidies_all_plainly s t p q h key a few (inr (tidies, fewer, m, r, before, (took, one, ends))) =
    let rises = once_rise m t r q key took one in
    let so_far = tidies_plainly s m p r h key tidies a (omega (arith, few, rises)) before in
    let last = once_plainly m t r q so_far.final key took so_far.alone few one in
    record {
      final = last.final;
      alone = last.alone;
      columns = last.columns ∙ so_far.columns;
      plain = inr (tidies, fewer, store_of m so_far.final, so_far.plain, (took, last.plain));
    }

emptied_plainly : (s t : InnerView) (p q : PassView) (h : History) (key : List ℕ) (empty : Bool) → IsAlone s p h → t.events < greatest_number → MatchBool empty (Purges Does Looks s p key t q) ((t ≡ s) × (q ≡ p))
    → ThenAlone s.machine.columns (MayBeTidied (Call (Remove key)) (store_of s h)) t q
emptied_plainly s t p q h key true a few (m, r, all, (n, v, next, freed, advances, collects)) =
    let last = does_rises n t v q Collect freed collects in
    let first = does_rises m n r v Advance next advances in
    let done = tidies_all_plainly s m p r h key a (omega (arith, few, first, last)) all in
    let on = goes m n r v done.final Advance next (keeping m r done.final done.alone) (omega (arith, few, last)) refl advances in
    let later : History = happening Advance next on.note ∷ done.final in
    let went = goes n t v q later Collect freed on.keeps few refl collects in
    record {
      final = happening Collect freed went.note ∷ later;
      alone = record {
        stands = went.keeps.stands;
        ended = advanced_calls (moment done.final) next ∙ done.alone.ended;
        few_views = subst (λ (l : List StandingView). length l ≤ MAX_VIEWS) (sym (advanced_views (moment done.final) next)) done.alone.few_views;
        own = went.keeps.own;
        seen = went.keeps.seen;
        counted = went.keeps.counted;
      };
      columns = went.columns ∙ on.columns ∙ done.columns;
      plain = inl (record {
        tidied = store_of m done.final;
        tidies = done.plain;
        next = store_of n later;
        advanced = next;
        advances = (leads_one m n done.final Advance next on.note on.happens, (on.note, on.may));
        freed = freed;
        frees = (leads_one n t later Collect freed went.note went.happens, (went.note, went.may));
      });
    }
emptied_plainly s t p q h key false a few (is, same) =
    alone_still s t p q h (MayBeTidied (Call (Remove key)) (store_of s h)) a is same (inr (ap (λ (k : InnerView). store_of k h) is))

purges_plainly : (s t : InnerView) (p q : PassView) (h : History) (query : Query) → IsAlone s p h → t.events < greatest_number → PurgesFor Does Looks query s p t q
    → ThenAlone s.machine.columns (MayBeTidied query (store_of s h)) t q
purges_plainly s t p q h (Call (Remove key)) a few (inl (empty, looks, by)) = emptied_plainly s t p q h key empty a few by
purges_plainly s t p q h (Call (Remove key)) a few (inr (none, is, same)) =
    alone_still s t p q h (MayBeTidied (Call (Remove key)) (store_of s h)) a is same (inr (ap (λ (k : InnerView). store_of k h) is))
purges_plainly s t p q h _ a few same =
    alone_still s t p q h (λ (x : Store). x ≡ store_of s h) a same.0 same.1 (ap (λ (k : InnerView). store_of k h) same.0)

record IsAnswered (s : Store) (query : Query) (response : Response) (t : InnerView) (q : PassView) : Type 0 where
  final : History
  alone : IsAlone t q final
  columns : t.machine.columns ≡ s.machine.columns
  plain : PlainlyAnswers s query response (store_of t final)

answers_plainly : (s t : InnerView) (p q : PassView) (h : History) (query : Query) (response : Response) → IsAlone s p h → t.events < greatest_number → Answers Does ReadsNow PagesNow QuietReadsNow Looks s p query response t q → IsAnswered (store_of s h) query response t q
answers_plainly s t p q h query response a few (m, r, asks, final) =
    let rises = then_rise m t r q query (changes response) final in
    let asked = asks_plainly s m p r h query response a (omega (arith, few, rises)) asks in
    by_change asked (changes response) refl final
  where
    by_change : (asked : IsAsked (store_of s h) query response m r) (b : Bool) → changes response ≡ b → MatchBool b (Follows Does Looks query m r t q) ((t ≡ m) × (q ≡ r)) → IsAnswered (store_of s h) query response t q
    by_change asked true e (n, v, kept, purges) =
        let rises = purges_rise n t v q query purges in
        let up = keeps_up m n r v asked.final asked.alone (omega (arith, few, rises)) kept in
        let done = purges_plainly n t v q up.final query up.alone few purges in
        record {
          final = done.final;
          alone = done.alone;
          columns = done.columns ∙ up.columns ∙ asked.columns;
          plain = (
            store_of m asked.final,
            asked.plain,
            subst (λ (b : Bool). MatchBool b (PlainlyFollows query (store_of m asked.final) (store_of t done.final)) (store_of t done.final ≡ store_of m asked.final)) (sym e)
                (store_of n up.final, up.kept, done.plain),
          );
        }
    by_change asked false e (is, same) = record {
      final = asked.final;
      alone = subst (λ (k : InnerView). IsAlone k q asked.final) (sym is) (subst (λ (v : PassView). IsAlone m v asked.final) (sym same) asked.alone);
      columns = ap (λ (k : InnerView). k.machine.columns) is ∙ asked.columns;
      plain = (store_of m asked.final, asked.plain, subst (λ (b : Bool). MatchBool b (PlainlyFollows query (store_of m asked.final) (store_of t asked.final)) (store_of t asked.final ≡ store_of m asked.final)) (sym e) (ap (λ (k : InnerView). store_of k asked.final) is));
    }

-- ---- queries and frames
pub alone_answers : AloneAnswersPlainly
alone_answers s t p q h [] [] a few (is, same) = (
  h,
  subst (λ (k : InnerView). IsAlone k q h) (sym is) (subst (λ (v : PassView). IsAlone s v h) (sym same) a),
  ap (λ (k : InnerView). k.machine.columns) is,
  ap (λ (k : InnerView). store_of k h) is,
)
alone_answers s t p q h (query ∷ queries) (response ∷ responses) a few (m, r, one, more) =
    let rises = all_rise m t r q queries responses more in
    let answered = answers_plainly s m p r h query response a (omega (arith, few, rises)) one in
    let (final, alone, columns, plain) = alone_answers m t r q answered.final queries responses answered.alone few more in
    (final, alone, columns ∙ answered.columns, (store_of m answered.final, answered.plain, plain))
alone_answers s t p q h [] (response ∷ responses) a few never = absurd never
alone_answers s t p q h (query ∷ queries) [] a few never = absurd never

pub alone_answers_frames : AloneAnswersFramesPlainly
alone_answers_frames s t p q h [] [] a few (is, same) = (
  h,
  subst (λ (k : InnerView). IsAlone k q h) (sym is) (subst (λ (v : PassView). IsAlone s v h) (sym same) a),
  ap (λ (k : InnerView). k.machine.columns) is,
  ap (λ (k : InnerView). store_of k h) is,
)
alone_answers_frames s t p q h (frame ∷ frames) (reply ∷ replies) a few (m, r, one, more) =
    let rises = frames_rise m t r q frames replies more in
    let (past, alone, columns, plain) = alone_answers s m p r h frame.messages reply.messages a (omega (arith, few, rises)) one.1 in
    let (final, still, same, rest) = alone_answers_frames m t r q past frames replies alone few more in
    (final, still, same ∙ columns, (store_of m past, (one.0, plain), rest))
alone_answers_frames s t p q h [] (reply ∷ replies) a few never = absurd never
alone_answers_frames s t p q h (frame ∷ frames) [] a few never = absurd never

-- ---- a session
whole_input : (input : List ℕ) (frames : List (Frame Query)) (rest : Option (List ℕ)) → (more : List ℕ) × (rest ≡ Some more) × (input ≡ requests_of frames ++ more) → IfSome rest (λ bytes. bytes ≡ []) → input ≡ requests_of frames
whole_input input frames (Some left) (more, is, front) none =
    let same : left ≡ more = cc in
    front ∙ ap (λ (l : List ℕ). requests_of frames ++ l) (sym same ∙ none) ∙ append-nil (requests_of frames)
whole_input input frames None (more, is, front) none = let clash : ◌≡◌ {A = Option (List ℕ)} None (Some more) = is in cc

pub alone_serves : AloneServesPlainly
alone_serves s t p q h input old new summary a few served =
    let (final, alone, columns, plain) = alone_answers_frames s t p q h served.frames served.served.replies a few served.served.answered in (
      final,
      alone,
      record {
        frames = served.frames;
        replies = served.served.replies;
        fit = served.served.fit;
        read = whole_input input served.frames served.rest served.served.read served.whole;
        written = served.served.written;
        plain = plain;
      },
    )

-- ---- a session that breaks off
breaks_in_rise : (s t : InnerView) (p q : PassView) (fault : SessionFault) (frame : Frame Query) (old new : Option (List ℕ)) → BreaksIn Does ReadsNow PagesNow QuietReadsNow Looks s p fault frame old new t q → s.events ≤ t.events
breaks_in_rise s t p q Write frame old new (reply, sent, unsent, answered, is, wrote) = all_rise s t p q frame.messages reply.messages answered.1
breaks_in_rise s t p q WantsMemory frame old new (done, undone, responses, is, answered, same) = all_rise s t p q done responses answered
breaks_in_rise s t p q _ frame old new never = absurd never

breaks_rise : (s t : InnerView) (p q : PassView) (fault : SessionFault) (rest unread old new : Option (List ℕ)) → BreaksAt Does ReadsNow PagesNow QuietReadsNow Looks s p fault rest unread old new t q → s.events ≤ t.events
breaks_rise s t p q fault rest unread old new (inl (other, stands, same, is, pass)) = let equal = ap (λ (k : InnerView). k.events) is in omega (arith, equal)
breaks_rise s t p q fault rest unread old new (inr (frame, fits, there, breaks)) = breaks_in_rise s t p q fault frame old new breaks

breaks_in_plainly : (s t : InnerView) (p q : PassView) (h : History) (fault : SessionFault) (frame : Frame Query) (old new : Option (List ℕ)) → IsAlone s p h → t.events < greatest_number → BreaksIn Does ReadsNow PagesNow QuietReadsNow Looks s p fault frame old new t q
    → (final : History) × IsAlone t q final × BreaksInPlainly (store_of s h) fault frame old new (store_of t final)
breaks_in_plainly s t p q h Write frame old new a few (reply, sent, unsent, answered, is, wrote) =
    let (final, alone, columns, plain) = alone_answers s t p q h frame.messages reply.messages a few answered.1 in
    (final, alone, (reply, sent, unsent, (answered.0, plain), is, wrote))
breaks_in_plainly s t p q h WantsMemory frame old new a few (done, undone, responses, is, answered, same) =
    let (final, alone, columns, plain) = alone_answers s t p q h done responses a few answered in
    (final, alone, (done, undone, responses, is, plain, same))
breaks_in_plainly s t p q h _ frame old new a few never = absurd never

breaks_plainly : (s t : InnerView) (p q : PassView) (h : History) (fault : SessionFault) (rest : List ℕ) (unread old new : Option (List ℕ)) → IsAlone s p h → t.events < greatest_number → BreaksAt Does ReadsNow PagesNow QuietReadsNow Looks s p fault (Some rest) unread old new t q
    → (final : History) × IsAlone t q final × BreaksAtPlainly (store_of s h) fault rest unread old new (store_of t final)
breaks_plainly s t p q h fault rest unread old new a few (inl (other, stands, same, is, pass)) = (
  h,
  subst (λ (k : InnerView). IsAlone k q h) (sym is) (subst (λ (v : PassView). IsAlone s v h) (sym pass) a),
  inl (other, stands, same, ap (λ (k : InnerView). store_of k h) is),
)
breaks_plainly s t p q h fault rest unread old new a few (inr (frame, fits, (more, front), breaks)) =
    let (final, alone, plain) = breaks_in_plainly s t p q h fault frame old new a few breaks in
    (final, alone, inr (frame, more, front, plain))

pub alone_breaks : AloneBreaksPlainly
alone_breaks s t p q h input unread old new fault a few broken =
    let (more, is, front) = broken.served.read in
    let at : BreaksAt Does ReadsNow PagesNow QuietReadsNow Looks broken.shared broken.pass fault (Some more) unread broken.between new t q = subst (λ (r : Option (List ℕ)). BreaksAt Does ReadsNow PagesNow QuietReadsNow Looks broken.shared broken.pass fault r unread broken.between new t q) is broken.breaks in
    let rises = breaks_rise broken.shared t broken.pass q fault (Some more) unread broken.between new at in
    let (past, between, columns, plain) = alone_answers_frames s broken.shared p broken.pass h broken.frames broken.served.replies a (omega (arith, few, rises)) broken.served.answered in
    let (final, alone, breaks) = breaks_plainly broken.shared t broken.pass q past fault more unread broken.between new between few at in (
      final,
      alone,
      record {
        frames = broken.frames;
        replies = broken.served.replies;
        rest = more;
        between = broken.between;
        then = store_of broken.shared past;
        fit = broken.served.fit;
        read = front;
        written = broken.served.written;
        plain = plain;
        breaks = breaks;
      },
    )

-- ---- an index on which nothing has happened
pub fresh_is_alone : FreshIsAlone
fresh_is_alone options traced s p fresh new = record {
  stands = fresh.stands;
  ended = refl;
  few_views = omega arith;
  own = (let one = fresh.counters in let number = new.number in ap (λ (n : ℕ). not (n == 0) && nat_le n (length s.counters)) number ∙ ap (λ (n : ℕ). nat_le 1 n) one);
  seen = (let none = new.seen in omega (arith, none));
  counted = (let none = new.events in omega (arith, none));
}

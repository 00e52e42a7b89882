-- A read at once on an index of one caller: the answer is that of a plain store, and nothing has changed but what the
-- pass has seen.
use Rattle.std.proofs.Common.{ℕ, ◌≡◌, ◌∙◌, List, [], ◌∷◌, ◌++◌, length, Option, Some, None, Result, Ok, Err, refl, sym, ap, subst, inl, inr, arith, append-nil}
use Rattle.std.specs.Prelude.{MatchOption}
use Rattle.mt_types.specs.Limits.{request_fault}
use Rattle.mt_types.specs.declared.refusal.Refusal.{Refusal}
use Rattle.mt_types.specs.declared.refusal.Refusal.TheVariants.{NoMemory}
use Rattle.mt_types.specs.declared.event.Answer.{Answer}
use Rattle.mt_types.specs.declared.event.Request.{Request}
use Rattle.mt_types.specs.declared.event.Request.TheVariants.{Get, Range}
use Rattle.mt_types.specs.declared.event.Reply.{Reply}
use Rattle.mt_promise.specs.History.{History, OpenCall, StandingView, moment, view_built}
use Rattle.mt_promise.specs.Alone.{EndsPlainly}
use Rattle.mt_index.specs.declared.calls.Call.{Call}
use Rattle.mt_index.specs.Calls.{changing}
use Rattle.mt_index.specs.Paired.{Paired}
use Rattle.mt_index.specs.Stands.{MachineView, Stands, CallStands}
use Rattle.mt_shared.specs.declared.trace.Trace.TheVariants.{Off}
use Rattle.mt_shared.specs.Passes.{PassView}
use Rattle.mt_shared.specs.Inner.{InnerView, IsRefusedBy}
use Rattle.mt_shared.specs.Reads.{IsRead, IsPlainNow, IsReadNow, IsToldNow, MustDrive, ReadsNow, read_reply}
use Rattle.mt_shared.proofs.ReadLemmas.{unbroken}
use Rattle.mt_walk.specs.Removes.{RemovesWithin}
use Rattle.mt_serve.specs.Plain.{AloneReadsAtOnce, IsAlone, IsReadAtOnce, store_of}

-- if no call is open in the history, none is in the machine
pub no_entries : (m : MachineView) (past : History) → Stands m past → (moment past).calls ≡ [] → m.calls.calls ≡ []
no_entries m past st none = go m.calls.calls refl (subst (λ (l : List OpenCall). Paired (CallStands m.columns m.epoch m.tree st.w past) 0 m.calls.begun m.calls.calls l) none st.calls)
  where
    go : (entries : List (ℕ × Call)) → m.calls.calls ≡ entries → Paired (CallStands m.columns m.epoch m.tree st.w past) 0 m.calls.begun entries [] → m.calls.calls ≡ []
    go [] is pairs = is
    go (entry ∷ entries) is pairs = absurd pairs

pub read_same : (s t : InnerView) (p q : PassView) (request : Request) (result : Result Reply Refusal) → IsReadNow ReadsNow s p request result t q → t ≡ s
read_same s t p q request result read = read.same

-- a read that is refused is refused for the limit that it breaks, or out of memory
due : (fault : Option Refusal) (refusal : Refusal) → IsRefusedBy {T = ℕ × Answer} fault (Err refusal) → MatchOption fault (refusal ≡ NoMemory) (λ limit. refusal ≡ limit)
due None refusal why = why
due (Some limit) refusal why = let is : ◌≡◌ {A = Result (ℕ × Answer) Refusal} (Err refusal) (Err limit) = why in cc is

builds_none : (request : Request) (answer : Answer) (n : ℕ) → IsRead request → view_built request answer n ≡ []
builds_none (Get key asked) answer n read = refl
builds_none (Range start limit asked) answer n read = refl
builds_none _ answer n read = absurd read

module _ (s : InnerView) (p : PassView) (h : History) (request : Request) (a : IsAlone s p h) where
  -- a pass that has seen as much as there is now
  sees : (at : ℕ) → at ≡ length (moment h).commits → IsAlone s (record p { seen = at }) h
  sees at is = record {
    stands = a.stands;
    ended = a.ended;
    few_views = a.few_views;
    own = a.own;
    seen = omega (arith, is);
    counted = a.counted;
  }

  ends : (at : ℕ) (answer : Answer) → at ≡ length (moment h).commits → IsRead request → IsPlainNow s.machine request answer
      → EndsPlainly s.machine.columns h p.number (record { 0 = 0 }) request (read_reply p.number at answer) (moment h)
  ends at answer is read plain = record {
    same_pass = refl;
    same_call = refl;
    from = is;
    to = is;
    made = [];
    plain = plain h a.stands;
    commits = sym (append-nil (moment h).commits);
    views = sym (ap (λ (l : List StandingView). (moment h).views ++ l) (builds_none request answer (length (moment h).commits) read) ∙ append-nil (moment h).views);
    closed = a.ended;
  }

  -- what came of a read at once
  abbrev Came : Result Reply Refusal → InnerView → PassView → Type 0
  Came result t q = IsAlone t q h × IsReadAtOnce (store_of s h) request result (store_of t h)

  told : (read : Result (ℕ × Answer) Refusal) (result : Result Reply Refusal) (q : PassView) → ReadsNow s p.number request (Some read) → IsToldNow p read result q → Came result s q
  told (Ok (at, answer)) result q shown (inl (less, is, same)) =
      let now = shown.answer.0 h a.stands in
      let seen = a.seen in absurd (omega (arith, less, now, seen))
  told (Ok (at, answer)) result q shown (inr (most, is, same)) =
      let now = shown.answer.0 h a.stands in
      let read = (shown.may.0 refl).0 in
      subst (λ (r : Result Reply Refusal). Came r s q) (sym is)
      (subst (λ (v : PassView). Came (Ok (read_reply p.number at answer)) s v) (sym same)
      (sees at now, (refl, read, unbroken (request_fault s.machine.columns request) (at, answer) shown.fault, ends at answer now read shown.answer.1)))
  told (Err refusal) result q shown (is, same) =
      subst (λ (r : Result Reply Refusal). Came r s q) (sym is)
      (subst (λ (v : PassView). Came (Err refusal) s v) (sym same)
      (a, (refl, (shown.may.0 refl).0, due (request_fault s.machine.columns request) refusal shown.fault)))

pub read_ends : (s t : InnerView) (p q : PassView) (h : History) (request : Request) (result : Result Reply Refusal) → IsAlone s p h → IsReadNow ReadsNow s p request result t q
    → IsAlone t q h × IsReadAtOnce (store_of s h) request result (store_of t h)
read_ends s t p q h request result a read = subst (λ (k : InnerView). Came s p h request a result k q) (sym read.same) (told s p h request a read.read result q read.shown read.told)

-- if no trace is kept, no get or range need be driven
never_driven : (s : InnerView) (p : PassView) (h : History) (request : Request) → IsAlone s p h → s.trace ≡ Off → IsRead request → MustDrive ReadsNow s p.number request → ⊥
never_driven s p h request a off read (inl other) = other read
never_driven s p h request a off read (inr none) =
    let some = none.may.1 (read, (a.own, ap changing (no_entries s.machine h a.stands a.ended), off)) in absurd (cc some)

-- a get or a range is no remove
reads_none : (request : Request) → IsRead request → RemovesWithin request → ⊥
reads_none (Get key asked) read within = within
reads_none (Range start limit asked) read within = within
reads_none _ read within = absurd read

pub reads_at_once : AloneReadsAtOnce
reads_at_once s t p q h request response a off read (result, inl (inl (must, drive)), is) = absurd (never_driven s p h request a off read must)
reads_at_once s t p q h request response a off read (result, inl (inr now), is) = (result, (read_ends s t p q h request result a now).1, is)
reads_at_once s t p q h request response a off read (result, inr (within, short, same, pass), is) = absurd (reads_none request read within)

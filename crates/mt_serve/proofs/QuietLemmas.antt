-- A read of one moment on an index of one caller: the answer is that of a plain store, and there is one answer.
use Rattle.std.proofs.Common.{ℕ, ◌≡◌, ◌∙◌, Bool, true, false, length, Option, Some, None, Result, Ok, Err, sym, ap, subst, inl, inr, arith}
use Rattle.std.specs.Prelude.{MatchBool, MatchOption}
use Rattle.mt_types.specs.declared.refusal.Refusal.{Refusal}
use Rattle.mt_types.specs.declared.refusal.Refusal.TheVariants.{BadLimit, NoMemory}
use Rattle.mt_promise.specs.History.{History, Moment, moment, rows}
use Rattle.mt_index.specs.Alone.{IsQuiet}
use Rattle.mt_index.specs.Calls.{changing}
use Rattle.mt_reads.specs.Quiet.{quiet_fault}
use Rattle.mt_reads.specs.declared.quiet.QuietRead.{QuietRead}
use Rattle.mt_reads.specs.declared.quiet.QuietAnswer.{QuietAnswer}
use Rattle.mt_reads.proofs.QuietOnce.{quiet_once}
use Rattle.mt_shared.specs.declared.answers.At.{At}
use Rattle.mt_shared.specs.Passes.{PassView}
use Rattle.mt_shared.specs.Inner.{InnerView, IsRefusedBy}
use Rattle.mt_shared.specs.Quiet.{Answered, IsQuietRead, IsToldQuiet, QuietReadsNow}
use Rattle.mt_shared.proofs.ReadLemmas.{unbroken}
use Rattle.mt_wire.specs.declared.read.ReadQuery.{ReadQuery}
use Rattle.mt_wire.specs.declared.response.Response.{Response}
use Rattle.mt_wire.specs.declared.response.Response.TheVariants.{Refused}
use Rattle.mt_serve.specs.Ample.{IsAmple, IsAnswer, IsFoundAnswer}
use Rattle.mt_serve.specs.Asking.{ReadsOnce, counts_too_far, found_response, quiet_of, quiet_response}
use Rattle.mt_serve.specs.Plain.{IsAlone, IsFound, IsReadPlainly, read_response, store_of}
use Rattle.mt_serve.specs.Store.{Store, now}
use Rattle.mt_wire.specs.declared.query.Query.TheVariants.{Read}
use Rattle.mt_serve.proofs.ReadLemmas.{no_entries}

-- a read that is refused is refused for the limit that it breaks, or out of memory
due : (fault : Option Refusal) (refusal : Refusal) → IsRefusedBy {T = ℕ × QuietAnswer} fault (Err refusal) → MatchOption fault (refusal ≡ NoMemory) (λ limit. refusal ≡ limit)
due None refusal why = why
due (Some limit) refusal why = let is : ◌≡◌ {A = Result (ℕ × QuietAnswer) Refusal} (Err refusal) (Err limit) = why in cc is

module _ (s : InnerView) (p : PassView) (h : History) (read : QuietRead) (a : IsAlone s p h) where
  quiet_now : IsQuiet s.machine
  quiet_now = ap changing (no_entries s.machine h a.stands a.ended)

  -- a pass that has seen as much as there is now
  alone_at : (at : ℕ) → at ≡ length (moment h).commits → IsAlone s (record p { seen = at }) h
  alone_at at is = record {
    stands = a.stands;
    ended = a.ended;
    few_views = a.few_views;
    own = a.own;
    seen = omega (arith, is);
    counted = a.counted;
  }

  -- what came of such a read
  abbrev Came : Result (At QuietAnswer) Refusal → PassView → Type 0
  Came ended q = IsAlone s q h × ((found : Result QuietAnswer Refusal) × IsFound (store_of s h) read found
      × (quiet_response (Some ended) ≡ read_response (length (moment h).commits) found))

  told : (found : Result (ℕ × QuietAnswer) Refusal) (ended : Result (At QuietAnswer) Refusal) (q : PassView) → QuietReadsNow s read (Some found) → IsToldQuiet p found ended q → Came ended q
  told (Ok (at, answer)) ended q shown (inl (less, is, same)) =
      let now = shown.answer.0 h a.stands in
      let seen = a.seen in absurd (omega (arith, less, now, seen))
  told (Ok (at, answer)) ended q shown (inr (most, is, same)) =
      let now = shown.answer.0 h a.stands in (
        subst (λ (v : PassView). IsAlone s v h) (sym same) (alone_at at now),
        (
          Ok answer,
          (shown.answer.1 h a.stands, unbroken (quiet_fault s.machine.columns read) (at, answer) shown.fault),
          ap (λ (r : Result (At QuietAnswer) Refusal). quiet_response (Some r)) is ∙ ap (λ (n : ℕ). found_response n n answer) now,
        ),
      )
  told (Err refusal) ended q shown (is, same) = (
    subst (λ (v : PassView). IsAlone s v h) (sym same) a,
    (
      Err refusal,
      due (quiet_fault s.machine.columns read) refusal shown.fault,
      ap (λ (r : Result (At QuietAnswer) Refusal). quiet_response (Some r)) is,
    ),
  )

  reads_plainly : (ended : Answered) (q : PassView) → IsQuietRead QuietReadsNow s p read ended q
      → IsAlone s q h × ((found : Result QuietAnswer Refusal) × IsFound (store_of s h) read found × (quiet_response ended ≡ read_response (length (moment h).commits) found))
  reads_plainly None q (none, same) = absurd (let some = none.may.1 quiet_now in cc some)
  reads_plainly (Some ended) q (found, shown, is_told) = told found ended q shown is_told

pub query_plainly : (s : InnerView) (p q : PassView) (h : History) (query : ReadQuery) (response : Response) → IsAlone s p h
    → MatchBool (counts_too_far query) ((response ≡ Refused BadLimit) × (q ≡ p)) (ReadsOnce QuietReadsNow s p query response q)
    → IsAlone s q h × IsReadPlainly (store_of s h) query response
query_plainly s p q h query response a by = go (counts_too_far query) by
  where
    go : (far : Bool) → MatchBool far ((response ≡ Refused BadLimit) × (q ≡ p)) (ReadsOnce QuietReadsNow s p query response q)
        → IsAlone s q h × MatchBool far (response ≡ Refused BadLimit)
        ((found : Result QuietAnswer Refusal) × IsFound (store_of s h) (quiet_of query) found × (response ≡ read_response (length (moment h).commits) found))
    go true (is, same) = (subst (λ (v : PassView). IsAlone s v h) (sym same) a, is)
    go false (ended, read, is) =
        let (alone, (found, right, told)) = reads_plainly s p h (quiet_of query) a ended q read in
        (alone, (found, right, is ∙ told))

-- ---- an ample answer is the answer
module _ (s : Store) (query : ReadQuery) (response : Response) (ample : IsAmple response) where
  abbrev Right : Option Refusal → Type 0
  Right fault = MatchOption fault (IsFoundAnswer s.machine.columns (now s) (quiet_of query) response) (λ due. response ≡ Refused due)

  refused_right : (fault : Option Refusal) (refusal : Refusal) → MatchOption fault (refusal ≡ NoMemory) (λ due. refusal ≡ due) → response ≡ Refused refusal → Right fault
  refused_right None refusal short is = absurd (subst IsAmple (is ∙ ap (λ (r : Refusal). Refused r) short) ample)
  refused_right (Some limit) refusal same is = is ∙ ap (λ (r : Refusal). Refused r) same

  found_right : (found : Result QuietAnswer Refusal) → IsFound s (quiet_of query) found → response ≡ read_response (length (now s).commits) found → Right (quiet_fault s.machine.columns (quiet_of query))
  found_right (Ok answer) (plain, none) is = subst Right (sym none) (answer, plain, is)
  found_right (Err refusal) why is = refused_right (quiet_fault s.machine.columns (quiet_of query)) refusal why is

  pub moment_read_is : IsReadPlainly s query response → IsAnswer s.machine.columns (now s) (Read query) response
  moment_read_is plain = go (counts_too_far query) plain
    where
      go : (far : Bool) → MatchBool far (response ≡ Refused BadLimit)
          ((found : Result QuietAnswer Refusal) × IsFound s (quiet_of query) found × (response ≡ read_response (length (now s).commits) found))
          → MatchBool far (response ≡ Refused BadLimit) (Right (quiet_fault s.machine.columns (quiet_of query)))
      go true is = is
      go false (found, right, is) = found_right found right is

-- ---- there is one answer
abbrev IsRight : ℕ → Moment → QuietRead → Response → Option Refusal → Type 0
IsRight C m read r fault = MatchOption fault (IsFoundAnswer C m read r) (λ due. r ≡ Refused due)

right_once : (C : ℕ) (m : Moment) (read : QuietRead) (response other : Response) (fault : Option Refusal) → IsRight C m read response fault → IsRight C m read other fault → response ≡ other
right_once C m read response other None (answer, plain, is) (again, also, so) =
    is ∙ ap (λ (a : QuietAnswer). found_response (length m.commits) (length m.commits) a) (quiet_once (rows C m) read answer again plain also) ∙ sym so
right_once C m read response other (Some due) is so = is ∙ sym so

pub read_once : (C : ℕ) (m : Moment) (query : ReadQuery) (response other : Response) → IsAnswer C m (Read query) response → IsAnswer C m (Read query) other → response ≡ other
read_once C m query response other one two = go (counts_too_far query) one two
  where
    go : (far : Bool) → MatchBool far (response ≡ Refused BadLimit) (IsRight C m (quiet_of query) response (quiet_fault C (quiet_of query)))
        → MatchBool far (other ≡ Refused BadLimit) (IsRight C m (quiet_of query) other (quiet_fault C (quiet_of query))) → response ≡ other
    go true is so = is ∙ sym so
    go false a b = right_once C m (quiet_of query) response other (quiet_fault C (quiet_of query)) a b

-- Reads at once: which limits they keep; and calls that must be driven.
use Rattle.std.proofs.Common.{◌≡◌, Option, Some, None, Result, Ok, Err, inl, refl, subst}
use Rattle.mt_types.specs.Limits.{request_fault}
use Rattle.mt_types.specs.Limited.{AnswerIsLimited}
use Rattle.mt_types.specs.declared.refusal.Refusal.{Refusal}
use Rattle.mt_types.specs.declared.event.Answer.{Answer}
use Rattle.mt_types.specs.declared.event.Reply.{Reply}
use Rattle.mt_types.specs.declared.event.Request.{Request}
use Rattle.mt_promise.proofs.LimitedLemmas.{plain_answers_are_limited}
use Rattle.mt_shared.specs.Inner.{InnerView, IsInner, IsRefusedBy}
use Rattle.mt_shared.specs.Passes.{PassView}
use Rattle.mt_shared.specs.Drives.{EventLaw, IsDrive}
use Rattle.mt_shared.specs.Reads.{ReadLaw, IsPlainNow, IsCall, MustDrive}

-- what has a result breaks no limit
pub unbroken : {T : Type 0} (fault : Option Refusal) (found : T) → IsRefusedBy fault (Ok found) → fault ≡ None
unbroken None found why = refl
unbroken {T} (Some due) found why = absurd (let clash : ◌≡◌ {A = Result T Refusal} (Ok found) (Err due) = why in cc)

-- an answer now keeps the limits of an index
pub read_is_limited : (s : InnerView) (request : Request) (answer : Answer) → IsInner s → IsPlainNow s.machine request answer → request_fault s.machine.columns request ≡ None → AnswerIsLimited answer
read_is_limited s request answer kept plain none =
    let (h, st, many, trace) = kept.stands in
    plain_answers_are_limited s.machine.columns h request answer st.few st.legal none (plain h st)

-- a call that must be driven, and is driven by a pass that is as it was
pub driven_call : {S : Type 0} (does : EventLaw S) (shows : ReadLaw S) (s t : S) (p r q : PassView) (request : Request) (result : Result Reply Refusal)
    → MustDrive shows s p.number request × (r ≡ p) → IsDrive does s r request result t q → IsCall does shows s p request result t q
driven_call does shows s t p r q request result must drive = inl (must.0, subst (λ (v : PassView). IsDrive does s v request result t q) must.1 drive)

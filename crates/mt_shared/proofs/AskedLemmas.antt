-- Calls by borrowed bytes: what one comes to that is made, and what one that is refused before.
use Rattle.std.proofs.Common.{ℕ, ◌≡◌, inl, inr, refl, sym, ap, subst}
use Rattle.std.specs.Prelude.{Option, Some, None, Result, Ok, Err, MatchOption}
use Rattle.mt_types.specs.Limits.{request_fault}
use Rattle.mt_types.specs.declared.refusal.Refusal.{Refusal}
use Rattle.mt_types.specs.declared.refusal.Refusal.TheVariants.{NoMemory}
use Rattle.mt_types.specs.declared.event.Reply.{Reply}
use Rattle.mt_types.specs.declared.event.Request.{Request}
use Rattle.mt_shared.specs.Clients.{CameTo}
use Rattle.mt_shared.specs.Passes.{PassView}

unmade_for : {S : Type 0} (fault : Option Refusal) (made : Type 0) (refusal : Refusal) (s : S) (p : PassView)
    → MatchOption fault (refusal ≡ NoMemory) (λ (due : Refusal). ◌≡◌ {A = Result Request Refusal} (Err refusal) (Err due))
    → CameTo {T = Reply} {S = S} fault made (Err refusal) s p s p
unmade_for None made refusal s p short = inr (ap (λ (r : Refusal). Err r) short, refl, refl)
unmade_for (Some due) made refusal s p same = (ap (λ (r : Refusal). Err r) (let e : refusal ≡ due = cc in e), refl, refl)

-- it breaks a limit, or memory for a copy was refused
pub unmade : {S : Type 0} (n C : ℕ) (request : Request) (made : Type 0) (refusal : Refusal) (s : S) (p : PassView) → n ≡ C
    → MatchOption (request_fault n request) (refusal ≡ NoMemory) (λ (due : Refusal). ◌≡◌ {A = Result Request Refusal} (Err refusal) (Err due))
    → CameTo {T = Reply} {S = S} (request_fault C request) made (Err refusal) s p s p
unmade n C request made refusal s p columns why =
    unmade_for (request_fault C request) made refusal s p
    (subst (λ (count : ℕ). MatchOption (request_fault count request) (refusal ≡ NoMemory) (λ (due : Refusal). ◌≡◌ {A = Result Request Refusal} (Err refusal) (Err due))) columns why)

made_for : {S : Type 0} (fault : Option Refusal) (owned : Request) (made : Type 0) (ended : Result Reply Refusal) (s t : S) (p q : PassView)
    → MatchOption fault (Unit {0}) (λ (due : Refusal). ◌≡◌ {A = Result Request Refusal} (Ok owned) (Err due)) → made
    → CameTo {T = Reply} {S = S} fault made ended s p t q
made_for None owned made ended s t p q within is = inl is
made_for (Some due) owned made ended s t p q clash is = absurd (let e : ◌≡◌ {A = Result Request Refusal} (Ok owned) (Err due) = clash in cc)

-- it breaks none, and was made of the copy
pub made : {S : Type 0} (n C : ℕ) (request owned : Request) (Made : Request → Type 0) (ended : Result Reply Refusal) (s t : S) (p q : PassView) → n ≡ C → owned ≡ request
    → MatchOption (request_fault n request) (Unit {0}) (λ (due : Refusal). ◌≡◌ {A = Result Request Refusal} (Ok owned) (Err due)) → Made owned
    → CameTo {T = Reply} {S = S} (request_fault C request) (Made request) ended s p t q
made n C request owned Made ended s t p q columns copied within is =
    made_for (request_fault C request) owned (Made request) ended s t p q
    (subst (λ (count : ℕ). MatchOption (request_fault count request) (Unit {0}) (λ (due : Refusal). ◌≡◌ {A = Result Request Refusal} (Ok owned) (Err due))) columns within)
    (subst Made copied is)

-- ---- by the limit that is found first, if there is one

pub limited : (T : Type 0) {S : Type 0} (fault : Option Refusal) (is_made : Type 0) (refusal : Refusal) (s : S) (p : PassView) → fault ≡ Some refusal → CameTo {T = T} {S = S} fault is_made (Err refusal) s p s p
limited T {S} fault is_made refusal s p is = subst (λ (f : Option Refusal). CameTo {T = T} {S = S} f is_made (Err refusal) s p s p) (sym is) (refl, refl, refl)

pub short : (T : Type 0) {S : Type 0} (fault : Option Refusal) (is_made : Type 0) (s : S) (p : PassView) → fault ≡ None → CameTo {T = T} {S = S} fault is_made (Err NoMemory) s p s p
short T {S} fault is_made s p is = subst (λ (f : Option Refusal). CameTo {T = T} {S = S} f is_made (Err NoMemory) s p s p) (sym is) (inr (refl, refl, refl))

pub within : {T S : Type 0} (fault : Option Refusal) (is_made : Type 0) (result : Result T Refusal) (s t : S) (p q : PassView) → fault ≡ None → is_made → CameTo {T = T} {S = S} fault is_made result s p t q
within {T} {S} fault is_made result s t p q is done = subst (λ (f : Option Refusal). CameTo {T = T} {S = S} f is_made result s p t q) (sym is) (inl done)

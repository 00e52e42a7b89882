-- A fault of the bytes that are kept is at the front of all that is left.
use Rattle.std.proofs.Common.{◌≡◌, ◌≢◌, inl, inr, ℕ, List, ◌++◌, Option, Some, None, IfSome, subst, refl, sym, ap, ◌∙◌, append_assoc}
use Rattle.std.specs.Option.{option_map}
use Rattle.std.specs.Io.KnownBytes.{Keeps}
use Rattle.mt_wire.specs.declared.fault.WireFault.{WireFault}
use Rattle.mt_wire.specs.declared.fault.WireFault.TheVariants.{BadLength, BadVersion, BadBody, NoMemory}
use Rattle.mt_wire.specs.declared.query.Query.{Query}
use Rattle.mt_wire.specs.declared.frame.Frame.{Frame}
use Rattle.mt_wire.specs.Frames.{FaultStands, request_frame}
use Rattle.mt_talk.specs.Turns.{Kept, GivesUp}
use Rattle.mt_wire.specs.Laws.{FaultStays}
use Rattle.mt_serve.specs.Faults.{fault_of}
use Rattle.mt_serve.specs.Sources.{FaultIsAt, StopsAt}

stands_on : (fault : WireFault) (unread : Option (List ℕ)) (bytes more : List ℕ) → FaultStays → (fault ≢ NoMemory → FaultStands fault bytes) → FaultIsAt (fault_of fault) unread (bytes ++ more)
stands_on BadLength unread bytes more stays stands = stays BadLength bytes more (stands (λ e. cc))
stands_on BadVersion unread bytes more stays stands = stays BadVersion bytes more (stands (λ e. cc))
stands_on BadBody unread bytes more stays stands = stays BadBody bytes more (stands (λ e. cc))
stands_on NoMemory unread bytes more stays stands = tt

pub fault_at : (fault : WireFault) (bytes : List ℕ) (remaining unread input : Option (List ℕ)) → FaultStays → (fault ≢ NoMemory → FaultStands fault bytes)
    → Keeps input (option_map (λ more. bytes ++ more) remaining) → IfSome input (FaultIsAt (fault_of fault) unread)
fault_at fault bytes remaining unread None stays stands keeps = tt
fault_at fault bytes None unread (Some x) stays stands keeps = absurd keeps
fault_at fault bytes (Some more) unread (Some x) stays stands keeps = subst (FaultIsAt (fault_of fault) unread) keeps (stands_on fault unread bytes more stays stands)

front_stays : (frame : Frame Query) (bytes rest : List ℕ) (remaining input : Option (List ℕ)) → bytes ≡ request_frame frame ++ rest
    → Keeps input (option_map (λ more. bytes ++ more) remaining) → IfSome input (λ (x : List ℕ). (more : List ℕ) × (x ≡ request_frame frame ++ more))
front_stays frame bytes rest remaining None taken keeps = tt
front_stays frame bytes rest None (Some x) taken keeps = absurd keeps
front_stays frame bytes rest (Some more) (Some x) taken keeps =
    (rest ++ more, sym keeps ∙ ap (λ (l : List ℕ). l ++ more) taken ∙ append_assoc (request_frame frame) rest more)

-- a turn that ended in a fault answered nothing, or gave up in the frame at the front
pub stops_at : {S P : Type 0} (gives_up : S → P → Frame Query → S → P → Type 0) (fault : WireFault) (v w : Kept) (remaining unread input : Option (List ℕ)) (a s t : S) (b p q : P) → FaultStays
    → s ≡ a → p ≡ b → (fault ≢ NoMemory → FaultStands fault v.bytes) → (fault ≢ NoMemory → (t ≡ s) × (q ≡ p)) → (fault ≡ NoMemory → GivesUp gives_up s p v w t q)
    → Keeps input (option_map (λ more. v.bytes ++ more) remaining) → StopsAt gives_up a b input (fault_of fault) unread t q
stops_at gives_up BadLength v w remaining unread input a s t b p q stays first second stands same up keeps =
    inl (fault_at BadLength v.bytes remaining unread input stays stands keeps, (same (λ e. cc)).0 ∙ first, (same (λ e. cc)).1 ∙ second)
stops_at gives_up BadVersion v w remaining unread input a s t b p q stays first second stands same up keeps =
    inl (fault_at BadVersion v.bytes remaining unread input stays stands keeps, (same (λ e. cc)).0 ∙ first, (same (λ e. cc)).1 ∙ second)
stops_at gives_up BadBody v w remaining unread input a s t b p q stays first second stands same up keeps =
    inl (fault_at BadBody v.bytes remaining unread input stays stands keeps, (same (λ e. cc)).0 ∙ first, (same (λ e. cc)).1 ∙ second)
stops_at {S} {P} gives_up NoMemory v w remaining unread input a s t b p q stays first second stands same up keeps =
    elim (up refl).how [
      | inl h ↦ inl (fault_at NoMemory v.bytes remaining unread input stays stands keeps, h.1 ∙ first, h.2 ∙ second)
      | inr h ↦ inr (
        refl,
        (
          h.0,
          h.1,
          front_stays h.0 v.bytes w.bytes remaining input h.2 keeps,
          subst (λ (x : S). gives_up x b h.0 t q) first (subst (λ (y : P). gives_up s y h.0 t q) second h.3),
        ),
      )
    ]

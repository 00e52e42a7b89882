-- What an event that a pass makes alone leads to.
use Rattle.std.proofs.Common.{ℕ, ◌≡◌, ◌<◌, ◌≤◌, Bool, true, false, inl, inr, List, [], ◌∷◌, ◌++◌, length, refl, sym, ap, subst, ◌∙◌, arith}
use Rattle.std.specs.Prelude.{◌-◌, ◌==◌, ◌&&◌, ◌||◌, nat_le, not, MatchBool, max, All}
use Rattle.std.proofs.lemmas.Bool.Decides.{eqb_tells}
use Rattle.std.proofs.lemmas.List.{length-set, map-append}
use Rattle.std.proofs.lemmas.List.Elements.{All-head, All-tail, All-nil, All-cons}
use Rattle.std.proofs.Math.Nat.{max-le}
use Rattle.mt_types.specs.Numbers.{greatest_number}
use Rattle.mt_types.specs.declared.numbers.PassNo.{PassNo}
use Rattle.mt_types.specs.declared.numbers.CallNo.{CallNo}
use Rattle.mt_types.specs.declared.refusal.Refusal.TheVariants.{Spent, WrongPass}
use Rattle.mt_types.specs.declared.event.Event.{Event}
use Rattle.mt_types.specs.declared.event.Event.TheVariants.{Begin, Step}
use Rattle.mt_types.specs.declared.event.Outcome.{Outcome}
use Rattle.mt_types.specs.declared.event.Outcome.TheVariants.{Call as Called}
use Rattle.mt_types.specs.declared.event.Request.{Request}
use Rattle.mt_promise.specs.History.{History, happening, Moment, moment, Sometime, Throughout}
use Rattle.mt_promise.specs.Legal.{Legal, MayHappen}
use Rattle.mt_promise.proofs.HistoryLemmas.{GoesOn-append}
use Rattle.mt_index.specs.Stands.{Stands}
use Rattle.mt_shared.specs.declared.trace.Entry.{Entry}
use Rattle.mt_shared.specs.Passes.{PassView, seen_in}
use Rattle.mt_shared.specs.Drives.{Runs, Continues}
use Rattle.mt_shared.specs.Inner.{InnerView, Does, IsMade, IsUnmade, has_counters, is_foreign, is_wrong, is_spent}
use Rattle.mt_shared.proofs.HappeningLemmas.{event_grows, event_shows}
use Rattle.mt_index.specs.Events.{Makes}
use Rattle.mt_index.proofs.EventLemmas.{all-more}
use Rattle.mt_serve.specs.Store.{Store, Leads, ComesTo, call_events}
use Rattle.mt_serve.specs.Plain.{IsAlone, store_of}

-- ---- events are counted
pub does_rises : (s t : InnerView) (p q : PassView) (e : Event) (o : Outcome) → Does s p e o t q → s.events ≤ t.events
does_rises s t p q e o d = first (is_wrong s p.number e) (is_spent s p) d
  where
    same : t ≡ s → s.events ≤ t.events
    same is = let equal = ap (λ (k : InnerView). k.events) is in omega (arith, equal)

    first : (wrong spent : Bool) → MatchBool wrong (IsUnmade WrongPass s p o t q) (MatchBool spent (IsUnmade Spent s p o t q) (IsMade s p e o t q)) → s.events ≤ t.events
    first true spent (refused, is, other) = same is
    first false true (refused, is, other) = same is
    first false false made = let one = made.events in omega (arith, one)

pub runs_rise : (s t : InnerView) (p q : PassView) (xs : List Entry) → Runs Does s p xs t q → s.events ≤ t.events
runs_rise s t p q [] (is, other) = let equal = ap (λ (k : InnerView). k.events) is in omega (arith, equal)
runs_rise s t p q (x ∷ xs) (m, r, one, more) =
    let a = does_rises s m p r x.event x.outcome one in
    let b = runs_rise m t r q xs more in omega (arith, a, b)

-- ---- an event that the pass makes
-- what stays so, whatever the pass does
pub record Keeping (s : InnerView) (p : PassView) (h : History) : Type 0 where
  pub stands : Stands s.machine h
  pub own : has_counters p.number s.counters ≡ true
  pub seen : p.seen ≤ length (moment h).commits
  pub counted : p.events ≤ s.events

pub keeping : (s : InnerView) (p : PassView) (h : History) → IsAlone s p h → Keeping s p h
keeping s p h a = record { stands = a.stands; own = a.own; seen = a.seen; counted = a.counted }

not_equal : (a n : ℕ) → a < n → (a == n) ≡ false
not_equal a n less = elim (eqb_tells a n) [ inl e ↦ absurd (let is = e.1 in omega (arith, is, less)) | inr e ↦ e.0 ]

is_made : (s t : InnerView) (p q : PassView) (e : Event) (o : Outcome) → is_wrong s p.number e ≡ false → is_spent s p ≡ false → Does s p e o t q → IsMade s p e o t q
is_made s t p q e o own unspent d =
    subst (λ (b : Bool). MatchBool b (IsUnmade Spent s p o t q) (IsMade s p e o t q)) unspent
    (subst (λ (b : Bool). MatchBool b (IsUnmade WrongPass s p o t q) (MatchBool (is_spent s p) (IsUnmade Spent s p o t q) (IsMade s p e o t q))) own d)

not_wrong : (s : InnerView) (pass : PassNo) (e : Event) → has_counters pass s.counters ≡ true → is_foreign s.machine pass e ≡ false → is_wrong s pass e ≡ false
not_wrong s pass e counted foreign = ap (λ (b : Bool). not b || is_foreign s.machine pass e) counted ∙ foreign

not_spent : (s : InnerView) (p : PassView) → s.events < greatest_number → p.events ≤ s.events → is_spent s p ≡ false
not_spent s p few own =
    ap (λ (b : Bool). b || (p.events == greatest_number)) (not_equal s.events greatest_number few)
    ∙ not_equal p.events greatest_number (omega (arith, few, own))

same_counters : (pass final : PassNo) (s t : InnerView) → final ≡ pass → length t.counters ≡ length s.counters → has_counters pass s.counters ≡ true → has_counters final t.counters ≡ true
same_counters pass final s t same long counted =
    ap (λ (n : PassNo). has_counters n t.counters) same ∙ ap (λ (n : ℕ). not (pass.0 == 0) && nat_le pass.0 n) long ∙ counted

-- the event happened, as one that may; and what stays so stays
pub record Goes (s : InnerView) (p : PassView) (h : History) (e : Event) (o : Outcome) (t : InnerView) (q : PassView) : Type 0 where
  pub note : ℕ
  pub keeps : Keeping t q (happening e o note ∷ h)
  pub may : MayHappen s.machine.columns h e o note
  pub number : q.number ≡ p.number
  pub columns : t.machine.columns ≡ s.machine.columns
  pub legal : Legal s.machine.columns (happening e o note ∷ h)
  pub happens : Makes s.machine e o t.machine
  pub feed : t.machine.log.capacity ≡ s.machine.log.capacity

pub goes : (s t : InnerView) (p q : PassView) (h : History) (e : Event) (o : Outcome) → Keeping s p h → t.events < greatest_number → is_foreign s.machine p.number e ≡ false → Does s p e o t q → Goes s p h e o t q
goes s t p q h e o k few foreign d =
    let rises = does_rises s t p q e o d in
    let made = is_made s t p q e o (not_wrong s p.number e k.own foreign) (not_spent s p (omega (arith, rises, few)) k.counted) d in
    let (note, stood) = made.makes.stands h k.stands in
    let legal = subst (λ (C : ℕ). Legal C (happening e o note ∷ h)) made.makes.columns stood.legal in
    let grows = event_grows s.machine.columns h e o note legal.1 in
    let shows = event_shows s.machine.columns h e o note legal.1 in
    let before = k.seen in
    let most : max p.seen (seen_in o) ≤ length (moment (happening e o note ∷ h)).commits = max-le (omega (arith, grows, before)) (omega (arith, grows, shows)) in
    record {
      note = note;
      keeps = record {
        stands = stood;
        own = same_counters p.number q.number s t made.counts.number (ap length made.counters ∙ length-set s.counters (p.number.0 - 1) _) k.own;
        seen = subst (λ (n : ℕ). n ≤ length (moment (happening e o note ∷ h)).commits) (sym made.counts.seen) most;
        counted = (let a = made.counts.events in let b = made.events in let c = k.counted in omega (arith, a, b, c));
      };
      may = legal.1;
      number = made.counts.number;
      columns = made.makes.columns;
      legal = legal;
      happens = made.makes;
      feed = made.makes.bounds.0;
    }

-- ---- from store to store
pub leads_one : (s t : InnerView) (h : History) (e : Event) (o : Outcome) (note : ℕ) → Makes s.machine e o t.machine → Leads (store_of s h) (e ∷ []) (o ∷ []) (store_of t (happening e o note ∷ h))
leads_one s t h e o note happens = ((t.machine, happens, refl), (note, refl))

pub leads_more : (s : Store) (m t : InnerView) (h : History) (events : List Event) (outcomes : List Outcome) (e : Event) (o : Outcome) (note : ℕ) → Leads s events outcomes (store_of m h) → Makes m.machine e o t.machine
    → Leads s (events ++ e ∷ []) (outcomes ++ o ∷ []) (store_of t (happening e o note ∷ h))
leads_more s m t h events outcomes e o note (all, on) happens =
    (all-more s.machine m.machine t.machine events outcomes e o all happens, GoesOn-append s.past h events outcomes e o note on)

all_push : {X : Type 0} (P : X → Type 0) (xs : List X) (x : X) → All P xs → P x → All P (xs ++ x ∷ [])
all_push P [] x all p = All-cons P x [] p (All-nil P)
all_push P (y ∷ xs) x all p = All-cons P y (xs ++ x ∷ []) (All-head P y xs all) (all_push P xs x (All-tail P y xs all) p)

-- a step more of a call
pub comes_more : (s : Store) (pass : PassNo) (request : Request) (call : CallNo) (m t : InnerView) (h : History) (o : Outcome) (note : ℕ) → ComesTo s pass request call (store_of m h) → Continues o → Makes m.machine (Step call) o t.machine
    → ComesTo s pass request call (store_of t (happening (Step call) o note ∷ h))
comes_more s pass request call m t h o note comes on happens = record {
  steps = comes.steps ++ o ∷ [];
  continue = all_push Continues comes.steps o comes.continue on;
  leads = subst (λ (events : List Event). Leads s events (Called call ∷ comes.steps ++ o ∷ []) (store_of t (happening (Step call) o note ∷ h)))
      (ap (λ (events : List Event). Begin pass request ∷ events) (sym (map-append (λ (x : Outcome). Step call) comes.steps (o ∷ []))))
      (leads_more s m t h (call_events pass request call comes.steps) (Called call ∷ comes.steps) (Step call) o note comes.leads happens);
}

-- ---- moments since a begin
throughout_none : (began : ℕ) (P : Moment → Type 0) (h : History) → length h < began → Throughout began P h
throughout_none began P [] before = λ since. absurd (omega (arith, before, since))
throughout_none began P (x ∷ h) before = ((λ since. absurd (omega (arith, before, since))), throughout_none began P h (omega (arith, before)))

pub throughout_now : (P : Moment → Type 0) (h : History) → P (moment h) → Throughout (length h) P h
throughout_now P [] p = λ since. p
throughout_now P (x ∷ h) p = ((λ since. p), throughout_none (length (x ∷ h)) P h (omega arith))

pub sometime_with : (began : ℕ) (P Q : Moment → Type 0) (h : History) → Throughout began P h → Sometime began Q h → (m : Moment) × P m × Q m
sometime_with began P Q [] t s = (moment [], t s.0, s.1)
sometime_with began P Q (x ∷ h) t s = elim s [
  | inl here ↦ (moment (x ∷ h), t.0 here.0, here.1)
  | inr before ↦ sometime_with began P Q h t.1 before
]

-- What a pass learns from an event of Inner.
use Rattle.std.proofs.Common.{sym, ap, ◌≡◌, ◌∙◌, ℕ, refl, length, Option, Some, None, inl, inr, Bool, true, false, not, eqb}
use Rattle.std.specs.Prelude.{MatchBool}
use Rattle.std.specs.Option.{option_map}
use Rattle.std.proofs.lemmas.Bool.Decides.{eqb_tells}
use Rattle.mt_types.specs.declared.numbers.PassNo.{PassNo}
use Rattle.mt_types.specs.declared.event.Event.{Event}
use Rattle.mt_types.specs.declared.event.Event.TheVariants.{Begin, Step, Apply, ViewRead, ViewDrop, Advance, Collect}
use Rattle.mt_types.specs.declared.event.Outcome.{Outcome}
use Rattle.mt_types.specs.declared.refusal.Refusal.TheVariants.{WrongPass, Spent}
use Rattle.mt_promise.specs.History.{History, OpenCall, call_of, view_of, meant_view, moment}
use Rattle.mt_types.specs.Limits.{page_fault}
use Rattle.mt_promise.specs.Legal.{begin_fault, view_places}
use Rattle.mt_index.specs.Calls.{pass_at}
use Rattle.mt_index.specs.Stands.{MachineView, Stands}
use Rattle.mt_index.proofs.PairedLemmas.{paired-pass}
use Rattle.mt_shared.specs.Passes.{PassView, IsTold, Suits}
use Rattle.mt_index.specs.Events.{Makes}
use Rattle.mt_shared.specs.Inner.{InnerView, IsInner, Does, IsMade, IsUnmade, is_wrong, is_spent, is_foreign, is_other}
use Rattle.mt_shared.proofs.HappeningLemmas.{begin_suits, step_suits, apply_suits, page_suits, drop_suits}
use Rattle.mt_shared.proofs.InnerLemmas.{in_counters}

own_number : (p n : ℕ) → not (eqb p n) ≡ false → p ≡ n
own_number p n h = elim (eqb_tells p n) [ inl e ↦ e.1 | inr e ↦ absurd (clash (sym (ap not e.0) ∙ h)) ]
  where
    clash : true ≡ false → ⊥
    clash e = cc

own_call : (owner : Option PassNo) (pass : PassNo) (c : OpenCall) → is_other owner pass ≡ false → option_map (λ (p : PassNo). p.0) owner ≡ Some c.pass → c.pass ≡ pass.0
own_call None pass c h e = cc
own_call (Some p) pass c h e = let same : p.0 ≡ c.pass = cc in sym same ∙ own_number p.0 pass.0 h

pub suits : (m n : MachineView) (h : History) (pass : PassNo) (e : Event) (o : Outcome) → Stands m h → Makes m e o n → is_foreign m pass e ≡ false → Suits pass e o
suits m n h pass (Begin named request) o st makes mine = let (opens, then) = makes.stands h st in begin_suits pass named request (moment h) (begin_fault n.columns (moment h).begun (length (moment h).calls) (view_places (moment h)) request) o then.legal.1
suits m n h pass (Step call) o st makes mine =
    let (opens, then) = makes.stands h st in
    let owner = paired-pass _ 0 m.calls.begun call.0 m.calls.calls (moment h).calls (λ kept c related. related.pass) st.calls in
    step_suits n.columns h pass call (call_of call.0 (moment h).calls) refl
    (λ c at. own_call (pass_at call.0 m.calls.calls) pass c mine (owner ∙ ap (option_map (λ (x : OpenCall). x.pass)) at))
    o opens then.legal.1
suits m n h pass (Apply view) o st makes mine = let (opens, then) = makes.stands h st in apply_suits pass view (moment h) view.0 (meant_view view.0 (moment h).views) o then.legal.1
suits m n h pass (ViewRead view floor start limit) o st makes mine = let (opens, then) = makes.stands h st in page_suits pass view n.columns (moment h) (page_fault start limit) view.0 floor start limit o then.legal.1
suits m n h pass (ViewDrop view) o st makes mine = let (opens, then) = makes.stands h st in drop_suits pass view (view_of view.0 (moment h).views) o then.legal.1
suits m n h pass Advance o st makes mine = tt
suits m n h pass Collect o st makes mine = tt

told_at : (s : InnerView) (p : PassView) (e : Event) (o : Outcome) (t : InnerView) (q : PassView) (b c : Bool) → b ≡ is_wrong s p.number e → IsInner s
    → MatchBool b (IsUnmade WrongPass s p o t q) (MatchBool c (IsUnmade Spent s p o t q) (IsMade s p e o t q)) → IsTold p e o q
told_at s p e o t q true c is k h = inl (inl h.0, h.2)
told_at s p e o t q false true is k h = inl (inr h.0, h.2)
told_at s p e o t q false false is k h = let (past, st, long, told) = k.stands in inr (h.counts, suits s.machine t.machine past p.number e o st h.makes (in_counters s p.number e is).1)

pub does_tell : (s : InnerView) (p : PassView) (e : Event) (o : Outcome) (t : InnerView) (q : PassView) → IsInner s → Does s p e o t q → IsTold p e o q
does_tell s p e o t q k h = told_at s p e o t q (is_wrong s p.number e) (is_spent s p) refl k h

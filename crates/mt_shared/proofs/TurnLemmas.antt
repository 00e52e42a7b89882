-- Turns that advance views continue with a turn, and end.
use Rattle.std.proofs.Common.{arith, sym, ap, subst, ◌≡◌, ◌<◌, ◌+◌, ◌∙◌, ◌∷◌, ◌++◌, [], List, ℕ, refl, length, append-nil, inl, inr}
use Rattle.std.specs.Prelude.{All, max}
use Rattle.std.proofs.lemmas.List.{length-append}
use Rattle.std.proofs.lemmas.List.Elements.{All-push, All-nil}
use Rattle.mt_types.specs.declared.numbers.PassNo.{PassNo}
use Rattle.mt_types.specs.declared.refusal.Refusal.{Refusal}
use Rattle.mt_types.specs.declared.event.Outcome.{Outcome}
use Rattle.mt_types.specs.declared.event.Outcome.TheVariants.{Applied, Current, Refused}
use Rattle.mt_shared.specs.declared.trace.Entry.{Entry}
use Rattle.mt_shared.specs.Traces.{Gains}
use Rattle.mt_shared.specs.Passes.{PassView, IsTold, seen_in}
use Rattle.mt_shared.specs.Drives.{EventLaw, Runs, EndsNone}
use Rattle.mt_shared.specs.Turns.{furthest, turn, IsTurn, HasTurned, KeepsUp, IsStopped}
use Rattle.mt_shared.proofs.DriveLemmas.{gains_none, gains_more, runs_more, counted}

-- this many turns were made, each of which advanced a view, and the pass has seen no more by them
pub record Turned {S : Type 0} (does : EventLaw S) (s : S) (p : PassView) (applied : ℕ) (t : S) (q : PassView) : Type 0 where
  pub turns : List Entry
  pub count : length turns ≡ applied
  pub are_turns : All (IsTurn p.number) turns
  pub runs : Runs does s p turns t q
  pub traced : Gains p.trace turns q.trace
  pub number : q.number ≡ p.number
  pub seen : q.seen ≡ p.seen
  pub events : q.events ≡ p.events + applied

shows_none : (p q : PassView) (o : Outcome) → q.seen ≡ max p.seen (seen_in o) → seen_in o ≡ 0 → q.seen ≡ p.seen
shows_none p q o is none = omega (arith, is, none)

module _ {S : Type 0} (does : EventLaw S) (s : S) (p : PassView) where
  pub none_turned : Turned does s p 0 s p
  none_turned = record {
    turns = [];
    count = refl;
    are_turns = All-nil (IsTurn p.number);
    runs = (refl, refl);
    traced = gains_none p.trace;
    number = refl;
    seen = refl;
    events = omega arith;
  }

  pub turned_on : (n : ℕ) (m : S) (r : PassView) (k : ℕ) (o : Outcome) (t : S) (q : PassView) → Turned does s p n m r → does m r furthest o t q → o ≡ Applied k → IsTold r furthest o q → Turned does s p (n + 1) t q
  turned_on n m r k o t q b d is told =
      let counts = (counted r furthest o q (subst (λ (w : Outcome). EndsNone w) (sym is) tt) told).0 in
      let x = turn p.number (Applied k) in
      let none = ap seen_in is in
      let more = counts.events in
      let before = b.events in
      let many = length-append b.turns (x ∷ []) in
      let was = b.count in
      record {
        turns = b.turns ++ x ∷ [];
        count = omega (arith, many, was);
        are_turns = All-push (IsTurn p.number) b.turns x b.are_turns (k, refl);
        runs = runs_more does s p b.turns m r x t q b.runs (subst (λ (w : Outcome). does m r furthest w t q) is d);
        traced = gains_more p.trace r.trace q.trace b.turns (x ∷ []) b.traced (subst (λ (v : PassNo). Gains r.trace (turn v (Applied k) ∷ []) q.trace) b.number (subst (λ (w : Outcome). Gains r.trace (turn r.number w ∷ []) q.trace) is counts.trace));
        number = counts.number ∙ b.number;
        seen = shows_none r q o counts.seen none ∙ b.seen;
        events = omega (arith, more, before);
      }

  -- the turns and one more
  abbrev and_last : (n : ℕ) (m : S) (r : PassView) (o : Outcome) (t : S) (q : PassView) → Turned does s p n m r → does m r furthest o t q → HasTurned does s p n (turn p.number o ∷ []) t q
  and_last n m r o t q b d = record {
    turns = b.turns;
    count = b.count;
    are_turns = b.are_turns;
    runs = runs_more does s p b.turns m r (turn p.number o) t q b.runs d;
  }

  pub turns_spent : (n most : ℕ) (t : S) (q : PassView) → Turned does s p n t q → n ≡ most → KeepsUp does s p most n t q
  turns_spent n most t q b all = record {
    last = [];
    is_last = inl (all, refl);
    turned = record {
      turns = b.turns;
      count = b.count;
      are_turns = b.are_turns;
      runs = subst (λ (xs : List Entry). Runs does s p xs t q) (sym (append-nil b.turns)) b.runs;
    };
    traced = subst (λ (xs : List Entry). Gains p.trace xs q.trace) (sym (append-nil b.turns)) b.traced;
  }

  pub all_current : (n most : ℕ) (m : S) (r : PassView) (o : Outcome) (t : S) (q : PassView) → Turned does s p n m r → does m r furthest o t q → o ≡ Current → n < most → IsTold r furthest o q → KeepsUp does s p most n t q
  all_current n most m r o t q b d is few told =
      let counts = (counted r furthest o q (subst (λ (w : Outcome). EndsNone w) (sym is) tt) told).0 in
      record {
        last = turn p.number Current ∷ [];
        is_last = inr (few, refl);
        turned = and_last n m r Current t q b (subst (λ (w : Outcome). does m r furthest w t q) is d);
        traced = gains_more p.trace r.trace q.trace b.turns (turn p.number Current ∷ []) b.traced (subst (λ (v : PassNo). Gains r.trace (turn v Current ∷ []) q.trace) b.number (subst (λ (w : Outcome). Gains r.trace (turn r.number w ∷ []) q.trace) is counts.trace));
      }

  pub turn_refused : (n most : ℕ) (m : S) (r : PassView) (o : Outcome) (refusal : Refusal) (t : S) (q : PassView) → Turned does s p n m r → does m r furthest o t q → o ≡ Refused refusal → n < most → IsStopped does s p most refusal t q
  turn_refused n most m r o refusal t q b d is few = record {
    applied = n;
    fewer = few;
    turned = and_last n m r (Refused refusal) t q b (subst (λ (w : Outcome). does m r furthest w t q) is d);
  }

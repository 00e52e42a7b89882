-- Views that are kept up after a call on what a lock keeps are kept up somewhere.
use Rattle.std.proofs.Common.{◌≡◌, ◌<◌, ◌++◌, ◌∷◌, [], List, ℕ, Bool, refl, sym, subst, inl, inr}
use Rattle.std.specs.Prelude.{Ok, MatchBool}
use Rattle.mt_types.specs.declared.refusal.Refusal.{Refusal}
use Rattle.mt_types.specs.declared.refusal.Refusal.TheVariants.{Spent, WrongPass}
use Rattle.mt_types.specs.declared.event.Outcome.{Outcome}
use Rattle.mt_types.specs.declared.event.Outcome.TheVariants.{Done, Refused, Applied, Current}
use Rattle.mt_types.specs.declared.event.Request.{Request}
use Rattle.mt_types.specs.declared.event.Reply.{Reply}
use Rattle.mt_shared.specs.declared.trace.Entry.{Entry}
use Rattle.mt_shared.specs.declared.changing.Changed.{Changed}
use Rattle.mt_shared.specs.declared.changing.Changed.TheVariants.{Started as StartedOnly, Ended}
use Rattle.mt_shared.specs.declared.driving.Started.TheVariants.{Ran}
use Rattle.mt_shared.specs.Changes.{IsChanged, IsDriveKept, KeepsViews}
use Rattle.mt_shared.specs.Drives.{EventLaw}
use Rattle.mt_shared.specs.Inner.{InnerView, IsInner, Does}
use Rattle.mt_shared.specs.Passes.{PassView, IsTold, Suits}
use Rattle.mt_shared.specs.Turns.{HasTurned, furthest, turn}
use Rattle.mt_shared.proofs.DriveLemmas.{begun_goes, run_finishes}
use Rattle.mt_shared.proofs.ToldLemmas.{does_tell}
use Rattle.mt_shared.proofs.TurnLemmas.{Turned, all_current, turn_refused}
use Rattle.mt_shared.proofs.RunLemmas.{runs_somewhere, somewhere, started_keeps, started_somewhere}

module _ {S : Type 0} (x : S) where
  turned_somewhere : (s : InnerView) (p : PassView) (applied : ℕ) (last : List Entry) (t : InnerView) (q : PassView) → IsInner s → (turned : HasTurned Does s p applied last t q) → HasTurned (somewhere S) x p applied last x q
  turned_somewhere s p applied last t q k turned = record {
    turns = turned.turns;
    count = turned.count;
    are_turns = turned.are_turns;
    runs = runs_somewhere x s p (turned.turns ++ last) t q k turned.runs;
  }

  keeps_somewhere : (s : InnerView) (p : PassView) (most : ℕ) (t : InnerView) (q : PassView) → IsInner s → KeepsViews Does s p most t q → KeepsViews (somewhere S) x p most x q
  unfolding turned_somewhere
  keeps_somewhere s p most t q k (inl (applied, up)) =
      inl (applied, record { last = up.last; is_last = up.is_last; turned = turned_somewhere s p applied up.last t q k up.turned; traced = up.traced })
  keeps_somewhere s p most t q k (inr (refusal, stopped)) = inr (
    refusal,
    record {
      applied = stopped.applied;
      fewer = stopped.fewer;
      turned = turned_somewhere s p stopped.applied (turn p.number (Refused refusal) ∷ []) t q k stopped.turned;
    },
  )

pub changed_somewhere : {S : Type 0} (x y : S) (s : InnerView) (p : PassView) (request : Request) (most : ℕ) (changed : Changed) (t : InnerView) (q : PassView) → IsInner s → IsChanged Does s p request most changed t q → IsChanged (somewhere S) x p request most changed y q
changed_somewhere x y s p request most (StartedOnly started) t q k is = (started_somewhere x s p request started t q y k is.0, is.1)
changed_somewhere x y s p request most (Ended reply) t q k (m, r, call, is, late, change, keeps) = (
  y,
  r,
  call,
  started_somewhere x s p request (Ran call (Done reply)) m r y k is,
  late,
  change,
  keeps_somewhere y m r most t q (started_keeps s p request call (Done reply) m r k is) keeps,
)

-- a turn that advances no view is the last
pub turn_stops : (s : InnerView) (p : PassView) (n most : ℕ) (m : InnerView) (r : PassView) (o : Outcome) (t : InnerView) (q : PassView) → IsInner m → Turned Does s p n m r → Does m r furthest o t q
    → ((number : ℕ) → o ≡ Applied number → ⊥) → n < most → KeepsViews Does s p most t q
turn_stops s p n most m r o t q k b d none few = elim told [
  | inl unmade ↦ elim unmade.0 [ inl e ↦ stopped WrongPass e | inr e ↦ stopped Spent e ]
  | inr made ↦ suited o refl made.1
]
  where
    told : IsTold r furthest o q
    told = does_tell m r furthest o t q k d

    stopped : (refusal : Refusal) → o ≡ Refused refusal → KeepsViews Does s p most t q
    stopped refusal is = inr (refusal, turn_refused Does s p n most m r o refusal t q b d is few)

    suited : (w : Outcome) → o ≡ w → Suits r.number furthest w → KeepsViews Does s p most t q
    suited (Applied number) is suits = absurd (none number is)
    suited Current is suits = inl (n, all_current Does s p n most m r o t q b d is few told)
    suited (Refused refusal) is suits = stopped refusal is
    suited _ is suits = absurd suits

-- a call that ended at once by a change, with its views
pub ended_kept : {S : Type 0} (does : EventLaw S) (s : S) (p : PassView) (request : Request) (most : ℕ) (reply : Reply) (t : S) (q : PassView) → IsChanged does s p request most (Ended reply) t q → IsDriveKept does s p request most (Ok reply) t q
ended_kept does s p request most reply t q (m, r, call, started, late, change, keeps) =
    let (n, v, begun, gone) = started in (
      m,
      r,
      run_finishes does s p request call n v (Done reply) m r p.seen (Ok reply) (begun_goes does s p request call n v begun) gone refl (refl, late),
      subst (λ (b : Bool). MatchBool b (KeepsViews does m r most t q) ((t ≡ m) × (q ≡ r))) (sym change) keeps,
    )

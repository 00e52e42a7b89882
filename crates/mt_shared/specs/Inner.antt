-- What lies under the lock, and what an event of a pass does to it.
use Rattle.std.specs.Prelude.{ℕ, ◌+◌, ◌-◌, ◌≡◌, ◌≤◌, ◌⊎◌, ◌==◌, ◌&&◌, ◌||◌, nat_le, not, Bool, true, false, MatchBool}
use Rattle.std.specs.Prelude.{List, [], ◌∷◌, length, Option, Some, None, All, slice_index_or, slice_set}
use Rattle.std.specs.Prelude.{Result, Err, IfErr, MatchOption}
use Rattle.std.specs.Option.{option_or}
use Rattle.mt_types.specs.Numbers.{greatest_number}
use Rattle.mt_types.specs.Limits.{open_fault, passes_fault}
use Rattle.mt_types.specs.declared.numbers.PassNo.{PassNo}
use Rattle.mt_types.specs.declared.refusal.Refusal.{Refusal}
use Rattle.mt_types.specs.declared.refusal.Refusal.TheVariants.{NoMemory, Spent, WrongPass}
use Rattle.mt_types.specs.declared.event.Event.{Event}
use Rattle.mt_types.specs.declared.event.Event.TheVariants.{Begin, Step}
use Rattle.mt_types.specs.declared.event.Outcome.{Outcome}
use Rattle.mt_types.specs.declared.event.Outcome.TheVariants.{Refused}
use Rattle.mt_promise.specs.History.{History}
use Rattle.mt_commit.specs.Log.{newest}
use Rattle.mt_index.specs.declared.options.Options.{Options}
use Rattle.mt_index.specs.Calls.{pass_at}
use Rattle.mt_index.specs.Events.{GoesOnAtOnce, Makes}
use Rattle.mt_index.specs.Stands.{MachineView, Stands, HasBounds}
use Rattle.mt_shared.specs.declared.counters.Counters.{Counters}
use Rattle.mt_shared.specs.declared.trace.Trace.{Trace}
use Rattle.mt_shared.specs.declared.trace.Trace.TheVariants.{Off}
use Rattle.mt_shared.specs.declared.driving.Started.{Started}
use Rattle.mt_shared.specs.declared.driving.Started.TheVariants.{Refused as RefusedStart, Begun, Ran}
use Rattle.mt_shared.specs.Traces.{entry, Gains, IsTraceOf}
use Rattle.mt_shared.specs.Passes.{PassView, Counts}
use Rattle.mt_shared.specs.Counters.{counted_events, counted_commits, counters_with}

-- the machine, how many events were made, the counters of each pass (that of pass n at n - 1), the trace of all events, and
-- whether tidies follow removes
pub record InnerView : Type 0 where
  pub machine : MachineView
  pub events : ℕ
  pub counters : List Counters
  pub trace : Trace
  pub tidies : Bool

-- WHAT THE LOCK KEEPS
pub record IsInner (s : InnerView) : Type 0 where
  -- there is a history at which the machine stands, of as many events as were made; a trace that is kept tells it
  pub stands : (h : History) × Stands s.machine h × (length h ≡ s.events) × IsTraceOf s.trace h
  -- the counters' events add up to those made, and their commits to the machine's
  pub events : counted_events s.counters ≡ s.events
  pub commits : counted_commits s.counters ≡ newest s.machine.log
  -- no counters have seen more than was committed
  pub seen : All (λ (own : Counters). own.seen ≤ newest s.machine.log) s.counters

abbrev pub has_counters : PassNo → List Counters → Bool
has_counters pass counters = not (pass.0 == 0) && nat_le pass.0 (length counters)

abbrev pub is_other : Option PassNo → PassNo → Bool
is_other None pass = false
is_other (Some owner) pass = not (owner.0 == pass.0)

-- the event is another pass's: a begin that names it, or a step of its open call
abbrev pub is_foreign : MachineView → PassNo → Event → Bool
is_foreign m pass (Begin named request) = not (named.0 == pass.0)
is_foreign m pass (Step call) = is_other (pass_at call.0 m.calls.calls) pass
is_foreign m pass _ = false

-- the event isn't one that this pass may make
abbrev pub is_wrong : InnerView → PassNo → Event → Bool
is_wrong s pass event = not (has_counters pass s.counters) || is_foreign s.machine pass event

-- no more events can be counted
abbrev pub is_spent : InnerView → PassView → Bool
is_spent s p = (s.events == greatest_number) || (p.events == greatest_number)

-- one event was made, by the machine, and is counted in the pass and in its counters, and traced
pub record IsMade (s : InnerView) (p : PassView) (event : Event) (outcome : Outcome) (t : InnerView)
    (q : PassView) : Type 0 where
  pub makes : Makes s.machine event outcome t.machine
  pub events : t.events ≡ s.events + 1
  pub own : Counters
  pub is_counters : slice_index_or s.counters (p.number.0 - 1) own ≡ own
  pub counters : t.counters ≡ slice_set s.counters (p.number.0 - 1) (counters_with outcome own)
  pub trace : Gains s.trace (entry p.number event outcome ∷ []) t.trace
  pub counts : Counts p event outcome q
  pub tidies : t.tidies ≡ s.tidies

-- none was made: refused so, and nothing has changed
abbrev pub IsUnmade : Refusal → InnerView → PassView → Outcome → InnerView → PassView → Type 0
IsUnmade refusal s p outcome t q = (outcome ≡ Refused refusal) × (t ≡ s) × (q ≡ p)

-- WHAT AN EVENT OF A PASS DOES: one event of the machine, unless it isn't this pass's to make, or no more can be
-- counted
abbrev pub Does : InnerView → PassView → Event → Outcome → InnerView → PassView → Type 0
Does s p event outcome t q =
    MatchBool (is_wrong s p.number event) (IsUnmade WrongPass s p outcome t q)
    (MatchBool (is_spent s p) (IsUnmade Spent s p outcome t q) (IsMade s p event outcome t q))

-- A run whose call still continues at once has made all the events that it may, or no more can be counted. (If events
-- are traced, a run is of one event.)
abbrev pub RunsFully : InnerView → PassView → ℕ → Outcome → InnerView → PassView → Type 0
RunsFully s p most last t q = s.trace ≡ Off → p.trace ≡ Off → GoesOnAtOnce last
    → (p.events + most ≤ q.events) ⊎ (is_spent t q ≡ true)

-- and so has the run with which a call is started; a call is begun without a run only if no more events may be made
abbrev pub StartsFully : InnerView → PassView → ℕ → Started → InnerView → PassView → Type 0
StartsFully s p most (RefusedStart refusal) t q = Unit {0}
StartsFully s p most (Begun call) t q = most ≤ 1
StartsFully s p most (Ran call last) t q = RunsFully s p most last t q

-- an event of a pass, on something that the lock keeps
pub record DoesSomewhere (p : PassView) (event : Event) (outcome : Outcome) (q : PassView) : Type 0 where
  pub before : InnerView
  pub then : InnerView
  pub kept : IsInner before
  pub does : Does before p event outcome then q
  pub keeps : IsInner then

-- the first limit that these options break, or this number of passes
abbrev pub start_fault : Options → ℕ → Option Refusal
start_fault options passes = option_or (open_fault options.columns options.log_capacity options.log_retention) (passes_fault passes)

-- a call is refused for exactly this fault; if there is none, it is refused only when out of memory
abbrev pub IsRefusedBy : {T : Type 0} → Option Refusal → Result T Refusal → Type 0
IsRefusedBy fault result =
    MatchOption fault (IfErr result (λ refusal. refusal ≡ NoMemory)) (λ refusal. result ≡ Err refusal)

-- a machine on which nothing has happened, opened with these options, with counters for each of this many passes
pub record IsFresh (options : Options) (passes : ℕ) (s : InnerView) : Type 0 where
  pub columns : s.machine.columns ≡ options.columns
  pub bounds : HasBounds options.log_capacity options.log_retention s.machine.log
  pub stands : Stands s.machine []
  pub events : s.events ≡ 0
  pub counters : length s.counters ≡ passes
  pub tidies : s.tidies ≡ options.tidies

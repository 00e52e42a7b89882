-- What a trace says: the events that were made, with their outcomes, the oldest first.
use Rattle.std.specs.Prelude.{ℕ, ◌≡◌, ◌==◌, Bool, true, false, List, [], ◌++◌, length, map, filter}
use Rattle.mt_types.specs.declared.numbers.PassNo.{PassNo}
use Rattle.mt_types.specs.declared.event.Event.{Event}
use Rattle.mt_types.specs.declared.event.Outcome.{Outcome}
use Rattle.mt_promise.specs.History.{History, GoesOn, moment}
use Rattle.mt_promise.specs.Legal.{Legal}
use Rattle.mt_promise.specs.Headline.{KeepsPromise}
use Rattle.mt_shared.specs.declared.trace.Entry.{Entry}
use Rattle.mt_shared.specs.declared.trace.Trace.{Trace}
use Rattle.mt_shared.specs.declared.trace.Trace.TheVariants.{Off, On, Lost}

abbrev pub entry : PassNo → Event → Outcome → Entry
entry pass event outcome = record { pass = pass; event = event; outcome = outcome }

-- the entries of one pass, in their order
abbrev pub part : PassNo → List Entry → List Entry
part pass entries = filter (λ (x : Entry). x.pass.0 == pass.0) entries

-- these entries are what happened, one for each event, in their order
abbrev pub Tells : List Entry → History → Type 0
Tells entries h =
    GoesOn [] (map (λ (x : Entry). x.event) entries) (map (λ (x : Entry). x.outcome) entries) h

-- these entries are what happened in a legal history of an index of C columns, which keeps the promise
abbrev pub IsLegalTrace : ℕ → List Entry → Type 0
IsLegalTrace C entries = (h : History) × Tells entries h × Legal C h × KeepsPromise C h

-- there is a legal history of this many events and this many commits
abbrev pub HaveHappened : ℕ → ℕ → ℕ → Type 0
HaveHappened C events commits =
    (h : History) × Legal C h × (length h ≡ events) × (length (moment h).commits ≡ commits)

-- a trace that is kept tells this history
abbrev pub IsTraceOf : Trace → History → Type 0
IsTraceOf Off h = Unit {0}
IsTraceOf (On kept) h = Tells kept.items h
IsTraceOf Lost h = Unit {0}

-- a trace that is kept gains these entries, unless a copy was refused: then it is lost
abbrev pub Gains : Trace → List Entry → Trace → Type 0
Gains Off entries Off = Unit {0}
Gains (On kept) entries (On then) = then.items ≡ kept.items ++ entries
Gains (On kept) entries Lost = Unit {0}
Gains Lost entries Lost = Unit {0}
Gains _ entries _ = ⊥

-- a trace that is kept or not, without entries
abbrev pub IsNewTrace : Bool → Trace → Type 0
IsNewTrace true (On kept) = kept.items ≡ []
IsNewTrace false Off = Unit {0}
IsNewTrace _ _ = ⊥

-- a trace is kept, of just these entries
abbrev pub Keeps : Trace → List Entry → Type 0
Keeps (On kept) entries = kept.items ≡ entries
Keeps _ entries = ⊥

-- An event that was made keeps what the lock keeps.
use Rattle.std.proofs.Common.{arith, sym, ap, subst, ◌≡◌, ◌+◌, ◌-◌, ◌≤◌, ◌<◌, ◌∙◌, ◌∷◌, ◌++◌, [], List, ℕ, refl, length, get_or, set, map, Bool, true, false, ◌||◌, ◌&&◌, not, eqb, leb}
use Rattle.std.specs.Prelude.{All, MatchBool}
use Rattle.std.proofs.lemmas.List.{map-append, length-map}
use Rattle.std.proofs.lemmas.List.Sums.{sum_by-set, get_or-le-sum_by}
use Rattle.std.proofs.lemmas.List.Elements.{All-set}
use Rattle.std.proofs.lemmas.Bool.{ne_eqb}
use Rattle.std.proofs.lemmas.Bool.Decides.{nat_tests}
use Rattle.mt_types.specs.declared.numbers.PassNo.{PassNo}
use Rattle.mt_types.specs.declared.event.Event.{Event}
use Rattle.mt_types.specs.declared.event.Outcome.{Outcome}
use Rattle.mt_promise.specs.History.{History, GoesOn, happening}
use Rattle.mt_promise.proofs.HistoryLemmas.{GoesOn-append}
use Rattle.mt_commit.specs.Log.{newest}
use Rattle.mt_index.specs.Stands.{MachineView, Stands}
use Rattle.mt_shared.specs.declared.counters.Counters.{Counters}
use Rattle.mt_shared.specs.declared.trace.Entry.{Entry}
use Rattle.mt_shared.specs.declared.trace.Trace.{Trace}
use Rattle.mt_shared.specs.declared.trace.Trace.TheVariants.{Off, On, Lost}
use Rattle.mt_promise.specs.Legal.{Legal}
use Rattle.mt_promise.specs.Headline.{KeepsPromise}
use Rattle.mt_promise.proofs.KeepLemmas.{keeps_promise}
use Rattle.mt_shared.specs.Traces.{entry, Tells, Gains, IsTraceOf, Keeps}
use Rattle.mt_index.specs.Events.{Makes, commit_count}
use Rattle.mt_shared.specs.Passes.{PassView, Counts, seen_in}
use Rattle.mt_shared.specs.Counters.{counters_with}
use Rattle.mt_types.specs.Numbers.{greatest_number}
use Rattle.mt_types.specs.declared.refusal.Refusal.TheVariants.{WrongPass, Spent}
use Rattle.mt_shared.specs.Inner.{InnerView, IsInner, IsMade, IsUnmade, Does, has_counters, is_foreign, is_wrong, is_spent}
use Rattle.mt_shared.proofs.HappeningLemmas.{event_grows, event_shows}

or_false : (a b : Bool) → false ≡ (a || b) → (a ≡ false) × (b ≡ false)
or_false true b h = cc
or_false false b h = (refl, sym h)

both : (a b : Bool) → not (a && b) ≡ false → (a ≡ true) × (b ≡ true)
both true true h = (refl, refl)
both true false h = cc
both false b h = cc

is_true : (b : Bool) → not b ≡ false → b ≡ true
is_true true h = refl
is_true false h = cc

pub has_its_counters : (s : InnerView) (pass : PassNo) (e : Event) → false ≡ is_wrong s pass e → has_counters pass s.counters ≡ true
has_its_counters s pass e h = is_true (has_counters pass s.counters) (or_false (not (has_counters pass s.counters)) (is_foreign s.machine pass e) h).0

pub counters_within : (pass : PassNo) (counters : List Counters) → has_counters pass counters ≡ true → pass.0 - 1 < length counters
counters_within pass counters h =
    let b = both (not (eqb pass.0 0)) (leb pass.0 (length counters)) (ap not h) in
    let x : not (eqb pass.0 0) ≡ true = b.0 in
    let y : leb pass.0 (length counters) ≡ true = b.1 in
    grind (arith, nat_tests)

-- the pass of an event that isn't wrong has counters, and the event is its own
pub in_counters : (s : InnerView) (pass : PassNo) (e : Event) → false ≡ is_wrong s pass e → (pass.0 - 1 < length s.counters) × (is_foreign s.machine pass e ≡ false)
in_counters s pass e h =
    let a = or_false (not (has_counters pass s.counters)) (is_foreign s.machine pass e) h in
    let b = both (not (eqb pass.0 0)) (leb pass.0 (length s.counters)) a.0 in
    let x : not (eqb pass.0 0) ≡ true = b.0 in
    let y : leb pass.0 (length s.counters) ≡ true = b.1 in
    (grind (arith, nat_tests), a.1)

-- a trace continues with an event
pub follows : (r t : Trace) (pass : PassNo) (e : Event) (o : Outcome) (opens : ℕ) (h : History) → Gains r (entry pass e o ∷ []) t → IsTraceOf r h → IsTraceOf t (happening e o opens ∷ h)
follows Off Off pass e o opens h g i = tt
follows (On v) (On w) pass e o opens h g i =
    subst (λ (xs : List Entry). Tells xs (happening e o opens ∷ h)) (sym g)
    (subst (λ es. GoesOn [] es (map (λ (x : Entry). x.outcome) (v.items ++ entry pass e o ∷ [])) (happening e o opens ∷ h)) (sym (map-append (λ (x : Entry). x.event) v.items (entry pass e o ∷ [])))
    (subst (λ os. GoesOn [] (map (λ (x : Entry). x.event) v.items ++ e ∷ []) os (happening e o opens ∷ h)) (sym (map-append (λ (x : Entry). x.outcome) v.items (entry pass e o ∷ [])))
    (GoesOn-append [] h _ _ e o opens i)))
follows (On v) Lost pass e o opens h g i = tt
follows Lost Lost pass e o opens h g i = tt
follows Off (On w) pass e o opens h g i = absurd g
follows Off Lost pass e o opens h g i = absurd g
follows (On v) Off pass e o opens h g i = absurd g
follows Lost (On w) pass e o opens h g i = absurd g
follows Lost Off pass e o opens h g i = absurd g

-- the machine's commits, once it has made an event
pub commits_then : (m n : MachineView) (e : Event) (o : Outcome) (h : History) → Stands m h → Makes m e o n → (newest n.log ≡ newest m.log + commit_count o) × (seen_in o ≤ newest m.log)
commits_then m n e o h st makes =
    let (opens, then) = makes.stands h st in
    let may = then.legal.1 in
    let grows = event_grows n.columns h e o opens may in
    let shows = event_shows n.columns h e o opens may in
    (omega (arith, st.commits, then.commits, grows), omega (arith, st.commits, shows))

pub keeps : (s : InnerView) (m : MachineView) (e : Event) (o : Outcome) (i : ℕ) (a b : Counters) → IsInner s → Makes s.machine e o m → i < length s.counters → a ≡ get_or s.counters i a → b ≡ counters_with o a
    → (pass : PassNo) (t : Trace) → Gains s.trace (entry pass e o ∷ []) t → IsInner (record { machine = m; events = s.events + 1; counters = set s.counters i b; trace = t; tidies = s.tidies })
keeps s m e o i a b k makes within at after pass t gains =
    let (h, st, long, told) = k.stands in
    let (opens, then) = makes.stands h st in
    let (more, shown) = commits_then s.machine m e o h st makes in
    let old : a.seen ≤ newest s.machine.log = rw at (k.seen i a within) in
    let raised : All (λ (x : Counters). x.seen ≤ newest m.log) s.counters = λ j d lt. let f = k.seen j d lt in omega arith in
    let es = sum_by-set (λ (x : Counters). x.events) s.counters i b a within in
    let cs = sum_by-set (λ (x : Counters). x.commits) s.counters i b a within in
    let be = ap (λ (x : Counters). x.events) after in
    let bc = ap (λ (x : Counters). x.commits) after in
    let bs = ap (λ (x : Counters). x.seen) after in
    let ae = ap (λ (x : Counters). x.events) at in
    let ac = ap (λ (x : Counters). x.commits) at in
    record {
      stands = (happening e o opens ∷ h, then, omega (arith, long), follows s.trace t pass e o opens h gains told);
      events = omega (arith, k.events);
      commits = omega (arith, k.commits);
      seen = All-set (λ (x : Counters). x.seen ≤ newest m.log) s.counters i b (omega arith) raised;
    }

-- the counts of a pass's counters are bounded by all of them
pub counters_bounds : (s : InnerView) (i : ℕ) (a : Counters) → IsInner s → i < length s.counters → a ≡ get_or s.counters i a → (a.events ≤ s.events) × (a.commits ≤ newest s.machine.log)
counters_bounds s i a k within at =
    let es = get_or-le-sum_by (λ (x : Counters). x.events) s.counters i a within in
    let cs = get_or-le-sum_by (λ (x : Counters). x.commits) s.counters i a within in
    let ae = ap (λ (x : Counters). x.events) at in
    let ac = ap (λ (x : Counters). x.commits) at in
    (omega (arith, k.events), omega (arith, k.commits))

pub not_spent : (s : InnerView) (p : PassView) → (s.events ≡ greatest_number → ⊥) → (p.events ≡ greatest_number → ⊥) → is_spent s p ≡ false
not_spent s p here there = ap (λ (b : Bool). b || eqb p.events greatest_number) (ne_eqb s.events greatest_number here) ∙ ne_eqb p.events greatest_number there

pub does_make : (s : InnerView) (p : PassView) (e : Event) (o : Outcome) (t : InnerView) (q : PassView) → false ≡ is_wrong s p.number e → is_spent s p ≡ false → IsMade s p e o t q → Does s p e o t q
does_make s p e o t q right more made =
    subst (λ (b : Bool). MatchBool b (IsUnmade WrongPass s p o t q) (MatchBool (is_spent s p) (IsUnmade Spent s p o t q) (IsMade s p e o t q))) right
    (subst (λ (b : Bool). MatchBool b (IsUnmade Spent s p o t q) (IsMade s p e o t q)) (sym more) made)

-- an event that was made, as the code makes it
pub makes_own : (s : InnerView) (m : MachineView) (p : PassView) (e : Event) (o : Outcome) (a b : Counters) (t : Trace) (q : PassView) → (s.events ≡ greatest_number → ⊥) → (p.events ≡ greatest_number → ⊥) → Makes s.machine e o m → b ≡ counters_with o a → Counts p e o q
    → (pass : PassNo) → pass ≡ p.number → false ≡ is_wrong s pass e → a ≡ get_or s.counters (pass.0 - 1) a → Gains s.trace (entry pass e o ∷ []) t
    → Does s p e o (record { machine = m; events = s.events + 1; counters = set s.counters (pass.0 - 1) b; trace = t; tidies = s.tidies }) q
makes_own s m p e o a b t q here there makes after counts pass same =
    subst (λ (n : PassNo). false ≡ is_wrong s n e → a ≡ get_or s.counters (n.0 - 1) a → Gains s.trace (entry n e o ∷ []) t → Does s p e o (record { machine = m; events = s.events + 1; counters = set s.counters (n.0 - 1) b; trace = t; tidies = s.tidies }) q)
    (sym same)
    (λ right at gains. does_make s p e o _ q right (not_spent s p here there) (record {
      makes = makes;
      events = refl;
      own = a;
      is_counters = sym at;
      counters = ap (λ (x : Counters). set s.counters (p.number.0 - 1) x) after;
      trace = gains;
      counts = counts;
      tidies = refl;
    }))

-- the entries of a trace that is kept tell a legal history
pub told_by : (t : Trace) (entries : List Entry) (h : History) → Keeps t entries → IsTraceOf t h → Tells entries h
told_by (On v) entries h is told = subst (λ (xs : List Entry). Tells xs h) is told
told_by Off entries h is told = absurd is
told_by Lost entries h is told = absurd is

pub settles : (s : InnerView) (entries : List Entry) → IsInner s → Keeps s.trace entries → (h : History) × Tells entries h × Legal s.machine.columns h × KeepsPromise s.machine.columns h
settles s entries k is =
    let (h, st, long, told) = k.stands in
    (h, told_by s.trace entries h is told, st.legal, keeps_promise s.machine.columns h st.legal)

-- as many as were made
told_long : (past h : History) (es : List Event) (os : List Outcome) → GoesOn past es os h → length h ≡ length past + length es
told_long past h [] [] g = ap length g ∙ (let e : length past ≡ length past + 0 = omega arith in e)
told_long past h (e ∷ es) (o ∷ os) g = let more = told_long (happening e o g.0 ∷ past) h es os g.1 in omega (arith, more)
told_long past h [] (o ∷ os) g = absurd g
told_long past h (e ∷ es) [] g = absurd g

pub settles_all : (s : InnerView) (entries : List Entry) → IsInner s → Keeps s.trace entries → length entries ≡ s.events
settles_all s entries k is =
    let (h, st, long, told) = k.stands in
    let g = told_by s.trace entries h is told in
    let many = told_long [] h (map (λ (x : Entry). x.event) entries) (map (λ (x : Entry). x.outcome) entries) g in
    let same = length-map entries (λ (x : Entry). x.event) in
    omega (arith, many, same, long)

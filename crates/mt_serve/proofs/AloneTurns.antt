-- A pass that is alone keeps its views up: turns, and how they end.
use Rattle.std.proofs.Common.{ℕ, ◌≡◌, ◌<◌, ◌≤◌, ◌⊎◌, Bool, true, false, inl, inr, List, [], ◌∷◌, ◌++◌, length, Option, Some, None, refl, sym, ap, subst, ◌∙◌, arith}
use Rattle.std.specs.Prelude.{◌+◌, ◌-◌, ◌==◌, suc, nat_lt, MatchBool, if◌then◌else◌, map, All}
use Rattle.std.proofs.lemmas.Bool.{eq-eqb, cases_Bool}
use Rattle.std.proofs.lemmas.Bool.Decides.{leb_tells}
use Rattle.std.proofs.lemmas.List.{map-append}
use Rattle.std.proofs.lemmas.List.Elements.{All-head, All-tail, All-nil, All-cons}
use Rattle.mt_types.specs.Numbers.{greatest_number}
use Rattle.mt_types.specs.declared.limits.TheConstants.{MAX_VIEWS}
use Rattle.mt_types.specs.declared.numbers.PassNo.{PassNo}
use Rattle.mt_types.specs.declared.refusal.Refusal.{Refusal}
use Rattle.mt_types.specs.declared.refusal.Refusal.TheVariants.{NoMemory}
use Rattle.mt_types.specs.declared.event.Event.{Event}
use Rattle.mt_types.specs.declared.event.Outcome.{Outcome}
use Rattle.mt_types.specs.declared.event.Outcome.TheVariants.{Applied, Current, Refused}
use Rattle.mt_promise.specs.History.{History, happening, Moment, StandingView, moment, furthest as furthest_of, move_view}
use Rattle.mt_promise.specs.Legal.{MayApply, IsOrLacksMemory}
use Rattle.mt_shared.specs.declared.trace.Entry.{Entry}
use Rattle.mt_shared.specs.Passes.{PassView}
use Rattle.mt_shared.specs.Drives.{Runs}
use Rattle.mt_shared.specs.Turns.{furthest, turn, IsTurn, HasTurned}
use Rattle.mt_shared.specs.Inner.{InnerView, Does}
use Rattle.mt_serve.specs.Asking.{KeepsViews}
use Rattle.mt_serve.specs.Plain.{IsAlone, TakenOn, KeptUp, store_of}
use Rattle.mt_index.specs.Events.{Makes}
use Rattle.mt_serve.specs.Store.{Store, Leads}
use Rattle.mt_serve.proofs.AloneEvents.{Keeping, keeping, goes, leads_more, runs_rise}

less_tells : (a b : ℕ) → ((nat_lt a b ≡ true) × (a < b)) ⊎ ((nat_lt a b ≡ false) × (b ≤ a))
less_tells a b = elim (leb_tells (suc a) b) [
  | inl e ↦ (let most = e.1 in inl (e.0, omega (arith, most)))
  | inr e ↦ (let least = e.1 in inr (e.0, omega (arith, least)))
]

-- ---- the views, once one is advanced
taken_none : (views : List StandingView) → TakenOn views views
taken_none [] = tt
taken_none (v ∷ views) = (refl, refl, omega arith, taken_none views)

taken_more : (a b c : List StandingView) → TakenOn a b → TakenOn b c → TakenOn a c
taken_more [] [] [] x y = tt
taken_more (u ∷ a) (v ∷ b) (w ∷ c) (n, spec, at, more) (m, other, final, further) = (m ∙ n, other ∙ spec, omega (arith, at, final), taken_more a b c more further)
taken_more [] (v ∷ b) c x y = absurd x
taken_more (u ∷ a) [] c x y = absurd x
taken_more a [] (w ∷ c) x y = absurd y
taken_more a (v ∷ b) [] x y = absurd y

taken_one : (v : StandingView) (views : List StandingView) → TakenOn views (map (λ (w : StandingView). if w.number == v.number then record w { at = w.at + 1 } else w) views)
taken_one v [] = tt
taken_one v (w ∷ views) = elim (cases_Bool (w.number == v.number)) [
  | inl b ↦ subst (λ (z : StandingView). TakenOn (w ∷ views) (z ∷ map (λ (u : StandingView). if u.number == v.number then record u { at = u.at + 1 } else u) views)) (sym (ap (λ (t : Bool). if t then record w { at = w.at + 1 } else w) b)) (refl, refl, omega arith, taken_one v views)
  | inr b ↦ subst (λ (z : StandingView). TakenOn (w ∷ views) (z ∷ map (λ (u : StandingView). if u.number == v.number then record u { at = u.at + 1 } else u) views)) (sym (ap (λ (t : Bool). if t then record w { at = w.at + 1 } else w) b)) (refl, refl, omega arith, taken_one v views)
]

taken_moved : (moved : Option StandingView) (views : List StandingView) → TakenOn views (move_view moved views)
taken_moved None views = taken_none views
taken_moved (Some v) views = taken_one v views

-- by how many commits the views are behind, all together
abbrev lag : ℕ → List StandingView → ℕ
lag newest [] = 0
lag newest (v ∷ views) = (newest - v.at) + lag newest views

lag_none : (newest : ℕ) (views : List StandingView) → lag newest views ≡ 0 → All (λ (v : StandingView). newest ≤ v.at + 0) views
lag_none newest [] zero = All-nil (λ (v : StandingView). newest ≤ v.at + 0)
lag_none newest (v ∷ views) zero = All-cons (λ (w : StandingView). newest ≤ w.at + 0) v views (omega (arith, zero)) (lag_none newest views (omega (arith, zero)))

lag_few : (newest : ℕ) (views : List StandingView) → All (λ (v : StandingView). newest ≤ v.at + 1) views → lag newest views ≤ length views
lag_few newest [] all = omega arith
lag_few newest (v ∷ views) all =
    let head = All-head (λ (w : StandingView). newest ≤ w.at + 1) v views all in
    let rest = lag_few newest views (All-tail (λ (w : StandingView). newest ≤ w.at + 1) v views all) in omega (arith, head, rest)

-- a view that is found is among them
abbrev AmongViews : StandingView → List StandingView → Type 0
AmongViews v [] = ⊥
AmongViews v (w ∷ views) = (v ≡ w) ⊎ AmongViews v views

lag_moved : (newest : ℕ) (v : StandingView) (views : List StandingView) → lag newest (map (λ (w : StandingView). if w.number == v.number then record w { at = w.at + 1 } else w) views) ≤ lag newest views
lag_moved newest v [] = omega arith
lag_moved newest v (w ∷ views) =
    let rest = lag_moved newest v views in
    elim (cases_Bool (w.number == v.number)) [
      | inl b ↦ subst (λ (z : StandingView). (newest - z.at) + lag newest (map (λ (u : StandingView). if u.number == v.number then record u { at = u.at + 1 } else u) views) ≤ (newest - w.at) + lag newest views) (sym (ap (λ (t : Bool). if t then record w { at = w.at + 1 } else w) b)) (omega (arith, rest))
      | inr b ↦ subst (λ (z : StandingView). (newest - z.at) + lag newest (map (λ (u : StandingView). if u.number == v.number then record u { at = u.at + 1 } else u) views) ≤ (newest - w.at) + lag newest views) (sym (ap (λ (t : Bool). if t then record w { at = w.at + 1 } else w) b)) (omega (arith, rest))
    ]

lag_falls : (newest : ℕ) (v : StandingView) (views : List StandingView) → AmongViews v views → v.at < newest
    → lag newest (map (λ (w : StandingView). if w.number == v.number then record w { at = w.at + 1 } else w) views) + 1 ≤ lag newest views
lag_falls newest v [] among behind = absurd among
lag_falls newest v (w ∷ views) (inl is) behind =
    let rest = lag_moved newest v views in
    let own : (w.number == v.number) ≡ true = eq-eqb w.number v.number (ap (λ (u : StandingView). u.number) (sym is)) in
    let less : w.at < newest = subst (λ (u : StandingView). u.at < newest) is behind in
    subst (λ (z : StandingView). (newest - z.at) + lag newest (map (λ (u : StandingView). if u.number == v.number then record u { at = u.at + 1 } else u) views) + 1 ≤ (newest - w.at) + lag newest views) (sym (ap (λ (t : Bool). if t then record w { at = w.at + 1 } else w) own)) (omega (arith, rest, less))
lag_falls newest v (w ∷ views) (inr among) behind =
    let rest = lag_falls newest v views among behind in
    elim (cases_Bool (w.number == v.number)) [
      | inl b ↦ subst (λ (z : StandingView). (newest - z.at) + lag newest (map (λ (u : StandingView). if u.number == v.number then record u { at = u.at + 1 } else u) views) + 1 ≤ (newest - w.at) + lag newest views) (sym (ap (λ (t : Bool). if t then record w { at = w.at + 1 } else w) b)) (omega (arith, rest))
      | inr b ↦ subst (λ (z : StandingView). (newest - z.at) + lag newest (map (λ (u : StandingView). if u.number == v.number then record u { at = u.at + 1 } else u) views) + 1 ≤ (newest - w.at) + lag newest views) (sym (ap (λ (t : Bool). if t then record w { at = w.at + 1 } else w) b)) (omega (arith, rest))
    ]

-- the view that is furthest behind is one of them, and no other is further
furthest_among : (best : Option StandingView) (views : List StandingView) (v : StandingView) → furthest_of best views ≡ Some v → (best ≡ Some v) ⊎ AmongViews v views
furthest_among best [] v e = inl e
furthest_among None (w ∷ views) v e =
    elim (furthest_among (Some w) views v e) [ inl p ↦ let is : v ≡ w = cc in inr (inl is) | inr a ↦ inr (inr a) ]
furthest_among (Some best) (w ∷ views) v e =
    elim (furthest_among (Some (if nat_lt w.at best.at then w else best)) views v e) [
      | inl p ↦ elim (cases_Bool (nat_lt w.at best.at)) [
        | inl b ↦ let q = rw b at p in let is : v ≡ w = cc in inr (inl is)
        | inr b ↦ let q = rw b at p in inl q
      ]
      | inr a ↦ inr (inr a)
    ]

same_view : (v w : StandingView) → ◌≡◌ {A = Option StandingView} (Some v) (Some w) → v ≡ w
same_view v w e = cc

furthest_least : (best : StandingView) (views : List StandingView) (v : StandingView) → furthest_of (Some best) views ≡ Some v
    → (v.at ≤ best.at) × All (λ (w : StandingView). v.at ≤ w.at) views
furthest_least best [] v e =
    let is = ap (λ (u : StandingView). u.at) (same_view best v e) in (omega (arith, is), All-nil (λ (w : StandingView). v.at ≤ w.at))
furthest_least best (w ∷ views) v e = elim (less_tells w.at best.at) [
  | inl b ↦
      let (least, all) = furthest_least w views v (sym (ap (λ (t : Bool). furthest_of (Some (if t then w else best)) views) b.0) ∙ e) in
      let less = b.1 in
      (omega (arith, least, less), All-cons (λ (u : StandingView). v.at ≤ u.at) w views least all)
  | inr b ↦
      let (least, all) = furthest_least best views v (sym (ap (λ (t : Bool). furthest_of (Some (if t then w else best)) views) b.0) ∙ e) in
      let less = b.1 in
      (least, All-cons (λ (u : StandingView). v.at ≤ u.at) w views (omega (arith, least, less)) all)
]

-- none is behind where the one that is furthest behind is not
none_behind : (newest : ℕ) (views : List StandingView) (v : StandingView) → furthest_of None views ≡ Some v → newest ≤ v.at → All (λ (w : StandingView). newest ≤ w.at + 0) views
none_behind newest [] v e at = All-nil (λ (w : StandingView). newest ≤ w.at + 0)
none_behind newest (w ∷ views) v e at =
    let (least, all) = furthest_least w views v e in
    All-cons (λ (u : StandingView). newest ≤ u.at + 0) w views (omega (arith, least, at)) (weaken views all)
  where
    weaken : (l : List StandingView) → All (λ (u : StandingView). v.at ≤ u.at) l → All (λ (u : StandingView). newest ≤ u.at + 0) l
    weaken [] all = All-nil (λ (u : StandingView). newest ≤ u.at + 0)
    weaken (u ∷ l) all =
        let head = All-head (λ (z : StandingView). v.at ≤ z.at) u l all in
        All-cons (λ (z : StandingView). newest ≤ z.at + 0) u l (omega (arith, head, at)) (weaken l (All-tail (λ (z : StandingView). v.at ≤ z.at) u l all))

-- ---- what an apply of the furthest view says
taken_length : (a b : List StandingView) → TakenOn a b → length b ≡ length a
taken_length [] [] on = refl
taken_length (v ∷ a) (w ∷ b) (n, spec, at, more) = ap (λ (k : ℕ). suc k) (taken_length a b more)
taken_length [] (w ∷ b) on = absurd on
taken_length (v ∷ a) [] on = absurd on

applied_falls : (m : Moment) (number : ℕ) → MayApply m 0 (furthest_of None m.views) (Applied number)
    → lag (length m.commits) (move_view (furthest_of None m.views) m.views) + 1 ≤ lag (length m.commits) m.views
applied_falls m number may = by_view (furthest_of None m.views) refl may
  where
    by_view : (v : Option StandingView) → furthest_of None m.views ≡ v → MayApply m 0 v (Applied number) → lag (length m.commits) (move_view v m.views) + 1 ≤ lag (length m.commits) m.views
    by_view None e none = let clash : Applied number ≡ Current = none in cc
    by_view (Some v) e some = elim (less_tells v.at (length m.commits)) [
      | inl b ↦ elim (furthest_among None m.views v e) [ inl clash ↦ cc | inr among ↦ lag_falls (length m.commits) v m.views among b.1 ]
      | inr b ↦ (let clash : Applied number ≡ Current = subst (λ (t : Bool). MatchBool t (IsOrLacksMemory (Applied (v.at + 1)) (Applied number)) (Applied number ≡ Current)) b.0 some in cc)
    ]

-- no view is behind at a moment
abbrev NoneAt : Moment → Type 0
NoneAt m = All (λ (v : StandingView). length m.commits ≤ v.at + 0) m.views

current_newest : (m : Moment) → MayApply m 0 (furthest_of None m.views) Current → NoneAt m
current_newest m may = by_view (furthest_of None m.views) refl may
  where
    empty : (views : List StandingView) → furthest_of None views ≡ None → All (λ (v : StandingView). length m.commits ≤ v.at + 0) views
    empty [] e = All-nil (λ (v : StandingView). length m.commits ≤ v.at + 0)
    empty (w ∷ views) e = absurd (some_furthest w views e)
      where
        some_furthest : (best : StandingView) (views : List StandingView) → furthest_of (Some best) views ≡ None → ⊥
        some_furthest best [] e = cc
        some_furthest best (w ∷ views) e = some_furthest (if nat_lt w.at best.at then w else best) views e

    by_view : (v : Option StandingView) → furthest_of None m.views ≡ v → MayApply m 0 v Current → NoneAt m
    by_view None e none = empty m.views e
    by_view (Some v) e some = elim (less_tells v.at (length m.commits)) [
      | inl b ↦ elim (subst (λ (t : Bool). MatchBool t (IsOrLacksMemory (Applied (v.at + 1)) Current) (Current ≡ Current)) b.0 some) [
        | inl clash ↦ cc
        | inr clash ↦ cc
      ]
      | inr b ↦ (let least = b.1 in none_behind (length m.commits) m.views v e (omega (arith, least)))
    ]

refused_memory : (m : Moment) (refusal : Refusal) → MayApply m 0 (furthest_of None m.views) (Refused refusal) → refusal ≡ NoMemory
refused_memory m refusal may = by_view (furthest_of None m.views) may
  where
    by_view : (v : Option StandingView) → MayApply m 0 v (Refused refusal) → refusal ≡ NoMemory
    by_view None none = let clash : Refused refusal ≡ Current = none in cc
    by_view (Some v) some = elim (less_tells v.at (length m.commits)) [
      | inl b ↦ elim (subst (λ (t : Bool). MatchBool t (IsOrLacksMemory (Applied (v.at + 1)) (Refused refusal)) (Refused refusal ≡ Current)) b.0 some) [
        | inl clash ↦ cc
        | inr is ↦ cc
      ]
      | inr b ↦ (let clash : Refused refusal ≡ Current = subst (λ (t : Bool). MatchBool t (IsOrLacksMemory (Applied (v.at + 1)) (Refused refusal)) (Refused refusal ≡ Current)) b.0 some in cc)
    ]

-- ---- turns
-- since the store s, this many turns have been made, and each has advanced a view
record HasKept (s : Store) (pass : PassNo) (made : ℕ) (m : InnerView) (r : PassView) : Type 0 where
  past : History
  keeps : Keeping m r past
  number : r.number ≡ pass
  columns : m.machine.columns ≡ s.machine.columns
  turns : List Outcome
  leads : Leads s (map (λ (o : Outcome). furthest) turns) turns (store_of m past)
  commits : (moment past).commits ≡ (moment s.past).commits
  views : TakenOn (moment s.past).views (moment past).views
  falls : lag (length (moment s.past).commits) (moment past).views + made ≤ lag (length (moment s.past).commits) (moment s.past).views
  ended : (moment past).calls ≡ []

-- one more turn
leads_turn : (s : Store) (m n : InnerView) (past : History) (turns : List Outcome) (o : Outcome) (note : ℕ) → Leads s (map (λ (x : Outcome). furthest) turns) turns (store_of m past)
    → Makes m.machine furthest o n.machine → Leads s (map (λ (x : Outcome). furthest) (turns ++ o ∷ [])) (turns ++ o ∷ []) (store_of n (happening furthest o note ∷ past))
leads_turn s m n past turns o note leads happens =
    subst (λ (events : List Event). Leads s events (turns ++ o ∷ []) (store_of n (happening furthest o note ∷ past)))
    (sym (map-append (λ (x : Outcome). furthest) turns (o ∷ []))) (leads_more s m n past (map (λ (x : Outcome). furthest) turns) turns furthest o note leads happens)

turned_one : (s : Store) (pass : PassNo) (made : ℕ) (m n t : InnerView) (r w : PassView) (number : ℕ) → t.events < greatest_number → n.events ≤ t.events
    → HasKept s pass made m r → Does m r furthest (Applied number) n w → HasKept s pass (made + 1) n w
turned_one s pass made m n t r w number few rises k does =
    let went = goes m n r w k.past furthest (Applied number) k.keeps (omega (arith, few, rises)) refl does in
    let fell = applied_falls (moment k.past) number went.may in
    let fell_so : lag (length (moment s.past).commits) (move_view (furthest_of None (moment k.past).views) (moment k.past).views) + 1 ≤ lag (length (moment s.past).commits) (moment k.past).views =
    subst (λ (l : List _). lag (length l) (move_view (furthest_of None (moment k.past).views) (moment k.past).views) + 1 ≤ lag (length l) (moment k.past).views) k.commits fell in
    record {
      past = happening furthest (Applied number) went.note ∷ k.past;
      keeps = went.keeps;
      number = went.number ∙ k.number;
      columns = went.columns ∙ k.columns;
      turns = k.turns ++ Applied number ∷ [];
      leads = leads_turn s m n k.past k.turns (Applied number) went.note k.leads went.happens;
      commits = k.commits;
      views = taken_more (moment s.past).views (moment k.past).views (move_view (furthest_of None (moment k.past).views) (moment k.past).views) k.views (taken_moved (furthest_of None (moment k.past).views) (moment k.past).views);
      falls = (let so_far = k.falls in omega (arith, fell_so, so_far));
      ended = k.ended;
    }

-- and then come these last events
record KeptThen (s : Store) (pass : PassNo) (made : ℕ) (last : List Entry) (t : InnerView) (q : PassView) : Type 0 where
  m : InnerView
  r : PassView
  kept : HasKept s pass made m r
  runs : Runs Does m r last t q

turns_on : (s : Store) (pass : PassNo) (last : List Entry) (t : InnerView) (q : PassView) → t.events < greatest_number
    → (turns : List Entry) (made total : ℕ) (m : InnerView) (r : PassView) → made + length turns ≡ total → All (IsTurn pass) turns → HasKept s pass made m r → Runs Does m r (turns ++ last) t q → KeptThen s pass total last t q
turns_on s pass last t q few [] made total m r many all k runs = record {
  m = m;
  r = r;
  kept = (let same : made ≡ total = omega (arith, many) in subst (λ (n : ℕ). HasKept s pass n m r) same k);
  runs = runs;
}
turns_on s pass last t q few (x ∷ turns) made total m r many all k (n, w, does, more) =
    let (number, is) = All-head (IsTurn pass) x turns all in
    let rises = runs_rise n t w q (turns ++ last) more in
    let one : Does m r furthest (Applied number) n w = subst (λ (y : Entry). Does m r y.event y.outcome n w) is does in
    turns_on s pass last t q few turns (made + 1) total n w (let step : made + length (x ∷ turns) ≡ total = many in omega (arith, step)) (All-tail (IsTurn pass) x turns all)
    (turned_one s pass made m n t r w number few rises k one) more

has_turned : (s t : InnerView) (p q : PassView) (h : History) (applied : ℕ) (last : List Entry) → IsAlone s p h → t.events < greatest_number → HasTurned Does s p applied last t q → KeptThen (store_of s h) p.number applied last t q
has_turned s t p q h applied last a few turned =
    turns_on (store_of s h) p.number last t q few turned.turns 0 applied s p (let many = turned.count in omega (arith, many)) turned.are_turns
    (record { past = h; keeps = keeping s p h a; number = refl; columns = refl; turns = []; leads = (refl, refl); commits = refl; views = taken_none (moment h).views; falls = omega arith; ended = a.ended })
    turned.runs

-- what came of keeping views up
pub record IsKeptUp (s : Store) (t : InnerView) (q : PassView) : Type 0 where
  pub final : History
  pub alone : IsAlone t q final
  pub columns : t.machine.columns ≡ s.machine.columns
  pub kept : KeptUp s (store_of t final)

few_still : (a b : List StandingView) → TakenOn a b → length a ≤ MAX_VIEWS → length b ≤ MAX_VIEWS
few_still a b on few = subst (λ (n : ℕ). n ≤ MAX_VIEWS) (sym (taken_length a b on)) few

alone_again : (t : InnerView) (q : PassView) (h final : History) → Keeping t q final → (moment final).calls ≡ [] → TakenOn (moment h).views (moment final).views → length (moment h).views ≤ MAX_VIEWS → IsAlone t q final
alone_again t q h final k ended on few = record {
  stands = k.stands;
  ended = ended;
  few_views = few_still (moment h).views (moment final).views on few;
  own = k.own;
  seen = k.seen;
  counted = k.counted;
}

-- 64 turns were made and each advanced a view: all views together were at most 64 commits behind
all_turned : (s t : InnerView) (p q : PassView) (h : History) → IsAlone s p h → t.events < greatest_number → KeptThen (store_of s h) p.number 64 [] t q → IsKeptUp (store_of s h) t q
all_turned s t p q h a few k =
    let kept : HasKept (store_of s h) p.number 64 t q = subst (λ (n : InnerView). HasKept (store_of s h) p.number 64 n q) (sym k.runs.0) (subst (λ (w : PassView). HasKept (store_of s h) p.number 64 k.m w) (sym k.runs.1) k.kept) in
    record {
      final = kept.past;
      alone = alone_again t q h kept.past kept.keeps kept.ended kept.views a.few_views;
      columns = kept.columns;
      kept = record {
        turns = kept.turns;
        happens = kept.leads;
        commits = kept.commits;
        views = kept.views;
        newest = λ close.
            let few_behind = lag_few (length (moment h).commits) (moment h).views close in
            let most = a.few_views in
            let fell = kept.falls in
            let none : lag (length (moment h).commits) (moment kept.past).views ≡ 0 = omega (arith, few_behind, most, fell) in
            inl (subst (λ (n : ℕ). All (λ (v : StandingView). n ≤ v.at + 0) (moment kept.past).views) (sym (ap length kept.commits)) (lag_none (length (moment h).commits) (moment kept.past).views none));
      };
    }

-- the last turn found all of them at the newest commit
found_current : (s t : InnerView) (p q : PassView) (h : History) (applied : ℕ) → IsAlone s p h → t.events < greatest_number → KeptThen (store_of s h) p.number applied (turn p.number Current ∷ []) t q → IsKeptUp (store_of s h) t q
found_current s t p q h applied a few k =
    let (n, w, does, (is, same)) = k.runs in
    let one : Does k.m k.r furthest Current t q = subst (λ (x : InnerView). Does k.m k.r furthest Current x q) (sym is) (subst (λ (y : PassView). Does k.m k.r furthest Current n y) (sym same) does) in
    let went = goes k.m t k.r q k.kept.past furthest Current k.kept.keeps few refl one in
    record {
      final = happening furthest Current went.note ∷ k.kept.past;
      alone = alone_again t q h (happening furthest Current went.note ∷ k.kept.past) went.keeps k.kept.ended k.kept.views a.few_views;
      columns = went.columns ∙ k.kept.columns;
      kept = record {
        turns = k.kept.turns ++ Current ∷ [];
        happens = leads_turn (store_of s h) k.m t k.kept.past k.kept.turns Current went.note k.kept.leads went.happens;
        commits = k.kept.commits;
        views = k.kept.views;
        newest = λ close. inl (current_newest (moment k.kept.past) went.may);
      };
    }

-- a turn was refused
was_stopped : (s t : InnerView) (p q : PassView) (h : History) (applied : ℕ) (refusal : Refusal) → IsAlone s p h → t.events < greatest_number → KeptThen (store_of s h) p.number applied (turn p.number (Refused refusal) ∷ []) t q
    → IsKeptUp (store_of s h) t q
was_stopped s t p q h applied refusal a few k =
    let (n, w, does, (is, same)) = k.runs in
    let one : Does k.m k.r furthest (Refused refusal) t q = subst (λ (x : InnerView). Does k.m k.r furthest (Refused refusal) x q) (sym is) (subst (λ (y : PassView). Does k.m k.r furthest (Refused refusal) n y) (sym same) does) in
    let went = goes k.m t k.r q k.kept.past furthest (Refused refusal) k.kept.keeps few refl one in
    record {
      final = happening furthest (Refused refusal) went.note ∷ k.kept.past;
      alone = alone_again t q h (happening furthest (Refused refusal) went.note ∷ k.kept.past) went.keeps k.kept.ended k.kept.views a.few_views;
      columns = went.columns ∙ k.kept.columns;
      kept = record {
        turns = k.kept.turns ++ Refused refusal ∷ [];
        happens = leads_turn (store_of s h) k.m t k.kept.past k.kept.turns (Refused refusal) went.note k.kept.leads went.happens;
        commits = k.kept.commits;
        views = k.kept.views;
        newest = λ close. inr (k.kept.turns, ap (λ (r : Refusal). k.kept.turns ++ Refused r ∷ []) (refused_memory (moment k.kept.past) refusal went.may));
      };
    }

pub keeps_up : (s t : InnerView) (p q : PassView) (h : History) → IsAlone s p h → t.events < greatest_number → KeepsViews Does s p t q → IsKeptUp (store_of s h) t q
keeps_up s t p q h a few (inl (applied, kept)) = elim kept.is_last [
  | inl spent ↦ all_turned s t p q h a few
      (subst (λ (n : ℕ). KeptThen (store_of s h) p.number n [] t q) spent.0 (subst (λ (l : List Entry). KeptThen (store_of s h) p.number applied l t q) spent.1 (has_turned s t p q h applied kept.last a few kept.turned)))
  | inr current ↦ found_current s t p q h applied a few (subst (λ (l : List Entry). KeptThen (store_of s h) p.number applied l t q) current.1 (has_turned s t p q h applied kept.last a few kept.turned))
]
keeps_up s t p q h a few (inr (refusal, stopped)) = was_stopped s t p q h stopped.applied refusal a few (has_turned s t p q h stopped.applied (turn p.number (Refused refusal) ∷ []) a few stopped.turned)

-- What a walk gives are the first pairs of the tree, and what a scan takes is what a walk gives.
use Rattle.std.proofs.Common.{ℕ, ◌<◌, ◌≤◌, ◌⊎◌, inl, inr, List, [], ◌∷◌, ◌++◌, length, sym, ap, subst, ◌∙◌, arith}
use Rattle.mt_types.specs.declared.row.Row.{Row}
use Rattle.mt_slice.specs.Place.{Place, Precedes}
use Rattle.mt_slice.proofs.PlaceOrder.{never, precedes_again, three}
use Rattle.mt_chart.specs.Tree.{Arena, Among, first, later, Has}
use Rattle.mt_chart.specs.Scan.{AtMost, Pair, Rising, UpTo, Listed, AnswersRange, Scanned}
use Rattle.mt_chart.proofs.Entries.{among_cases, among_append}
use Rattle.mt_walk.specs.Walk.{WalkAt, from, behind, ToCome, NoneToCome, IsNextPair, GivesAll, IsEnough, HasGiven}

-- what is after a key that is to come is to come
comes_later : (at : WalkAt) (one other : Place) → ToCome at one → Precedes one other → ToCome at other
comes_later (from start) one other (inl e) more = inr (subst (λ (x : Place). Precedes x other) (sym e) more)
comes_later (from start) one other (inr less) more = inr (precedes_again start one other less more)
comes_later (behind given) one other less more = precedes_again given one other less more

not_after : (one other : Place) → Precedes one other → AtMost other one → ⊥
not_after one other less (inl e) = never one (subst (λ (x : Place). Precedes one x) e less)
not_after one other less (inr more) = never one (precedes_again one other one less more)

module _ (arena : Arena) where
  abbrev pub HasOne : Place → Type 0
  HasOne key = (row : Row) × Has arena key row

  pub all_come : (at then : WalkAt) (pairs : List (Pair Row)) → GivesAll arena at pairs then → (pair : Pair Row) → Among pair pairs → ToCome at pair.key
  all_come at then [] gives pair i = elim i [ ]
  all_come at then (p ∷ ps) (next, rest) pair i = elim (among_cases pair p ps i) [
    | inl e ↦ subst (λ (x : Pair Row). ToCome at x.key) (sym e) next.comes
    | inr more ↦ comes_later at p.key pair.key next.comes (all_come (behind p.key) then ps rest pair more)
  ]

  pub all_rise : (at then : WalkAt) (pairs : List (Pair Row)) → GivesAll arena at pairs then → Rising pairs
  all_rise at then [] gives = tt
  all_rise at then (p ∷ ps) (next, rest) = ((λ other i. all_come (behind p.key) then ps rest other i), all_rise (behind p.key) then ps rest)

  pub all_had : (at then : WalkAt) (pairs : List (Pair Row)) → GivesAll arena at pairs then → (pair : Pair Row) → Among pair pairs → Has arena pair.key pair.value
  all_had at then [] gives pair i = elim i [ ]
  all_had at then (p ∷ ps) (next, rest) pair i = elim (among_cases pair p ps i) [
    | inl e ↦ subst (λ (x : Pair Row). Has arena x.key x.value) (sym e) next.has
    | inr more ↦ all_had (behind p.key) then ps rest pair more
  ]

  -- each key that has a row and was to come, and isn't to come any more or isn't after the last, was given
  pub all_given : (at then : WalkAt) (pairs : List (Pair Row)) → GivesAll arena at pairs then → (key : Place) (row : Row) → Has arena key row → ToCome at key
      → (ToCome then key → ⊥) ⊎ UpTo key pairs → Listed key pairs
  all_given at then [] gives key row has comes (inl gone) = absurd (gone (subst (λ (x : WalkAt). ToCome x key) (sym gives) comes))
  all_given at then [] gives key row has comes (inr (pair, i, most)) = elim i [ ]
  all_given at then (p ∷ ps) (next, rest) key row has comes until = elim (next.least key row has comes) [
    | inl same ↦ (p, first, same)
    | inr less ↦ (let (pair, i, is) = all_given (behind p.key) then ps rest key row has less (still less until) in (pair, later i, is))
  ]
    where
      still : Precedes p.key key → (ToCome then key → ⊥) ⊎ UpTo key (p ∷ ps) → (ToCome then key → ⊥) ⊎ UpTo key ps
      still less (inl gone) = inl gone
      still less (inr (pair, i, most)) = elim (among_cases pair p ps i) [
        | inl e ↦ absurd (not_after p.key key less (subst (λ (x : Pair Row). AtMost key x.key) e most))
        | inr more ↦ inr (pair, more, most)
      ]

  -- ---- A RANGE IS A WALK WITH A LIMIT
  pub walk_answers : (start : Place) (limit : ℕ) (pairs : List (Pair Row)) (then : WalkAt) → GivesAll arena (from start) pairs then → length pairs ≤ limit → IsEnough arena limit pairs then
      → AnswersRange (λ key row. Has arena key row) HasOne start limit pairs
  walk_answers start limit pairs then gives few enough = record {
    rises = all_rise (from start) then pairs gives;
    from_start = λ pair i. all_come (from start) then pairs gives pair i;
    few = few;
    shown = λ pair i. all_had (from start) then pairs gives pair i;
    complete = λ key most had until. all_given (from start) then pairs gives key had.0 had.1 most (ended key had until enough);
  }
    where
      ended : (key : Place) → HasOne key → (length pairs < limit) ⊎ UpTo key pairs → IsEnough arena limit pairs then → (ToCome then key → ⊥) ⊎ UpTo key pairs
      ended key had (inr up) enough = inr up
      ended key had (inl less) (inl full) = absurd (omega (arith, less, full))
      ended key had (inl less) (inr none) = inl (λ comes. none key had.0 had.1 comes)

-- ---- WHAT A SCAN TAKES IS WHAT A WALK GIVES: the laws of the scan suffice
rising_before : (xs : List (Pair Row)) (p : Pair Row) → Rising (xs ++ p ∷ []) → (q : Pair Row) → Among q xs → Precedes q.key p.key
rising_before [] p rises q i = elim i [ ]
rising_before (x ∷ xs) p rises q i = elim (among_cases q x xs i) [
  | inl e ↦ subst (λ (z : Pair Row). Precedes z.key p.key) (sym e) (rises.0 p ((among_append p xs (p ∷ [])).1 (inr first)))
  | inr more ↦ rising_before xs p rises.1 q more
]

-- no key that was given, nor one before, is to come
given_past : (start : Place) (given : List (Pair Row)) (at : WalkAt) → Rising given → HasGiven start given at → (q : Pair Row) → Among q given → ToCome at q.key → ⊥
given_past start given at rises (inl (none, is)) q i comes = elim (subst (λ (l : List (Pair Row)). Among q l) none i) [ ]
given_past start given at rises (inr (before, p, all, is)) q i comes =
    let less : Precedes p.key q.key = subst (λ (x : WalkAt). ToCome x q.key) is comes in
    elim ((among_append q before (p ∷ [])).0 (subst (λ (l : List (Pair Row)). Among q l) all i)) [
      | inl old ↦ never q.key (precedes_again q.key p.key q.key (rising_before before p (subst Rising all rises) q old) less)
      | inr new ↦ elim (among_cases q p [] new) [
        | inl e ↦ never p.key (subst (λ (z : Pair Row). Precedes p.key z.key) e less)
        | inr more ↦ elim more [ ]
      ]
    ]

module _ (arena : Arena) (start : Place) (limit : ℕ) (given : List (Pair Row)) (at : WalkAt) (at_is : HasGiven start given at) where
  -- what is to come is at or after its start
  from_on : ((pair : Pair Row) → Among pair given → AtMost start pair.key) → (key : Place) → ToCome at key → AtMost start key
  from_on after key comes = go at_is
    where
      go : HasGiven start given at → AtMost start key
      go (inl (none, is)) = subst (λ (x : WalkAt). ToCome x key) is comes
      go (inr (before, p, all, is)) =
          let less : Precedes p.key key = subst (λ (x : WalkAt). ToCome x key) is comes in
          comes_later (from start) p.key key (after p (subst (λ (l : List (Pair Row)). Among p l) (sym all) ((among_append p before (p ∷ [])).1 (inr first)))) less

  pub scan_gives : (cursor : Place) (pair : Pair Row) → Rising given → ((p : Pair Row) → Among p given → AtMost start p.key)
      → Scanned (λ key row. Has arena key row) (λ key. (row : Row) × Has arena key row) start limit cursor (given ++ pair ∷ []) → IsNextPair arena at pair
  scan_gives cursor pair rises after scanned = record {
    has = scanned.shown pair here;
    comes = go at_is;
    least = λ key row has comes. elim (three pair.key key) [
      | inl less ↦ inr less
      | inr other ↦ elim other [ inl same ↦ inl same | inr before ↦ absurd (missed key row has comes before) ]
    ];
  }
    where
      here : Among pair (given ++ pair ∷ [])
      here = (among_append pair given (pair ∷ [])).1 (inr first)

      go : HasGiven start given at → ToCome at pair.key
      go (inl (none, is)) = subst (λ (x : WalkAt). ToCome x pair.key) (sym is) (scanned.from_start pair here)
      go (inr (before, p, all, is)) = subst (λ (x : WalkAt). ToCome x pair.key) (sym is)
          (rising_before given pair scanned.rises p (subst (λ (l : List (Pair Row)). Among p l) (sym all) ((among_append p before (p ∷ [])).1 (inr first))))

      missed : (key : Place) (row : Row) → Has arena key row → ToCome at key → Precedes key pair.key → ⊥
      missed key row has comes before =
          let (q, i, is) = scanned.covered key (from_on after key comes) (inr (pair, here, inr before)) (row, has) in
          elim ((among_append q given (pair ∷ [])).0 i) [
            | inl old ↦ given_past start given at rises at_is q old (subst (λ (x : Place). ToCome at x) (sym is) comes)
            | inr new ↦ elim (among_cases q pair [] new) [
              | inl e ↦ never key (subst (λ (x : Place). Precedes key x) (sym (ap (λ (z : Pair Row). z.key) e) ∙ is) before)
              | inr more ↦ elim more [ ]
            ]
          ]

  -- and where the scan is at its end before its limit, no more is to come
  pub scan_ends : AnswersRange (λ key row. Has arena key row) (λ key. (row : Row) × Has arena key row) start limit given → length given < limit → NoneToCome arena at
  scan_ends answers less = λ key row has comes.
      let (q, i, is) = answers.complete key (from_on answers.from_start key comes) (row, has) (inl less) in
      given_past start given at answers.rises at_is q i (subst (λ (x : Place). ToCome at x) (sym is) comes)

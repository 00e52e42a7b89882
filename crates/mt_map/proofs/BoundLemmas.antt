-- Walks within bounds: the order of keys, where such a walk begins, and what it returns next.
use Rattle.std.proofs.Common.{ℕ, ◌≡◌, ◌⊎◌, ◌↔◌, inl, inr, List, [], ◌∷◌, ◌++◌, Bool, true, false, refl, sym, ap, subst, ◌∙◌, arith}
use Rattle.std.specs.Prelude.{Option, Some, None, Result, Ok, Err, IfOk, IsOk, is_ok, IsTrue, IsSome, IfSome, IsSomeAnd, MatchOption}
use Rattle.std.specs.FinMap.{get}
use Rattle.std.specs.Ordering.{is_le, is_lt}
use Rattle.std.specs.declared.cmp.Ordering.{Ordering}
use Rattle.std.specs.declared.cmp.Ordering.TheVariants.{Less, Equal, Greater}
use Rattle.std.specs.declared.ops.Bound.{Bound}
use Rattle.std.specs.declared.ops.Bound.TheVariants.{Included, Excluded, Unbounded}
use Rattle.std.proofs.lemmas.Bool.{false≢true}
use Rattle.mt_types.specs.Keys.{key_cmp}
use Rattle.mt_types.specs.Rows.{Rows}
use Rattle.mt_types.specs.declared.refusal.Refusal.{Refusal}
use Rattle.mt_types.specs.declared.refusal.Refusal.TheVariants.{NoMemory}
use Rattle.mt_types.specs.declared.row.Row.{Row}
use Rattle.mt_promise.specs.History.{History, moment, rows}
use Rattle.mt_slice.proofs.KeyOrder.{KeyLess, key_three, cmp_less, cmp_greater, cmp_equal}
use Rattle.mt_asked.specs.Bounds.{is_from, is_up_to}
use Rattle.mt_index.specs.Stands.{MachineView, Stands}
use Rattle.mt_reads.specs.Back.{IsBefore, GivesPrevious}
use Rattle.mt_reads.proofs.RangeBackLemmas.{key_same}
use Rattle.mt_map.specs.Bounded.{BeginsFrom, BeginsUpTo, GivesWithin, GivesWithinBack}
use Rattle.mt_reads.specs.Walks.{At, IsAfter, IsToCome, GivesNext, RowsView}
use Rattle.mt_reads.proofs.WalkLemmas.{less_back}

-- ---- the order of keys
less_on : (a b c : List ℕ) → KeyLess a b → KeyLess b c → KeyLess a c
less_on a b [] less more = elim more [ ]
less_on a [] (z ∷ c) less more = elim less [ ]
less_on [] (y ∷ b) (z ∷ c) less more = tt
less_on (x ∷ a) (y ∷ b) (z ∷ c) (inl less) (inl more) = inl (omega (arith, less, more))
less_on (x ∷ a) (y ∷ b) (z ∷ c) (inl less) (inr more) = let same = more.0 in inl (omega (arith, less, same))
less_on (x ∷ a) (y ∷ b) (z ∷ c) (inr less) (inl more) = let same = less.0 in inl (omega (arith, more, same))
less_on (x ∷ a) (y ∷ b) (z ∷ c) (inr less) (inr more) = inr (less.0 ∙ more.0, less_on a b c less.1 more.1)

lt_less : (o : Ordering) → is_lt o ≡ true → o ≡ Less
lt_less Less is = refl
lt_less Equal is = absurd (false≢true is)
lt_less Greater is = absurd (false≢true is)

-- ---- after a key that is after the end
past : (last new key : List ℕ) → KeyLess last new → IsAfter new false key → KeyLess last key
past last new key less (inl same) = subst (KeyLess last) same less
past last new key less (inr more) = less_on last new key less (less_back new key more)

pub past_end : (end : Bound (List ℕ)) (new key : List ℕ) → is_up_to end new ≡ false → IsAfter new false key → is_up_to end key ≡ false
past_end (Included last) new key out after = go (key_three new last)
  where
    go : KeyLess new last ⊎ ((new ≡ last) ⊎ KeyLess last new) → is_le (key_cmp key last) ≡ false
    go (inl less) = absurd (false≢true (sym out ∙ ap is_le (cmp_less new last less)))
    go (inr (inl same)) = absurd (false≢true (sym out ∙ ap is_le (ap (key_cmp new) (sym same) ∙ cmp_equal new)))
    go (inr (inr more)) = ap is_le (cmp_greater key last (past last new key more after))
past_end (Excluded bound) new key out after = go (key_three new bound) after
  where
    go : KeyLess new bound ⊎ ((new ≡ bound) ⊎ KeyLess bound new) → IsAfter new false key → is_lt (key_cmp key bound) ≡ false
    go (inl less) comes = absurd (false≢true (sym out ∙ ap is_lt (cmp_less new bound less)))
    go (inr (inl same)) (inl is) = ap is_lt (ap (key_cmp key) (sym same ∙ is) ∙ cmp_equal key)
    go (inr (inl same)) (inr less) = ap is_lt (cmp_greater key bound (subst (λ (k : List ℕ). KeyLess k key) same (less_back new key less)))
    go (inr (inr more)) comes = ap is_lt (cmp_greater key bound (past bound new key more comes))
past_end Unbounded new key out after = absurd (false≢true (sym out))

-- ---- the begin of a walk within bounds
pub begins_included : (map : Rows) (start : List ℕ) → BeginsFrom map (Included start) (record { key = start; given = false })
begins_included map start key row has = (there, back (key_three start key))
  where
    there : IsAfter start false key → is_le (key_cmp start key) ≡ true
    there (inl same) = ap is_le (ap (key_cmp start) (sym same) ∙ cmp_equal start)
    there (inr less) = ap is_le less

    back : KeyLess start key ⊎ ((start ≡ key) ⊎ KeyLess key start) → is_le (key_cmp start key) ≡ true → IsAfter start false key
    back (inl less) is = inr (cmp_less start key less)
    back (inr (inl same)) is = inl same
    back (inr (inr more)) is = absurd (false≢true (sym (ap is_le (cmp_greater start key more)) ∙ is))

pub begins_least : (map : Rows) → BeginsFrom map Unbounded (record { key = []; given = false })
begins_least map key row has = ((λ comes. refl), (λ is. any key))
  where
    any : (k : List ℕ) → IsAfter [] false k
    any [] = inl refl
    any (byte ∷ k) = inr refl

behind_key : (map : Rows) (start : List ℕ) → BeginsFrom map (Excluded start) (record { key = start; given = true })
behind_key map start key row has = ((λ less. ap is_lt less), lt_less (key_cmp start key))

-- if the key has no row, all that is to come from it on is after it
pub begins_absent : (map : Rows) (start : List ℕ) → (IsSome (get map start) → ⊥) → BeginsFrom map (Excluded start) (record { key = start; given = false })
begins_absent map start none key row has = (there, λ is. inr (lt_less (key_cmp start key) is))
  where
    there : IsAfter start false key → is_lt (key_cmp start key) ≡ true
    there (inl same) = absurd (none (subst (λ (f : Option Row). IsSome f) (sym (ap (get map) same ∙ has)) refl))
    there (inr less) = ap is_lt less

-- if it has one, the walk returns that first, and is then after it
pub begins_behind : (map : Rows) (start : List ℕ) (found : Option Row) (new : At) → IsSome (get map start) → GivesNext map (record { key = start; given = false }) found new → BeginsFrom map (Excluded start) new
begins_behind map start found new there gives = go (get map start) refl there found gives
  where
    same_key : (k : List ℕ) → IsAfter start false k → IsAfter k false start → k ≡ start
    same_key k (inl same) back = sym same
    same_key k (inr less) (inl same) = same
    same_key k (inr less) (inr more) = absurd (false≢true (sym (ap is_lt (cmp_greater k start (less_back start k less))) ∙ ap is_lt more))

    go : (had : Option Row) → get map start ≡ had → IsSome had → (row : Option Row) → GivesNext map (record { key = start; given = false }) row new → BeginsFrom map (Excluded start) new
    go None is some row next = absurd (false≢true some)
    go (Some own) is some None next = absurd (next.1 start own is (inl refl))
    go (Some own) is some (Some row) (given, has, comes, least) =
        subst (λ (b : Bool). BeginsFrom map (Excluded start) (record { key = new.key; given = b })) (sym given)
        (subst (λ (k : List ℕ). BeginsFrom map (Excluded start) (record { key = k; given = true })) (sym (same_key new.key comes (least start own is (inl refl)))) (behind_key map start))

-- the same of a machine, at each history at which it is
ok_on : {A E : Type 0} (P Q : A → Type 0) → ((a : A) → P a → Q a) → (r : Result A E) → IfOk r P → IfOk r Q
ok_on P Q f (Ok a) p = f a p
ok_on P Q f (Err e) p = tt

module _ (s : MachineView) where
  pub walks_from : (start : List ℕ) (walk : Result RowsView Refusal) → IfOk walk (λ (w : RowsView). w.at ≡ record { key = start; given = false })
      → IfOk walk (λ (w : RowsView). (h : History) → Stands s h → BeginsFrom (rows s.columns (moment h)) (Included start) w.at)
  walks_from start walk begins =
      ok_on (λ (w : RowsView). w.at ≡ record { key = start; given = false }) (λ (w : RowsView). (h : History) → Stands s h → BeginsFrom (rows s.columns (moment h)) (Included start) w.at)
      (λ w is h stands. subst (λ (a : At). BeginsFrom (rows s.columns (moment h)) (Included start) a) (sym is) (begins_included (rows s.columns (moment h)) start)) walk begins

  pub walks_all : (start : List ℕ) (walk : Result RowsView Refusal) → start ≡ [] → IfOk walk (λ (w : RowsView). w.at ≡ record { key = start; given = false })
      → IfOk walk (λ (w : RowsView). (h : History) → Stands s h → BeginsFrom (rows s.columns (moment h)) Unbounded w.at)
  walks_all start walk empty begins =
      ok_on (λ (w : RowsView). w.at ≡ record { key = start; given = false }) (λ (w : RowsView). (h : History) → Stands s h → BeginsFrom (rows s.columns (moment h)) Unbounded w.at)
      (λ w is h stands. subst (λ (a : At). BeginsFrom (rows s.columns (moment h)) Unbounded a) (sym (is ∙ ap (λ (k : List ℕ). record { key = k; given = false }) empty)) (begins_least (rows s.columns (moment h)))) walk begins

  pub after_absent : (key : List ℕ) (there : Bool) (at : At) → there ≡ false → at ≡ record { key = key; given = false }
      → ((h : History) → Stands s h → IsTrue there ↔ IsSome (get (rows s.columns (moment h)) key)) → (h : History) → Stands s h → BeginsFrom (rows s.columns (moment h)) (Excluded key) at
  after_absent key there at none begins told h stands =
      subst (λ (a : At). BeginsFrom (rows s.columns (moment h)) (Excluded key) a) (sym begins)
      (begins_absent (rows s.columns (moment h)) key (λ some. absurd (false≢true (sym none ∙ (told h stands).1 some))))

  pub after_present : (m : MachineView) (key : List ℕ) (there : Bool) (at new : At) (found : Option Row) → there ≡ true → at ≡ record { key = key; given = false } → m ≡ s
      → ((h : History) → Stands s h → IsTrue there ↔ IsSome (get (rows s.columns (moment h)) key))
      → ((h : History) → Stands m h → GivesNext (rows m.columns (moment h)) at found new) → (h : History) → Stands s h → BeginsFrom (rows s.columns (moment h)) (Excluded key) new
  after_present m key there at new found some begins same told gives h stands =
      begins_behind (rows s.columns (moment h)) key found new ((told h stands).0 some)
      (subst (λ (a : At). GivesNext (rows s.columns (moment h)) a found new) begins
      (subst (λ (v : MachineView). (h : History) → Stands v h → GivesNext (rows v.columns (moment h)) at found new) same gives h stands))

-- ---- what refuses it
pub fault_stays : {T : Type 0} (U : Type 0) (fault : Option Refusal) (failed : Result T Refusal) (refusal : Refusal) → failed ≡ Err refusal → MatchOption fault (IsOk failed) (λ (due : Refusal). failed ≡ Err due)
    → MatchOption fault (refusal ≡ NoMemory) (λ (due : Refusal). ◌≡◌ {A = Result U Refusal} (Err refusal) (Err due))
fault_stays U None failed refusal is ok = absurd (false≢true (sym (ap is_ok is) ∙ ok))
fault_stays {T} U (Some due) failed refusal is same = ap (λ (r : Refusal). Err r) (let e : ◌≡◌ {A = Result T Refusal} (Err refusal) (Err due) = sym is ∙ same in let f : refusal ≡ due = cc in f)

pub none_stays : {T : Type 0} (fault : Option Refusal) (one other : T) → MatchOption fault (Unit {0}) (λ (due : Refusal). ◌≡◌ {A = Result T Refusal} (Ok one) (Err due))
    → MatchOption fault (Unit {0}) (λ (due : Refusal). ◌≡◌ {A = Result T Refusal} (Ok other) (Err due))
none_stays None one other within = tt
none_stays {T} (Some due) one other clash = absurd (let e : ◌≡◌ {A = Result T Refusal} (Ok one) (Err due) = clash in cc)

pub short_stays : {T : Type 0} (fault : Option Refusal) (one : T) (refusal : Refusal) → refusal ≡ NoMemory → MatchOption fault (Unit {0}) (λ (due : Refusal). ◌≡◌ {A = Result T Refusal} (Ok one) (Err due))
    → MatchOption fault (refusal ≡ NoMemory) (λ (due : Refusal). ◌≡◌ {A = Result T Refusal} (Err refusal) (Err due))
short_stays None one refusal short within = short
short_stays {T} (Some due) one refusal short clash = absurd (let e : ◌≡◌ {A = Result T Refusal} (Ok one) (Err due) = clash in cc)

-- ---- what it returns next
pub gives_within : (end : Bound (List ℕ)) (map : Rows) (at : At) (row : Row) (new : At) → GivesNext map at (Some row) new → is_up_to end new.key ≡ true → GivesWithin end map at (Some row) new
gives_within end map at row new next is = (next, is)

pub gives_past : (end : Bound (List ℕ)) (map : Rows) (at : At) (row : Row) (new : At) → GivesNext map at (Some row) new → is_up_to end new.key ≡ false → GivesWithin end map at None new
gives_past end map at row new (given, has, comes, least) out key other there (inl before) = past_end end new.key key out (least key other there before)
gives_past end map at row new (given, has, comes, least) out key other there (inr later) =
    past_end end new.key key out (inr (subst (λ (b : Bool). IsAfter new.key b key) given later))

pub gives_none : (end : Bound (List ℕ)) (map : Rows) (at new : At) → GivesNext map at None new → GivesWithin end map at None new
gives_none end map at new (same, none) key row there (inl before) = absurd (none key row there before)
gives_none end map at new (same, none) key row there (inr later) = absurd (none key row there (subst (λ (a : At). IsToCome a key) same later))

module _ (end : Bound (List ℕ)) (s : MachineView) (at new : At) (found : Option Row) where
  pub next_none : found ≡ None → ((h : History) → Stands s h → GivesNext (rows s.columns (moment h)) at found new) → (h : History) → Stands s h → GivesWithin end (rows s.columns (moment h)) at None new
  next_none is gives h stands =
      gives_none end (rows s.columns (moment h)) at new (subst (λ (f : Option Row). GivesNext (rows s.columns (moment h)) at f new) is (gives h stands))

  pub next_some : (row : Row) (key : List ℕ) → found ≡ Some row → key ≡ new.key → is_up_to end key ≡ true → ((h : History) → Stands s h → GivesNext (rows s.columns (moment h)) at found new)
      → (h : History) → Stands s h → GivesWithin end (rows s.columns (moment h)) at (Some row) new
  next_some row key is same within gives h stands =
      gives_within end (rows s.columns (moment h)) at row new (subst (λ (f : Option Row). GivesNext (rows s.columns (moment h)) at f new) is (gives h stands)) (ap (is_up_to end) (sym same) ∙ within)

  pub next_past : (row : Row) (key : List ℕ) → found ≡ Some row → key ≡ new.key → is_up_to end key ≡ false → ((h : History) → Stands s h → GivesNext (rows s.columns (moment h)) at found new)
      → (h : History) → Stands s h → GivesWithin end (rows s.columns (moment h)) at None new
  next_past row key is same out gives h stands =
      gives_past end (rows s.columns (moment h)) at row new (subst (λ (f : Option Row). GivesNext (rows s.columns (moment h)) at f new) is (gives h stands)) (ap (is_up_to end) (sym same) ∙ out)

-- ---- the key after a key: with a zero more
less_next : (key end : List ℕ) → KeyLess key (end ++ 0 ∷ []) → KeyLess key end ⊎ (key ≡ end)
less_next [] [] less = inr refl
less_next (x ∷ key) [] (inl less) = absurd (omega (arith, less))
less_next (x ∷ key) [] (inr (same, less)) = elim less [ ]
less_next [] (y ∷ end) less = inl tt
less_next (x ∷ key) (y ∷ end) (inl less) = inl (inl less)
less_next (x ∷ key) (y ∷ end) (inr (same, less)) = elim (less_next key end less) [
  | inl before ↦ inl (inr (same, before))
  | inr is ↦ inr (ap (λ (b : ℕ). b ∷ key) same ∙ ap (λ (k : List ℕ). y ∷ k) is)
]

less_longer : (key end : List ℕ) → KeyLess key end → KeyLess key (end ++ 0 ∷ [])
less_longer key [] less = elim less [ ]
less_longer [] (y ∷ end) less = tt
less_longer (x ∷ key) (y ∷ end) (inl less) = inl less
less_longer (x ∷ key) (y ∷ end) (inr (same, less)) = inr (same, less_longer key end less)

itself_longer : (end : List ℕ) → KeyLess end (end ++ 0 ∷ [])
itself_longer [] = tt
itself_longer (y ∷ end) = inr (refl, itself_longer end)

-- ---- where a walk back within bounds begins
up_to : (key last : List ℕ) → key_cmp key (last ++ 0 ∷ []) ≡ Less → is_le (key_cmp key last) ≡ true
up_to key last less = elim (less_next key last (less_back key (last ++ 0 ∷ []) less)) [
  | inl before ↦ ap is_le (cmp_less key last before)
  | inr same ↦ ap is_le (ap (key_cmp key) (sym same) ∙ cmp_equal key)
]

below_next : (key last : List ℕ) → is_le (key_cmp key last) ≡ true → key_cmp key (last ++ 0 ∷ []) ≡ Less
below_next key last le = go (key_three key last)
  where
    go : KeyLess key last ⊎ ((key ≡ last) ⊎ KeyLess last key) → key_cmp key (last ++ 0 ∷ []) ≡ Less
    go (inl less) = cmp_less key (last ++ 0 ∷ []) (less_longer key last less)
    go (inr (inl same)) = cmp_less key (last ++ 0 ∷ []) (subst (λ (k : List ℕ). KeyLess k (last ++ 0 ∷ [])) (sym same) (itself_longer last))
    go (inr (inr more)) = absurd (false≢true (sym (ap is_le (cmp_greater key last more)) ∙ le))

pub included_end : (last bytes : List ℕ) (before : Option (List ℕ)) → bytes ≡ last ++ 0 ∷ [] → before ≡ Some bytes → BeginsUpTo (Included last) before
included_end last bytes before is at = subst (BeginsUpTo (Included last)) (sym (at ∙ ap (λ (b : List ℕ). Some b) is)) (λ key. (up_to key last, below_next key last))

pub excluded_end : (bound : List ℕ) (before : Option (List ℕ)) → before ≡ Some bound → BeginsUpTo (Excluded bound) before
excluded_end bound before at = subst (BeginsUpTo (Excluded bound)) (sym at) (λ key. ((λ less. ap is_lt less), (λ lt. lt_less (key_cmp key bound) lt)))

pub unbounded_end : (before : Option (List ℕ)) → before ≡ None → BeginsUpTo Unbounded before
unbounded_end before at = subst (BeginsUpTo Unbounded) (sym at) (λ key. ((λ any. refl), (λ any. tt)))

-- ---- before a key that is before the start
pub before_start : (start : Bound (List ℕ)) (new key : List ℕ) → is_from start new ≡ false → IsAfter key false new → is_from start key ≡ false
before_start (Included first) new key out after = go (key_three first key)
  where
    go : KeyLess first key ⊎ ((first ≡ key) ⊎ KeyLess key first) → is_le (key_cmp first key) ≡ false
    go (inl less) = absurd (false≢true (sym out ∙ ap is_le (cmp_less first new (past first key new less after))))
    go (inr (inl same)) = absurd (false≢true (sym out ∙ from_same after))
      where
        from_same : IsAfter key false new → is_le (key_cmp first new) ≡ true
        from_same (inl is) = ap is_le (ap (key_cmp first) (sym (same ∙ is)) ∙ cmp_equal first)
        from_same (inr more) = ap is_le (cmp_less first new (subst (λ (k : List ℕ). KeyLess k new) (sym same) (less_back key new more)))
    go (inr (inr more)) = ap is_le (cmp_greater first key more)
before_start (Excluded bound) new key out after = go (key_three bound key)
  where
    go : KeyLess bound key ⊎ ((bound ≡ key) ⊎ KeyLess key bound) → is_lt (key_cmp bound key) ≡ false
    go (inl less) = absurd (false≢true (sym out ∙ ap is_lt (cmp_less bound new (past bound key new less after))))
    go (inr (inl same)) = ap is_lt (ap (key_cmp bound) (sym same) ∙ cmp_equal bound)
    go (inr (inr more)) = ap is_lt (cmp_greater bound key more)
before_start Unbounded new key out after = absurd (false≢true (sym out))

-- ---- the previous row within bounds
module _ (start : Bound (List ℕ)) (s : MachineView) (before new : Option (List ℕ)) where
  abbrev Previous : Option Row → Type 0
  Previous found = (h : History) → Stands s h → GivesPrevious (rows s.columns (moment h)) before found new

  abbrev Within : Option Row → Type 0
  Within found = (h : History) → Stands s h → GivesWithinBack start (rows s.columns (moment h)) before found new

  pub previous_none : (found : Option Row) → found ≡ None → Previous found → Within None
  previous_none found is gives h stands key row there comes = elim comes [
    | inl below ↦ absurd (none.1 key row there below)
    | inr below ↦ absurd (none.1 key row there (subst (λ (b : Option (List ℕ)). IsBefore b key) none.0 below))
  ]
    where
      none : GivesPrevious (rows s.columns (moment h)) before None new
      none = subst (λ (f : Option Row). GivesPrevious (rows s.columns (moment h)) before f new) is (gives h stands)

  pub previous_some : (found : Option Row) (row : Row) (key : List ℕ) → found ≡ Some row → IfSome new (λ x. key ≡ x) → is_from start key ≡ true → Previous found → Within (Some row)
  previous_some found row key is spells from gives h stands = go (subst (λ (f : Option Row). GivesPrevious (rows s.columns (moment h)) before f new) is (gives h stands))
    where
      go : GivesPrevious (rows s.columns (moment h)) before (Some row) new → GivesWithinBack start (rows s.columns (moment h)) before (Some row) new
      go (k, bound, previous) = (
        (k, bound, previous),
        subst (λ (b : Option (List ℕ)). IsSomeAnd b (λ x. is_from start x ≡ true)) (sym bound) (subst (λ (x : List ℕ). is_from start x ≡ true) (key_same new key k bound spells) from),
      )

  pub previous_past : (found : Option Row) (row : Row) (key : List ℕ) → found ≡ Some row → IfSome new (λ x. key ≡ x) → is_from start key ≡ false → Previous found → Within None
  previous_past found row key is spells out gives h stands other its there comes =
      go (subst (λ (f : Option Row). GivesPrevious (rows s.columns (moment h)) before f new) is (gives h stands)) comes
    where
      go : GivesPrevious (rows s.columns (moment h)) before (Some row) new → IsBefore before other ⊎ IsBefore new other → is_from start other ≡ false
      go (k, bound, (has, within, greatest)) (inl below) =
          before_start start k other (subst (λ (x : List ℕ). is_from start x ≡ false) (key_same new key k bound spells) out) (greatest other its there below)
      go (k, bound, (has, within, greatest)) (inr below) =
          before_start start k other (subst (λ (x : List ℕ). is_from start x ≡ false) (key_same new key k bound spells) out) (inr (subst (λ (b : Option (List ℕ)). IsBefore b other) bound below))

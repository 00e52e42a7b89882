-- Rows that are read from a key on and before a bound, and returned from the last on.
use Rattle.std.proofs.Common.{ℕ, ◌≡◌, ◌<◌, ◌≤◌, ◌+◌, ◌⊎◌, inl, inr, Bool, true, false, List, [], ◌∷◌, ◌++◌, length, take, drop, refl, sym, ap, subst, ◌∙◌, arith}
use Rattle.std.specs.Prelude.{Option, Some, None}
use Rattle.std.proofs.lemmas.List.{drop_at, take_at, length-append, same_from_push}
use Rattle.std.proofs.lemmas.Bool.{true≢false}
use Rattle.std.specs.Borrow.{Bor}
use Rattle.std.specs.FinMap.{get}
use Rattle.std.specs.declared.cmp.Ordering.{Ordering}
use Rattle.std.specs.declared.cmp.Ordering.TheVariants.{Less, Equal}
use Rattle.mt_types.specs.Keys.{key_cmp}
use Rattle.mt_types.specs.Rows.{Rows}
use Rattle.mt_types.specs.declared.limits.TheConstants.{MAX_KEY_BYTES}
use Rattle.mt_types.specs.declared.row.Row.{Row}
use Rattle.mt_promise.specs.History.{History, moment, rows}
use Rattle.mt_slice.specs.Place.{AreBytes}
use Rattle.mt_slice.proofs.KeyOrder.{KeyLess, key_three, cmp_less, cmp_equal}
use Rattle.mt_index.specs.Stands.{MachineView, Stands}
use Rattle.mt_reads.specs.Walks.{At, IsAfter, IsToCome, GivesNext, RowsView, keys_of, keys_after}
use Rattle.mt_reads.specs.Back.{IsBefore, IsPrevious, GivesPrevious, bound_of, keys_before}
use Rattle.mt_reads.specs.Reading.{Pairs, bytes_of, kept_of, NoneBetween, IsChunk, IsShort, IsBound, AreShort, IsKept, IsReading}
use Rattle.mt_reads.proofs.KeysToCome.{less_than_all, fewer_after}
use Rattle.mt_reads.proofs.Ranges.{key_order}
use Rattle.mt_reads.proofs.WalkLemmas.{less_back}

-- ---- the order of keys
pub before_on : (bound : Option (List ℕ)) (one other : List ℕ) → key_cmp one other ≡ Less → IsBefore bound other → IsBefore bound one
before_on None one other less before = tt
before_on (Some end) one other less before = key_order.trans one other end less before

pub not_itself : (key : List ℕ) → key_cmp key key ≡ Less → ⊥
not_itself key less = let clash : ◌≡◌ {A = Ordering} Equal Less = sym (cmp_equal key) ∙ less in cc

pub three : (one other : List ℕ) → (key_cmp one other ≡ Less) ⊎ IsAfter other false one
three one other = go (key_three one other)
  where
    go : KeyLess one other ⊎ ((one ≡ other) ⊎ KeyLess other one) → (key_cmp one other ≡ Less) ⊎ IsAfter other false one
    go (inl less) = inl (cmp_less one other less)
    go (inr (inl same)) = inr (inl (sym same))
    go (inr (inr more)) = inr (inr (cmp_less other one more))

after_less : (one other more : List ℕ) → IsAfter one false other → key_cmp other more ≡ Less → key_cmp one more ≡ Less
after_less one other more (inl same) less = subst (λ (k : List ℕ). key_cmp k more ≡ Less) (sym same) less
after_less one other more (inr before) less = key_order.trans one other more before less

less_after : (one other more : List ℕ) → key_cmp one other ≡ Less → IsAfter other false more → key_cmp one more ≡ Less
less_after one other more less (inl same) = subst (λ (k : List ℕ). key_cmp one k ≡ Less) same less
less_after one other more less (inr after) = key_order.trans one other more less after

pub not_after : (one other : List ℕ) → IsAfter one false other → key_cmp other one ≡ Less → ⊥
not_after one other after less = not_itself one (after_less one other one after less)

nothing_before : (key : List ℕ) → key_cmp key [] ≡ Less → ⊥
nothing_before key less = elim (less_back key [] less) [ ]

-- ---- a walk has read these rows from a key on
abbrev pub IsRead : Rows → List ℕ → At → Pairs → Type 0
IsRead map start at [] = at ≡ record { key = start; given = false }
IsRead map start at (pair ∷ pairs) =
    (at ≡ record { key = pair.0; given = true }) × (get map pair.0 ≡ Some pair.1.now) × IsAfter start false pair.0
    × IsChunk map (Some start) (Some pair.0) pairs

abbrev FirstBefore : Option (List ℕ) → Pairs → Type 0
FirstBefore end [] = Unit {0}
FirstBefore end (pair ∷ pairs) = IsBefore end pair.0

module _ (map : Rows) (start : List ℕ) where
  at_given : (new : At) → new.given ≡ true → ◌≡◌ {A = At} new (record { key = new.key; given = true })
  at_given new given = ap (λ (g : Bool). record { key = new.key; given = g }) given

  read_goes : (at new : At) (row : Bor Row) (pairs : Pairs) → IsRead map start at pairs → GivesNext map at (Some row.now) new → IsRead map start new ((new.key, row) ∷ pairs)
  read_goes at new row [] begins gives = go (subst (λ (a : At). GivesNext map a (Some row.now) new) begins gives)
    where
      go : GivesNext map (record { key = start; given = false }) (Some row.now) new → IsRead map start new ((new.key, row) ∷ [])
      go (given, there, comes, least) = (
        at_given new given,
        there,
        comes,
        (
          (λ key its has before. elim (three key start) [
            | inl less ↦ less
            | inr from ↦ absurd (not_after new.key key (least key its has from) before)
          ]),
          λ key less. less_after key start new.key less comes,
        ),
      )
  read_goes at new row (pair ∷ pairs) (is, has_row, from, chunk) gives = go (subst (λ (a : At). GivesNext map a (Some row.now) new) is gives)
    where
      go : GivesNext map (record { key = pair.0; given = true }) (Some row.now) new → IsRead map start new ((new.key, row) ∷ pair ∷ pairs)
      go (given, there, comes, least) = (
        at_given new given,
        there,
        inr (after_less start pair.0 new.key from comes),
        (
          (
            has_row,
            comes,
            λ other its has before. elim (three pair.0 other) [
              | inl less ↦ absurd (not_after new.key other (least other its has less) before)
              | inr after ↦ after
            ],
          ),
          chunk,
        ),
      )

  read_ends : (at : At) (end : Option (List ℕ)) (pairs : Pairs) → IsRead map start at pairs → FirstBefore end pairs → IsBefore end start
      → ((key : List ℕ) (row : Row) → get map key ≡ Some row → IsToCome at key → IsBefore end key → ⊥) → IsChunk map (Some start) end pairs
  read_ends at end [] begins first before none = (
    (λ key its has below. elim (three key start) [
      | inl less ↦ less
      | inr from ↦ absurd (none key its has (subst (λ (a : At). IsToCome a key) (sym begins) from) below)
    ]),
    λ key less. before_on end key start less before,
  )
  read_ends at end (pair ∷ pairs) (is, has_row, from, chunk) first before none = (
    (
      has_row,
      first,
      λ other its has below. elim (three pair.0 other) [
        | inl less ↦ absurd (none other its has (subst (λ (a : At). IsToCome a other) (sym is) less) below)
        | inr after ↦ after
      ],
    ),
    chunk,
  )

  -- what comes at the end, or after a key that isn't before it, isn't before it
  pub past_end : (end : Option (List ℕ)) (one other : List ℕ) → (IsBefore end one → ⊥) → IsAfter one false other → IsBefore end other → ⊥
  past_end end one other not (inl same) before = not (subst (IsBefore end) (sym same) before)
  past_end end one other not (inr less) before = not (before_on end one other less before)

  none_comes : (at new : At) (end : Option (List ℕ)) → GivesNext map at None new → (key : List ℕ) (row : Row) → get map key ≡ Some row → IsToCome at key → IsBefore end key → ⊥
  none_comes at new end (same, none) key row has comes before = none key row has comes

  past_comes : (at new : At) (end : Option (List ℕ)) (its : Row) → GivesNext map at (Some its) new → (IsBefore end new.key → ⊥)
      → (key : List ℕ) (row : Row) → get map key ≡ Some row → IsToCome at key → IsBefore end key → ⊥
  past_comes at new end its (given, there, comes, least) not key row has to_come before = past_end end new.key key not (least key row has to_come) before

-- ---- a walk over a machine has read them
module _ (s : MachineView) (start : List ℕ) (end : Option (List ℕ)) where
  pub record IsReadTo (walk : RowsView) (keys : List ℕ) (kept : List (ℕ × Bor Row)) : Type 0 where
    pub machine : walk.machine ≡ s
    pub pairs : Pairs
    pub bytes : keys ≡ bytes_of pairs
    pub begins : kept ≡ kept_of pairs
    pub short : AreShort pairs
    pub first : FirstBefore end pairs
    pub read : (h : History) → Stands s h → IsRead (rows s.columns (moment h)) start walk.at pairs

  pub reading_begins : (walk : RowsView) (keys : List ℕ) (kept : List (ℕ × Bor Row)) → walk.machine ≡ s → walk.at ≡ record { key = start; given = false } → keys ≡ [] → kept ≡ [] → IsReadTo walk keys kept
  reading_begins walk keys kept same begins no_keys no_rows = record {
    machine = same;
    pairs = [];
    bytes = no_keys;
    begins = no_rows;
    short = tt;
    first = tt;
    read = λ h stands. begins;
  }

  module _ (walk new : RowsView) (keys : List ℕ) (kept : List (ℕ × Bor Row)) (r : IsReadTo walk keys kept) where
    at_machine : (found : Option Row) → ((h : History) → Stands walk.machine h → GivesNext (rows walk.machine.columns (moment h)) walk.at found new.at)
        → (h : History) → Stands s h → GivesNext (rows s.columns (moment h)) walk.at found new.at
    at_machine found gives = subst (λ (m : MachineView). (h : History) → Stands m h → GivesNext (rows m.columns (moment h)) walk.at found new.at) r.machine gives

    pub reading_goes : (row : Bor Row) (key more : List ℕ) (then : List (ℕ × Bor Row)) → ((h : History) × Stands s h)
        → ((h : History) → Stands walk.machine h → GivesNext (rows walk.machine.columns (moment h)) walk.at (Some row.now) new.at) → new.machine ≡ walk.machine
        → key ≡ new.at.key → length key ≤ MAX_KEY_BYTES → IsBefore end key → more ≡ keys ++ key → then ≡ kept ++ (length keys, row) ∷ [] → IsReadTo new more then
    reading_goes row key more then (past, stood) gives same key_is fits before more_is then_is = record {
      machine = same ∙ r.machine;
      pairs = (new.at.key, row) ∷ r.pairs;
      bytes = more_is ∙ ap (λ (k : List ℕ). k ++ key) r.bytes ∙ ap (λ (k : List ℕ). bytes_of r.pairs ++ k) key_is;
      begins = then_is ∙ ap (λ (k : List (ℕ × Bor Row)). k ++ (length keys, row) ∷ []) r.begins ∙ ap (λ (k : List ℕ). kept_of r.pairs ++ (length k, row) ∷ []) r.bytes;
      short = ((stood.keys new.at.key row.now (there past stood), subst (λ (k : List ℕ). length k ≤ MAX_KEY_BYTES) key_is fits), r.short);
      first = subst (IsBefore end) key_is before;
      read = λ h stands. read_goes (rows s.columns (moment h)) start walk.at new.at row r.pairs (r.read h stands) (at_machine (Some row.now) gives h stands);
    }
      where
        there : (h : History) → Stands s h → get (rows s.columns (moment h)) new.at.key ≡ Some row.now
        there h stands = (at_machine (Some row.now) gives h stands).1

    ended : IsBefore end start → ((h : History) → Stands s h → (key : List ℕ) (row : Row) → get (rows s.columns (moment h)) key ≡ Some row → IsToCome walk.at key → IsBefore end key → ⊥) → IsKept s keys kept (Some start) end
    ended before none = record {
      pairs = r.pairs;
      bytes = r.bytes;
      begins = r.begins;
      short = r.short;
      chunk = λ h stands. read_ends (rows s.columns (moment h)) start walk.at end r.pairs (r.read h stands) r.first before (none h stands);
    }

    pub reading_ends : IsBefore end start → ((h : History) → Stands walk.machine h → GivesNext (rows walk.machine.columns (moment h)) walk.at None new.at) → IsKept s keys kept (Some start) end
    reading_ends before gives = ended before (λ h stands. none_comes (rows s.columns (moment h)) start walk.at new.at end (at_machine None gives h stands))

    pub reading_stops : (row : Row) (key : List ℕ) → IsBefore end start → ((h : History) → Stands walk.machine h → GivesNext (rows walk.machine.columns (moment h)) walk.at (Some row) new.at)
        → key ≡ new.at.key → (IsBefore end key → ⊥) → IsKept s keys kept (Some start) end
    reading_stops row key before gives key_is not = ended before (λ h stands. past_comes (rows s.columns (moment h)) start walk.at new.at end row (at_machine (Some row) gives h stands) (subst (λ (k : List ℕ). IsBefore end k → ⊥) key_is not))

-- ---- lists with a last element
not_empty : {X : Type 0} (xs : List X) (x : X) → xs ++ x ∷ [] ≡ [] → ⊥
not_empty [] x e = cc
not_empty (y ∷ xs) x e = cc

-- ---- more rows are read, when none that were read are left
no_pairs : (pairs : Pairs) → kept_of pairs ≡ [] → pairs ≡ []
no_pairs [] none = refl
no_pairs (pair ∷ pairs) none = absurd (not_empty (kept_of pairs) (length (bytes_of pairs), pair.1) none)

joins : (map : Rows) (unread before : Option (List ℕ)) (start : List ℕ) (pairs : Pairs) → NoneBetween map unread before → IsChunk map (Some start) unread pairs → IsChunk map (Some start) before pairs
joins map unread before start [] dry chunk = (
  (λ key row has below. chunk.0 key row has (dry.0 key row has below)),
  λ key less. dry.1 key (chunk.1 key less),
)
joins map unread before start (pair ∷ pairs) dry ((has, below, greatest), chunk) =
    ((has, dry.1 pair.0 below, λ other its there before. greatest other its there (dry.0 other its there before)), chunk)

module _ (s : MachineView) (unread before : Option (List ℕ)) (keys : List ℕ) (kept : List (ℕ × Bor Row)) (k : IsKept s keys kept unread before) where
  dry : kept ≡ [] → (h : History) → Stands s h → NoneBetween (rows s.columns (moment h)) unread before
  dry none h stands = subst (IsChunk (rows s.columns (moment h)) unread before) (no_pairs k.pairs (sym k.begins ∙ none)) (k.chunk h stands)

  pub refilled : (start more : List ℕ) (then : List (ℕ × Bor Row)) → kept ≡ [] → IsKept s more then (Some start) unread → IsKept s more then (Some start) before
  refilled start more then none m = record {
    pairs = m.pairs;
    bytes = m.bytes;
    begins = m.begins;
    short = m.short;
    chunk = λ h stands. joins (rows s.columns (moment h)) unread before start m.pairs (dry none h stands) (m.chunk h stands);
  }

  -- ---- no row is left
  pub none_left : kept ≡ [] → unread ≡ Some [] → (h : History) → Stands s h → GivesPrevious (rows s.columns (moment h)) before None before
  none_left none all h stands = (
    refl,
    λ key row has below. nothing_before key (subst (λ (u : Option (List ℕ)). IsBefore u key) all ((dry none h stands).0 key row has below)),
  )

  -- ---- the last row is taken off
  pub record IsTaken (begin : ℕ) (row : Bor Row) (rest : List (ℕ × Bor Row)) : Type 0 where
    pub key : List ℕ
    pub short : IsShort key
    pub is_key : drop begin keys ≡ key
    pub within : begin ≤ length keys
    pub left : IsKept s (take begin keys) rest unread (Some key)
    pub previous : (h : History) → Stands s h → IsPrevious (rows s.columns (moment h)) before key row.now

  pub taken : (begin : ℕ) (row : Bor Row) (rest : List (ℕ × Bor Row)) → kept ≡ rest ++ (begin, row) ∷ [] → IsTaken begin row rest
  taken begin row rest is = go k.pairs k.bytes k.begins k.short k.chunk
    where
      go : (pairs : Pairs) → keys ≡ bytes_of pairs → kept ≡ kept_of pairs → AreShort pairs → ((h : History) → Stands s h → IsChunk (rows s.columns (moment h)) unread before pairs) → IsTaken begin row rest
      go [] bytes begins short chunk = absurd (not_empty rest (begin, row) (sym is ∙ begins))
      go (pair ∷ pairs) bytes begins short chunk =
          let same = same_from_push (kept_of pairs) rest (length (bytes_of pairs), pair.1) (begin, row) (sym begins ∙ is) in
          let at : length (bytes_of pairs) ≡ begin = ap (λ (e : ℕ × Bor Row). e.0) same.1 in
          let its : pair.1 ≡ row = ap (λ (e : ℕ × Bor Row). e.1) same.1 in
          record {
            key = pair.0;
            short = short.0;
            is_key = ap (drop begin) bytes ∙ drop_at (bytes_of pairs) pair.0 begin at;
            within = (let long = length-append (bytes_of pairs) pair.0 in let all = ap (λ (b : List ℕ). length b) bytes in omega (arith, long, all, at));
            left = record {
              pairs = pairs;
              bytes = ap (take begin) bytes ∙ take_at (bytes_of pairs) pair.0 begin at;
              begins = sym same.0;
              short = short.1;
              chunk = λ h stands. (chunk h stands).1;
            };
            previous = λ h stands. subst (λ (r : Bor Row). IsPrevious (rows s.columns (moment h)) before pair.0 r.now) its (chunk h stands).0;
          }

-- ---- fewer keys are before the key that was before a bound
bound_short : (key : List ℕ) → IsShort key → IsBound (Some key)
bound_short key (bytes, fits) = (bytes, omega (arith, fits))

pub falls : (before : Option (List ℕ)) (key : List ℕ) → IsBound before → IsShort key → IsBefore before key → keys_before (Some key) < keys_before before
falls None key bound short below =
    let few : keys_after (MAX_KEY_BYTES + 1) key < keys_of (MAX_KEY_BYTES + 1) = less_than_all (MAX_KEY_BYTES + 1) key short.0 (bound_short key short).1 in
    omega (arith, few)
falls (Some end) key bound short below =
    let few : keys_after (MAX_KEY_BYTES + 1) key < keys_of (MAX_KEY_BYTES + 1) = less_than_all (MAX_KEY_BYTES + 1) key short.0 (bound_short key short).1 in
    let fewer : keys_after (MAX_KEY_BYTES + 1) end < keys_after (MAX_KEY_BYTES + 1) key = fewer_after (MAX_KEY_BYTES + 1) key end bound.0 (bound_short key short).1 bound.1 (less_back key end below) in
    omega (arith, few, fewer)

-- ---- what is left then
module _ (s : MachineView) (unread : Option (List ℕ)) (bounded : Bool) (bound keys : List ℕ) (kept : List (ℕ × Bor Row)) (r : IsReading s keys kept unread bounded bound)
    (begin : ℕ) (row : Bor Row) (rest : List (ℕ × Bor Row)) (is : kept ≡ rest ++ (begin, row) ∷ []) where
  abbrev before : Option (List ℕ)
  before = bound_of bounded bound

  abbrev its : IsTaken s unread before keys kept r.rows_left begin row rest
  its = taken s unread before keys kept r.rows_left begin row rest is

  pub begins_within : begin ≤ length keys
  begins_within = its.within

  module _ (more key : List ℕ) (left : more ≡ take begin keys) (moved : key ≡ drop begin keys) where
    same_key : its.key ≡ key
    same_key = sym its.is_key ∙ sym moved

    pub reading_left : IsReading s more rest unread true key
    reading_left = subst (IsReading s more rest unread true) same_key (record {
      quiet = r.quiet;
      rows_left = subst (λ (m : List ℕ). IsKept s m rest unread (Some its.key)) (sym left) its.left;
      upper = bound_short its.key its.short;
      lower = r.lower;
      unbounded = λ is_not. absurd (true≢false is_not);
    })

    pub gives_taken : (h : History) → Stands s h → GivesPrevious (rows s.columns (moment h)) before (Some row.now) (Some key)
    gives_taken h stands = (key, refl, subst (λ (k : List ℕ). IsPrevious (rows s.columns (moment h)) before k row.now) same_key (its.previous h stands))

    pub fits_left : length key ≤ MAX_KEY_BYTES
    fits_left = subst (λ (k : List ℕ). length k ≤ MAX_KEY_BYTES) same_key its.short.1

    pub fewer_left : ((h : History) × Stands s h) → keys_before (Some key) < keys_before before
    fewer_left (h, stands) = subst (λ (k : List ℕ). keys_before (Some k) < keys_before before) same_key (falls before its.key r.upper its.short (its.previous h stands).1)

-- ---- and if more are read
module _ (s : MachineView) (unread : Option (List ℕ)) (bounded : Bool) (bound keys : List ℕ) (kept : List (ℕ × Bor Row)) (r : IsReading s keys kept unread bounded bound) (none : kept ≡ [])
    (start same : List ℕ) (bytes : AreBytes start) (fits : length start ≤ MAX_KEY_BYTES) (before_it : IsBefore unread start) (is : same ≡ start) where
  short_start : IsShort start
  short_start = (bytes, fits)

  pub reading_refilled : (more : List ℕ) (then : List (ℕ × Bor Row)) → IsKept s more then (Some start) unread → IsReading s more then (Some same) bounded bound
  reading_refilled more then m = subst (λ (k : List ℕ). IsReading s more then (Some k) bounded bound) (sym is) (record {
    quiet = r.quiet;
    rows_left = refilled s unread (bound_of bounded bound) keys kept r.rows_left start more then none m;
    upper = r.upper;
    lower = bound_short start short_start;
    unbounded = r.unbounded;
  })

  pub refill_falls : keys_before (Some same) < keys_before unread
  refill_falls = subst (λ (k : List ℕ). keys_before (Some k) < keys_before unread) (sym is) (falls unread start r.lower short_start before_it)

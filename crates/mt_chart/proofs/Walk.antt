-- The run of moves of a get: each goes to a greater height, places stay while the call is open, so no number comes twice.
use Rattle.std.proofs.Common.{ℕ, ◌≡◌, ◌<◌, ◌≤◌, ◌⊎◌, inl, inr, List, [], ◌∷◌, length, Some, sym, ap, subst, arith}
use Rattle.mt_chart.specs.Tree.{Among}
use Rattle.mt_chart.specs.Chart.{Standing, on, gone, Role, Spot, spot, Chart, Later, still_on, still_gone, went, Evolves}
use Rattle.mt_chart.specs.Walk.{Distinct, below_top, height, Known, KnownAt, Run, Bounded}
use Rattle.mt_chart.proofs.Entries.{among_cases}
use Rattle.mt_chart.proofs.NoLonger.{no_longer, at_most_bound}

later_since : (b : ℕ) {s t : Standing} → Later b s t → ((e : ℕ) → s ≡ gone e → b ≤ e) → (e : ℕ) → t ≡ gone e → b ≤ e
later_since b (still_on {posted_later = y}) h e q = absurd (let c : on y ≡ gone e = q in cc)
later_since b still_gone h e q = h e q
later_since b (went {epoch = f} g) h e q = let k : f ≡ e = cc in omega arith

pub known_kept : (b n : ℕ) (role : Role) (p : List ℕ) (l : ℕ) (chart new : Chart) → Evolves b chart new → Known chart b n role p l → Known new b n role p l
known_kept b n role p l chart new ev k = go (ev n role p l k.standing k.place)
  where
    go : ((later : Standing) × (new n ≡ Some (spot role p l later)) × Later b k.standing later) ⊎ ((e : ℕ) × (k.standing ≡ gone e) × (e < b)) → Known new b n role p l
    go (inl (t, w, m)) = record { standing = t; place = w; since = later_since b m k.since }
    go (inr (e, w, m)) = absurd (let m' : b ≤ e = k.since e w in omega arith)

pub known_at_kept : (b n h : ℕ) (chart new : Chart) → Evolves b chart new → KnownAt chart b n h → KnownAt new b n h
known_at_kept b n h chart new ev k = record { role = k.role; prefix = k.prefix; low = k.low; known = known_kept b n k.role k.prefix k.low chart new ev k.known; is_height = k.is_height }

pub run_kept : (b : ℕ) (ns : List ℕ) (h : ℕ) (chart new : Chart) → Evolves b chart new → Run chart b ns h → Run new b ns h
run_kept b [] h chart new ev r = tt
run_kept b (n ∷ ns) h chart new ev (g, k, l, r) = (g, known_at_kept b n g chart new ev k, l, run_kept b ns g chart new ev r)

-- a node has one height
pub one_height : (chart : Chart) (b n g h : ℕ) → KnownAt chart b n g → KnownAt chart b n h → g ≡ h
one_height chart b n g h j k =
    let e : chart n ≡ Some (spot j.role j.prefix j.low j.known.standing) = j.known.place in
    let f : chart n ≡ Some (spot k.role k.prefix k.low k.known.standing) = k.known.place in
    let r : j.role ≡ k.role = cc in
    let p : j.prefix ≡ k.prefix = cc in
    let l : j.low ≡ k.low = cc in
    let x : height j.role j.prefix j.low ≡ g = j.is_height in
    let y : height k.role k.prefix k.low ≡ h = k.is_height in
    let z : height j.role j.prefix j.low ≡ height k.role k.prefix k.low = same j.role k.role j.prefix k.prefix j.low k.low r p l in
    cc
  where
    same : (r s : Role) (p q : List ℕ) (l m : ℕ) → r ≡ s → p ≡ q → l ≡ m → height r p l ≡ height s q m
    same r s p q l m er ep el = let x : below_top r ≡ below_top s = ap (λ z. below_top z) er in let y : length p ≡ length q = ap (λ z. length z) ep in omega arith

run_below : (chart : Chart) (b : ℕ) (ns : List ℕ) (h : ℕ) → Run chart b ns h → (m : ℕ) → Among m ns → (g : ℕ) × KnownAt chart b m g × (g < h)
run_below chart b [] h r m i = elim i [ ]
run_below chart b (n ∷ ns) h (g, k, l, r) m i = go (among_cases m n ns i) (run_below chart b ns g r m)
  where
    go : (m ≡ n) ⊎ Among m ns → (Among m ns → (f : ℕ) × KnownAt chart b m f × (f < g)) → (f : ℕ) × KnownAt chart b m f × (f < h)
    go (inl e) f = (g, subst (λ z. KnownAt chart b z g) (sym e) k, l)
    go (inr j) f = let (u, v, w) = f j in (u, v, omega arith)

not_below : (chart : Chart) (b : ℕ) (ns : List ℕ) (h : ℕ) → Run chart b ns h → (m : ℕ) → KnownAt chart b m h → Among m ns → ⊥
not_below chart b ns h r m k i =
    let (g, j, l) = run_below chart b ns h r m i in
    let e : g ≡ h = one_height chart b m g h j k in
    omega arith

pub run_distinct : (chart : Chart) (b : ℕ) (ns : List ℕ) (h : ℕ) → Run chart b ns h → Distinct ns
run_distinct chart b [] h r = tt
run_distinct chart b (n ∷ ns) h (g, k, l, r) = (not_below chart b ns g r n k, run_distinct chart b ns g r)

-- the run so far and the node gone to are no more than the bound, and no more than any list of the numbers that the chart knows
pub run_bound : (chart : Chart) (b bound n : ℕ) (ns : List ℕ) (h : ℕ) → Bounded chart bound → Run chart b ns h → KnownAt chart b n h → length ns < bound
run_bound chart b bound n ns h w r k =
    let d : Distinct (n ∷ ns) = (not_below chart b ns h r n k, run_distinct chart b ns h r) in
    let m : length (n ∷ ns) ≤ bound = at_most_bound bound (n ∷ ns) d (λ x i. all x (among_cases x n ns i)) in
    omega arith
  where
    all : (x : ℕ) → (x ≡ n) ⊎ Among x ns → x < bound
    all x (inl e) = let f : n < bound = w n (spot k.role k.prefix k.low k.known.standing) k.known.place in subst (λ z. z < bound) (sym e) f
    all x (inr i) = let (g, j, l) = run_below chart b ns h r x i in w x (spot j.role j.prefix j.low j.known.standing) j.known.place

pub run_fits : (chart : Chart) (b n : ℕ) (ns : List ℕ) (h : ℕ) (nodes : List ℕ) → ((x : ℕ) (s : Spot) → chart x ≡ Some s → Among x nodes) →
    Run chart b ns h → KnownAt chart b n h → length ns < length nodes
run_fits chart b n ns h nodes w r k =
    let d : Distinct (n ∷ ns) = (not_below chart b ns h r n k, run_distinct chart b ns h r) in
    let m : length (n ∷ ns) ≤ length nodes = no_longer (n ∷ ns) nodes d (λ x i. all x (among_cases x n ns i)) in
    omega arith
  where
    all : (x : ℕ) → (x ≡ n) ⊎ Among x ns → Among x nodes
    all x (inl e) = let f : Among n nodes = w n (spot k.role k.prefix k.low k.known.standing) k.known.place in subst (λ z. Among z nodes) (sym e) f
    all x (inr i) = let (g, j, l) = run_below chart b ns h r x i in w x (spot j.role j.prefix j.low j.known.standing) j.known.place

-- The bound on a get's run of moves, among other calls and alone.
use Rattle.std.proofs.Common.{ℕ, ◌≡◌, ◌<◌, List, [], ◌∷◌, length, Some, refl, subst, arith}
use Rattle.mt_chart.specs.Tree.{Among}
use Rattle.mt_chart.specs.Chart.{Spot, Chart}
use Rattle.mt_chart.specs.Walk.{KnownAt, Run, Bounded, Trail, begins, moves, climbs, others}
use Rattle.mt_chart.proofs.Walk.{one_height, run_kept, known_at_kept, run_bound, run_fits}
use Rattle.mt_chart.proofs.Rise.{run_move}

-- the run of a trail
record Told (b : ℕ) (chart : Chart) (n k : ℕ) : Type 0 where
  came : List ℕ
  height : ℕ
  run : Run chart b came height
  known : KnownAt chart b n height
  as_long : length came ≡ k

told : (b : ℕ) {chart : Chart} {n k : ℕ} → Trail b chart n k → Told b chart n k
told b (begins {reached = h} x) = record { came = []; height = h; run = tt; known = x; as_long = refl }
told b {chart} (moves {number = n} {next = m} a tree t v) =
    let u = told b t in
    let (g, r, x) = run_move a chart tree b u.came n m u.height u.run u.known v in
    let e : length u.came ≡ _ = u.as_long in
    record { came = n ∷ u.came; height = g; run = r; known = x; as_long = omega arith }
told b {chart} (climbs {number = n} {above = above} from to rises t) =
    let u = told b t in
    let e : length u.came ≡ _ = u.as_long in
    let same = one_height chart b n _ u.height from u.known in
    record { came = n ∷ u.came; height = above; run = (u.height, u.known, subst (λ (h : ℕ). h < above) same rises, u.run); known = to; as_long = omega arith }
told b (others {chart = chart} {new = new} {number = n} ev t) =
    let u = told b t in
    record { came = u.came; height = u.height; run = run_kept b u.came u.height chart new ev u.run; known = known_at_kept b n u.height chart new ev u.known; as_long = u.as_long }

-- if all numbers of the chart are below the bound, a get moves fewer times in a row
pub trail_bound : (b bound n k : ℕ) (chart : Chart) → Bounded chart bound → Trail b chart n k → k < bound
trail_bound b bound n k chart w t =
    let u = told b t in
    let l : length u.came < bound = run_bound chart b bound n u.came u.height w u.run u.known in
    let e : length u.came ≡ k = u.as_long in
    omega arith

-- and fewer times than there are nodes, if a list has the numbers of all of them
pub trail_fits : (b n k : ℕ) (chart : Chart) (nodes : List ℕ) → ((x : ℕ) (s : Spot) → chart x ≡ Some s → Among x nodes) → Trail b chart n k → k < length nodes
trail_fits b n k chart nodes w t =
    let u = told b t in
    let l : length u.came < length nodes = run_fits chart b n u.came u.height nodes w u.run u.known in
    let e : length u.came ≡ k = u.as_long in
    omega arith

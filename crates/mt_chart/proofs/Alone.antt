-- A call alone: each move goes from a node that is on to one that is on, and what is left of its moves falls.
use Rattle.std.proofs.Common.{ℕ, suc, ◌≡◌, ◌<◌, ◌≤◌, ◌+◌, List, [], length, Some, true, refl, arith}
use Rattle.mt_types.specs.declared.limits.TheConstants.{MAX_LAYER}
use Rattle.mt_chart.specs.Tree.{Arena, Among}
use Rattle.mt_chart.specs.Chart.{Standing, on, gone, Role, top, at_level, Spot, spot, Chart, IsTree, Dated}
use Rattle.mt_chart.specs.Walk.{height, all_heights, moves_left, KnownAt, Moves, Trail, begins, moves, Lone, at_top, goes_on, IsOn}
use Rattle.mt_chart.proofs.Rise.{rises, at_height}
use Rattle.mt_chart.proofs.Trail.{trail_fits}

-- every call knows layer 0's head
pub known_top : (arena : Arena) (chart : Chart) → IsTree arena chart → (b : ℕ) → KnownAt chart b 0 (height top [] 0)
known_top arena chart tree b = at_height chart b 0 top [] 0 (record { standing = on true; place = tree.layer_0; since = λ e q. absurd (let c : on true ≡ gone e = q in cc) })

-- what a call would know that began after the present epoch is on
pub known_on : (chart : Chart) (now n h : ℕ) → Dated chart now → KnownAt chart (suc now) n h → IsOn chart n
known_on chart now n h d k = go k.known.standing k.known.place k.known.since
  where
    go : (st : Standing) → chart n ≡ Some (spot k.role k.prefix k.low st) → ((e : ℕ) → st ≡ gone e → suc now ≤ e) → IsOn chart n
    go (on y) g s = record { role = k.role; prefix = k.prefix; low = k.low; posted = y; place = g }
    go (gone e) g s = absurd (let x : e ≤ now = d n k.role k.prefix k.low e g in let y : suc now ≤ e = s e refl in omega arith)

pub on_known : (chart : Chart) (b n : ℕ) (o : IsOn chart n) → KnownAt chart b n (height o.role o.prefix o.low)
on_known chart b n o = at_height chart b n o.role o.prefix o.low (record { standing = on o.posted; place = o.place; since = λ e q. absurd (let c : on o.posted ≡ gone e = q in cc) })

pub lone_trail : (arena : Arena) (chart : Chart) → IsTree arena chart → (b n k : ℕ) → Lone arena n k → Trail b chart n k
lone_trail arena chart tree b n k at_top = begins (known_top arena chart tree b)
lone_trail arena chart tree b n k (goes_on {number = m} {moves_made = j} l v) = moves arena tree (lone_trail arena chart tree b m j l) v

-- alone, the steps of a get are no more than the nodes: the moves and the last step, which answers
pub lone_get : (arena : Arena) (chart : Chart) (nodes : List ℕ) → IsTree arena chart → ((x : ℕ) (s : Spot) → chart x ≡ Some s → Among x nodes) → (n k : ℕ) → Lone arena n k → k + 1 ≤ length nodes
lone_get arena chart nodes tree w n k l = let h : k < length nodes = trail_fits 0 n k chart nodes w (lone_trail arena chart tree 0 n k l) in omega arith

-- from a node that is on each move goes to one that is on
pub stays_on : (arena : Arena) (chart : Chart) → IsTree arena chart → (now n m : ℕ) → Dated chart now → IsOn chart n → Moves arena n m → IsOn chart m
stays_on arena chart tree now n m d o v =
    let x = rises arena chart tree (suc now) n m (height o.role o.prefix o.low) (on_known chart (suc now) n o) v in
    known_on chart now m x.height d x.known

pub in_range : (role : Role) (p : List ℕ) (l : ℕ) → length p ≤ MAX_LAYER → l < 18446744073709551616 → height role p l < all_heights
in_range top p l h w = omega arith
in_range (at_level k) p l h w = omega arith

pub falls : (arena : Arena) (chart : Chart) → IsTree arena chart → (b n m h : ℕ) → KnownAt chart b n h → h < all_heights → Moves arena n m → (g : ℕ) × KnownAt chart b m g × (moves_left g < moves_left h)
falls arena chart tree b n m h k w v = let x = rises arena chart tree b n m h k v in let up : h < x.height = x.rises in (x.height, x.known, omega arith)

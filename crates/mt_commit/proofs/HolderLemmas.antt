-- Counts of numbers, and the holders that they stand for.
use Rattle.std.proofs.Common.{◌≡◌, ℕ, zero, suc, ◌+◌, ◌-◌, ◌<◌, ◌≤◌, ◌≢◌, Bool, true, false, cond, List, [], ◌∷◌, ◌++◌, replicate, Option, Some, None, ap, sym, refl, ◌∙◌, subst, inl, inr, arith, add-one, length-append}
use Rattle.std.specs.Prelude.{All, Contains, slice_get, slice_index_or, nat_le, length}
use Rattle.std.proofs.lemmas.List.{length-replicate}
use Rattle.std.proofs.lemmas.List.Elements.{recursion_from_All, All-same}
use Rattle.std.specs.declared.cmp.Ordering.TheVariants.{Less, Equal, Greater}
use Rattle.std.specs.Ordering.{nat_cmp, is_eq, match_ordering}
use Rattle.std.specs.List.{AllByRecursion}
use Rattle.std.specs.List.Sorted.{IsStrictlySortedBy}
use Rattle.std.specs.Map.{keys_of, lookup, set_value, remove_entry}
use Rattle.std.specs.BTreeMap.{is_at, insert_entry}
use Rattle.std.specs.BTreeMap as tree
use Rattle.std.proofs.lemmas.Cmp.{ranked}
use Rattle.std.proofs.lemmas.Bool.Decides.{eqb_tells, leb_tells}
use Rattle.std.proofs.Math.Nat.{min-eq_left, min-eq_right}
use Rattle.mt_types.specs.Numbers.{least}
use Rattle.mt_commit.specs.Holders.{with_holder, without_holder, each_held, AllHeld}

abbrev pub Counts : Type 0
Counts = List (ℕ × ℕ)

-- the counts are sorted by their numbers
abbrev pub InOrder : Counts → Type 0
InOrder entries = IsStrictlySortedBy nat_cmp (keys_of entries)

-- whether a key is this number
abbrev pub is_number : ℕ → ℕ → Bool
is_number number = is_at (nat_cmp number)

less : (x y : ℕ) → nat_cmp x y ≡ Less → x < y
less x y e = ranked x y Less (sym e)

equal : (x y : ℕ) → nat_cmp x y ≡ Equal → x ≡ y
equal x y e = ranked x y Equal (sym e)

greater : (x y : ℕ) → nat_cmp x y ≡ Greater → y < x
greater x y e = ranked x y Greater (sym e)

-- inserting among the same holders, and past smaller ones
with-here : (n k : ℕ) (holders : List ℕ) → n ≤ k → with_holder n (k ∷ holders) ≡ n ∷ k ∷ holders
with-here n k holders h = elim (leb_tells n k) [
  | inl p ↦ ap (λ b. cond b (n ∷ k ∷ holders) (k ∷ with_holder n holders)) p.0
  | inr p ↦ absurd (omega (arith, p.1))
]

with-past : (n k : ℕ) (holders : List ℕ) → k < n → with_holder n (k ∷ holders) ≡ k ∷ with_holder n holders
with-past n k holders h = elim (leb_tells n k) [
  | inl p ↦ absurd (omega (arith, p.1))
  | inr p ↦ ap (λ b. cond b (n ∷ k ∷ holders) (k ∷ with_holder n holders)) p.0
]

with-past_all : (n k c : ℕ) (holders : List ℕ) → k < n → with_holder n (replicate c k ++ holders) ≡ replicate c k ++ with_holder n holders
with-past_all n k zero holders h = refl
with-past_all n k (suc c) holders h = with-past n k (replicate c k ++ holders) h ∙ ap (λ rest. k ∷ rest) (with-past_all n k c holders h)

with-same : (n k c : ℕ) (holders : List ℕ) → n ≡ k → 0 < c → with_holder n (replicate c k ++ holders) ≡ replicate (c + 1) k ++ holders
with-same n k zero holders e h = absurd (omega arith)
with-same n k (suc c) holders e h =
    with-here n k (replicate c k ++ holders) (omega arith)
    ∙ ap (λ x. x ∷ k ∷ replicate c k ++ holders) e
    ∙ rw add-one refl

with-below : (n k c : ℕ) (holders : List ℕ) → n < k → 0 < c → with_holder n (replicate c k ++ holders) ≡ n ∷ replicate c k ++ holders
with-below n k zero holders h p = absurd (omega arith)
with-below n k (suc c) holders h p = with-here n k (replicate c k ++ holders) (omega arith)

without-here : (n k : ℕ) (holders : List ℕ) → n ≡ k → without_holder n (k ∷ holders) ≡ holders
without-here n k holders e = elim (eqb_tells k n) [
  | inl p ↦ ap (λ b. cond b holders (k ∷ without_holder n holders)) p.0
  | inr p ↦ absurd (p.1 (sym e))
]

without-other : (n k : ℕ) (holders : List ℕ) → n ≢ k → without_holder n (k ∷ holders) ≡ k ∷ without_holder n holders
without-other n k holders ne = elim (eqb_tells k n) [
  | inl p ↦ absurd (ne (sym p.1))
  | inr p ↦ ap (λ b. cond b holders (k ∷ without_holder n holders)) p.0
]

without-others : (n k c : ℕ) (holders : List ℕ) → n ≢ k → without_holder n (replicate c k ++ holders) ≡ replicate c k ++ without_holder n holders
without-others n k zero holders ne = refl
without-others n k (suc c) holders ne = without-other n k (replicate c k ++ holders) ne ∙ ap (λ rest. k ∷ rest) (without-others n k c holders ne)

without-same : (n k c : ℕ) (holders : List ℕ) → n ≡ k → 0 < c → without_holder n (replicate c k ++ holders) ≡ replicate (c - 1) k ++ holders
without-same n k zero holders e h = absurd (omega arith)
without-same n k (suc c) holders e h =
    let less_one : c ≡ suc c - 1 = omega arith in
    without-here n k (replicate c k ++ holders) e ∙ ap (λ m. replicate m k ++ holders) less_one

-- a number below all keys is not found
not_below : (n k : ℕ) (entries : Counts) → n < k → AllByRecursion (λ y. nat_cmp k y ≡ Less) (keys_of entries) → lookup (is_number n) entries ≡ None
not_below n k [] h above = refl
not_below n k (e ∷ entries) h above =
    let k_less : k < e.0 = less k e.0 above.0 in
    elim (nat_cmp n e.0) as (λ r. nat_cmp n e.0 ≡ r → cond (is_eq r) (Some e.1) (lookup (is_number n) entries) ≡ None) [
      | Less ↦ λ p. not_below n k entries h above.1
      | Equal ↦ λ p. absurd (let same : n ≡ e.0 = equal n e.0 p in omega arith)
      | Greater ↦ λ p. not_below n k entries h above.1
    ] refl

-- a number that is there, once more
pub held_more : (n c : ℕ) (entries : Counts) → InOrder entries → AllHeld entries → lookup (is_number n) entries ≡ Some c
    → each_held (set_value (is_number n) entries (c + 1)) ≡ with_holder n (each_held entries)
unfolding IsStrictlySortedBy
held_more n c [] order held found = cc
held_more n c (e ∷ entries) order held found =
    elim (nat_cmp n e.0) as (λ r. nat_cmp n e.0 ≡ r → cond (is_eq r) (Some e.1) (lookup (is_number n) entries) ≡ Some c
    → each_held (cond (is_eq r) ((e.0, c + 1) ∷ entries) (e ∷ set_value (is_number n) entries (c + 1))) ≡ with_holder n (each_held (e ∷ entries))) [
      | Less ↦ λ p f. let none : lookup (is_number n) entries ≡ None = not_below n e.0 entries (less n e.0 p) order.0 in cc
      | Equal ↦ λ p f.
          let same : e.1 ≡ c = cc in
          ap (λ m. replicate (m + 1) e.0 ++ each_held entries) (sym same) ∙ sym (with-same n e.0 e.1 (each_held entries) (equal n e.0 p) held.0)
      | Greater ↦ λ p f.
          ap (λ rest. replicate e.1 e.0 ++ rest) (held_more n c entries order.1 held.1 f) ∙ sym (with-past_all n e.0 e.1 (each_held entries) (greater n e.0 p))
    ] refl found

-- a number that is not there, once
pub held_new : (n : ℕ) (entries : Counts) → AllHeld entries → lookup (is_number n) entries ≡ None
    → each_held (insert_entry nat_cmp entries n 1) ≡ with_holder n (each_held entries)
held_new n [] held found = refl
held_new n (e ∷ entries) held found =
    elim (nat_cmp n e.0) as (λ r. nat_cmp n e.0 ≡ r → cond (is_eq r) (Some e.1) (lookup (is_number n) entries) ≡ None
    → each_held (match_ordering r ((n, 1) ∷ e ∷ entries) ((e.0, 1) ∷ entries) (e ∷ insert_entry nat_cmp entries n 1)) ≡ with_holder n (each_held (e ∷ entries))) [
      | Less ↦ λ p f. sym (with-below n e.0 e.1 (each_held entries) (less n e.0 p) held.0)
      | Equal ↦ λ p f. cc
      | Greater ↦ λ p f.
          ap (λ rest. replicate e.1 e.0 ++ rest) (held_new n entries held.1 f) ∙ sym (with-past_all n e.0 e.1 (each_held entries) (greater n e.0 p))
    ] refl found

-- a number that is there, once less
pub held_less : (n c : ℕ) (entries : Counts) → AllHeld entries → lookup (is_number n) entries ≡ Some c
    → each_held (set_value (is_number n) entries (c - 1)) ≡ without_holder n (each_held entries)
held_less n c [] held found = cc
held_less n c (e ∷ entries) held found =
    elim (nat_cmp n e.0) as (λ r. nat_cmp n e.0 ≡ r → cond (is_eq r) (Some e.1) (lookup (is_number n) entries) ≡ Some c
    → each_held (cond (is_eq r) ((e.0, c - 1) ∷ entries) (e ∷ set_value (is_number n) entries (c - 1))) ≡ without_holder n (each_held (e ∷ entries))) [
      | Less ↦ λ p f.
          let below : n < e.0 = less n e.0 p in
          ap (λ rest. replicate e.1 e.0 ++ rest) (held_less n c entries held.1 f) ∙ sym (without-others n e.0 e.1 (each_held entries) (λ same. omega arith))
      | Equal ↦ λ p f.
          let same : e.1 ≡ c = cc in
          ap (λ m. replicate (m - 1) e.0 ++ each_held entries) (sym same) ∙ sym (without-same n e.0 e.1 (each_held entries) (equal n e.0 p) held.0)
      | Greater ↦ λ p f.
          let above : e.0 < n = greater n e.0 p in
          ap (λ rest. replicate e.1 e.0 ++ rest) (held_less n c entries held.1 f) ∙ sym (without-others n e.0 e.1 (each_held entries) (λ same. omega arith))
    ] refl found

-- a number that is held once, taken out
pub held_last : (n c : ℕ) (entries : Counts) → AllHeld entries → lookup (is_number n) entries ≡ Some c → c ≤ 1
    → each_held (remove_entry (is_number n) entries) ≡ without_holder n (each_held entries)
held_last n c [] held found one = cc
held_last n c (e ∷ entries) held found one =
    elim (nat_cmp n e.0) as (λ r. nat_cmp n e.0 ≡ r → cond (is_eq r) (Some e.1) (lookup (is_number n) entries) ≡ Some c
    → each_held (cond (is_eq r) entries (e ∷ remove_entry (is_number n) entries)) ≡ without_holder n (each_held (e ∷ entries))) [
      | Less ↦ λ p f.
          let below : n < e.0 = less n e.0 p in
          ap (λ rest. replicate e.1 e.0 ++ rest) (held_last n c entries held.1 f one) ∙ sym (without-others n e.0 e.1 (each_held entries) (λ same. omega arith))
      | Equal ↦ λ p f.
          let same : e.1 ≡ c = cc in
          let positive : 0 < e.1 = held.0 in
          let none_left : 0 ≡ e.1 - 1 = omega arith in
          ap (λ m. replicate m e.0 ++ each_held entries) none_left ∙ sym (without-same n e.0 e.1 (each_held entries) (equal n e.0 p) held.0)
      | Greater ↦ λ p f.
          let above : e.0 < n = greater n e.0 p in
          ap (λ rest. replicate e.1 e.0 ++ rest) (held_last n c entries held.1 f one) ∙ sym (without-others n e.0 e.1 (each_held entries) (λ same. omega arith))
    ] refl found

-- a number that is not there
pub held_not : (n : ℕ) (entries : Counts) → lookup (is_number n) entries ≡ None → each_held entries ≡ without_holder n (each_held entries)
held_not n [] found = refl
held_not n (e ∷ entries) found =
    elim (nat_cmp n e.0) as (λ r. nat_cmp n e.0 ≡ r → cond (is_eq r) (Some e.1) (lookup (is_number n) entries) ≡ None
    → each_held (e ∷ entries) ≡ without_holder n (each_held (e ∷ entries))) [
      | Less ↦ λ p f.
          let below : n < e.0 = less n e.0 p in
          ap (λ rest. replicate e.1 e.0 ++ rest) (held_not n entries f) ∙ sym (without-others n e.0 e.1 (each_held entries) (λ same. omega arith))
      | Equal ↦ λ p f. cc
      | Greater ↦ λ p f.
          let above : e.0 < n = greater n e.0 p in
          ap (λ rest. replicate e.1 e.0 ++ rest) (held_not n entries f) ∙ sym (without-others n e.0 e.1 (each_held entries) (λ same. omega arith))
    ] refl found

-- counts stay above 0
pub AllHeld-set : (test : ℕ → Bool) (entries : Counts) (c : ℕ) → AllHeld entries → 0 < c → AllHeld (set_value test entries c)
AllHeld-set test [] c held h = tt
AllHeld-set test (e ∷ entries) c held h =
    elim (test e.0) as (λ b. AllHeld (cond b ((e.0, c) ∷ entries) (e ∷ set_value test entries c))) [
      | true ↦ (h, held.1)
      | false ↦ (held.0, AllHeld-set test entries c held.1 h)
    ]

pub AllHeld-insert : (entries : Counts) (n c : ℕ) → AllHeld entries → 0 < c → AllHeld (insert_entry nat_cmp entries n c)
AllHeld-insert [] n c held h = (h, tt)
AllHeld-insert (e ∷ entries) n c held h =
    elim (nat_cmp n e.0) as (λ r. AllHeld (match_ordering r ((n, c) ∷ e ∷ entries) ((e.0, c) ∷ entries) (e ∷ insert_entry nat_cmp entries n c))) [
      | Less ↦ (h, held)
      | Equal ↦ (h, held.1)
      | Greater ↦ (held.0, AllHeld-insert entries n c held.1 h)
    ]

pub AllHeld-remove : (test : ℕ → Bool) (entries : Counts) → AllHeld entries → AllHeld (remove_entry test entries)
AllHeld-remove test [] held = tt
AllHeld-remove test (e ∷ entries) held =
    elim (test e.0) as (λ b. AllHeld (cond b entries (e ∷ remove_entry test entries))) [
      | true ↦ held.1
      | false ↦ (held.0, AllHeld-remove test entries held.1)
    ]

-- the value that is there, written again
pub set_value-same : (test : ℕ → Bool) (entries : Counts) (c : ℕ) → lookup test entries ≡ Some c → set_value test entries c ≡ entries
set_value-same test [] c found = refl
set_value-same test (e ∷ entries) c found =
    elim (test e.0) as (λ b. cond b (Some e.1) (lookup test entries) ≡ Some c → cond b ((e.0, c) ∷ entries) (e ∷ set_value test entries c) ≡ e ∷ entries) [
      | true ↦ λ f. let same : c ≡ e.1 = cc in ap (λ x. (e.0, x) ∷ entries) same
      | false ↦ λ f. ap (λ rest. e ∷ rest) (set_value-same test entries c f)
    ] found

-- the least of numbers of which none is below the first
least-above : (k : ℕ) (holders : List ℕ) → AllByRecursion (λ holder. k ≤ holder) holders → least k holders ≡ k
least-above k [] above = refl
least-above k (holder ∷ holders) above = ap (λ m. least m holders) (min-eq_left above.0) ∙ least-above k holders above.1

all_same : (P : ℕ → Type 0) (c k : ℕ) (holders : List ℕ) → P k → AllByRecursion P holders → AllByRecursion P (replicate c k ++ holders)
all_same P zero k holders p ps = ps
all_same P (suc c) k holders p ps = (p, all_same P c k holders p ps)

all_above : (k : ℕ) (entries : Counts) → AllByRecursion (λ y. nat_cmp k y ≡ Less) (keys_of entries) → AllByRecursion (λ holder. k ≤ holder) (each_held entries)
all_above k [] above = tt
all_above k (e ∷ entries) above =
    let k_less : k < e.0 = less k e.0 above.0 in
    all_same (λ holder. k ≤ holder) e.1 e.0 (each_held entries) (omega arith) (all_above k entries above.1)

-- the least holder is the first key
pub least-first : (most : ℕ) (e : ℕ × ℕ) (entries : Counts) → InOrder (e ∷ entries) → AllHeld (e ∷ entries) → AllByRecursion (λ holder. holder ≤ most) (each_held (e ∷ entries))
    → least most (each_held (e ∷ entries)) ≡ e.0
unfolding IsStrictlySortedBy
least-first most e entries order held within = by e.1 held.0 within
  where
    by : (c : ℕ) → 0 < c → AllByRecursion (λ holder. holder ≤ most) (replicate c e.0 ++ each_held entries) → least most (replicate c e.0 ++ each_held entries) ≡ e.0
    by zero positive all = absurd (omega arith)
    by (suc c) positive all =
        ap (λ m. least m (replicate c e.0 ++ each_held entries)) (min-eq_right all.0)
        ∙ least-above e.0 (replicate c e.0 ++ each_held entries) (all_same (λ holder. e.0 ≤ holder) c e.0 (each_held entries) (omega arith) (all_above e.0 entries order.0))

-- what the first entry says
pub least_is : (most first count : ℕ) (entries : Counts) (holders : List ℕ) → each_held entries ≡ holders → InOrder entries → AllHeld entries
    → All (λ holder. holder ≤ most) holders → ◌≡◌ {A = Option (ℕ × ℕ)} (slice_get entries 0) (Some (first, count)) → first ≡ least most holders
least_is most first count [] holders is order held within e = cc
least_is most first count (entry ∷ entries) holders is order held within e =
    let same : ◌≡◌ {A = ℕ × ℕ} entry (first, count) = cc in
    let all = recursion_from_All (λ holder. holder ≤ most) (each_held (entry ∷ entries)) (All-same (λ holder. holder ≤ most) _ _ is within) in
    sym (ap (λ (x : ℕ × ℕ). x.0) same) ∙ sym (least-first most entry entries order held all) ∙ ap (least most) is

abbrev pub Tree : Type 0
Tree = tree.BTreeMap ℕ ℕ

-- a count that is there is above 0
found_held : (test : ℕ → Bool) (entries : Counts) (c : ℕ) → AllHeld entries → lookup test entries ≡ Some c → 0 < c
found_held test [] c held found = cc
found_held test (e ∷ entries) c held found =
    elim (test e.0) as (λ b. cond b (Some e.1) (lookup test entries) ≡ Some c → 0 < c) [
      | true ↦ λ f. let same : e.1 ≡ c = cc in let positive : 0 < e.1 = held.0 in omega arith
      | false ↦ λ f. found_held test entries c held.1 f
    ] found

-- what a count that is written leaves
pub written_kept : (m n : Tree) (number new : ℕ) → AllHeld m.entries → 0 < new
    → tree.WritesThrough nat_cmp (nat_cmp number) m new n → tree.IsOrdered nat_cmp n × AllHeld n.entries
written_kept m n number new held positive w =
    (w.4, subst AllHeld (sym w.0) (AllHeld-set (is_number number) m.entries new held positive))

pub written_again_kept : (m n : Tree) (number old : ℕ) → AllHeld m.entries → Some old ≡ tree.get nat_cmp m number
    → tree.WritesThrough nat_cmp (nat_cmp number) m old n → tree.IsOrdered nat_cmp n × AllHeld n.entries
written_again_kept m n number old held found w =
    (w.4, subst AllHeld (sym w.0) (AllHeld-set (is_number number) m.entries old held (found_held (is_number number) m.entries old held (sym found))))

pub written_more : (m n : Tree) (number old : ℕ) (holders : List ℕ) → each_held m.entries ≡ holders → tree.IsOrdered nat_cmp m → AllHeld m.entries
    → Some old ≡ tree.get nat_cmp m number → tree.WritesThrough nat_cmp (nat_cmp number) m (old + 1) n → each_held n.entries ≡ with_holder number holders
written_more m n number old holders is order held found w =
    ap each_held w.0 ∙ held_more number old m.entries order held (sym found) ∙ ap (with_holder number) is

-- the same after its own count was written again, and taken out
pub removed_last : (m again n : Tree) (number old : ℕ) (holders : List ℕ) → each_held m.entries ≡ holders → AllHeld m.entries
    → Some old ≡ tree.get nat_cmp m number → old ≤ 1 → tree.WritesThrough nat_cmp (nat_cmp number) m old again
    → n.entries ≡ remove_entry (is_number number) again.entries → each_held n.entries ≡ without_holder number holders
removed_last m again n number old holders is held found one w e =
    ap each_held (e ∙ ap (remove_entry (is_number number)) (w.0 ∙ set_value-same (is_number number) m.entries old (sym found)))
    ∙ held_last number old m.entries held (sym found) one ∙ ap (without_holder number) is

pub removed_kept : (m again n : Tree) (number old : ℕ) → AllHeld m.entries → Some old ≡ tree.get nat_cmp m number
    → tree.WritesThrough nat_cmp (nat_cmp number) m old again → n.entries ≡ remove_entry (is_number number) again.entries → AllHeld n.entries
removed_kept m again n number old held found w e =
    subst AllHeld (sym e) (AllHeld-remove (is_number number) again.entries (written_again_kept m again number old held found w).1)

pub written_less : (m n : Tree) (number old : ℕ) (holders : List ℕ) → each_held m.entries ≡ holders → AllHeld m.entries
    → Some old ≡ tree.get nat_cmp m number → tree.WritesThrough nat_cmp (nat_cmp number) m (old - 1) n → each_held n.entries ≡ without_holder number holders
written_less m n number old holders is held found w =
    ap each_held w.0 ∙ held_less number old m.entries held (sym found) ∙ ap (without_holder number) is

length-same : (c k : ℕ) (holders : List ℕ) → length (replicate c k ++ holders) ≡ c + length holders
length-same c k holders = length-append (replicate c k) holders ∙ ap (λ n. n + length holders) (length-replicate c k)

-- a count is no more than the holders
pub count_within : (test : ℕ → Bool) (entries : Counts) (c : ℕ) → lookup test entries ≡ Some c → c ≤ length (each_held entries)
count_within test [] c found = cc
count_within test (e ∷ entries) c found =
    let long = length-same e.1 e.0 (each_held entries) in
    elim (test e.0) as (λ b. cond b (Some e.1) (lookup test entries) ≡ Some c → c ≤ length (each_held (e ∷ entries))) [
      | true ↦ λ f. let same : e.1 ≡ c = cc in omega arith
      | false ↦ λ f. let rest = count_within test entries c f in omega arith
    ] found

-- a holder more, and one less
pub length-with : (number : ℕ) (holders : List ℕ) → length (with_holder number holders) ≡ length holders + 1
length-with number [] = refl
length-with number (holder ∷ holders) =
    let rest = length-with number holders in
    elim (nat_le number holder) as (λ b. length (cond b (number ∷ holder ∷ holders) (holder ∷ with_holder number holders)) ≡ length (holder ∷ holders) + 1) [
      | true ↦ omega arith
      | false ↦ omega arith
    ]

pub length-without : (number : ℕ) (holders : List ℕ) → Contains holders number → length (without_holder number holders) + 1 ≡ length holders
length-without number [] found = let none = found.1 in absurd (omega arith)
length-without number (holder ∷ holders) found =
    elim (eqb_tells holder number) [
      | inl p ↦ ap (λ b. length (cond b holders (holder ∷ without_holder number holders)) + 1) p.0 ∙ omega arith
      | inr p ↦
          let rest = length-without number holders (elsewhere found.0 found.1 found.2 p.1) in
          ap (λ b. length (cond b holders (holder ∷ without_holder number holders)) + 1) p.0 ∙ omega arith
    ]
  where
    elsewhere : (k : ℕ) → k < length (holder ∷ holders) → slice_index_or (holder ∷ holders) k number ≡ number → holder ≢ number → Contains holders number
    elsewhere zero less is ne = absurd (ne is)
    elsewhere (suc k) less is ne = (k, omega arith, is)

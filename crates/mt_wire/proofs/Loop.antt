-- Reading items one after the other, as a loop does.
use Rattle.std.proofs.Common.{◌≡◌, ℕ, suc, ◌-◌, ◌+◌, ◌≤◌, ◌<◌, List, [], ◌∷◌, ◌++◌, Option, Some, None, refl, sym, ap, ◌∙◌, append_assoc, arith}
use Rattle.std.proofs.lemmas.List.{append-nil}
use Rattle.mt_wire.specs.declared.fault.ReadError.{ReadError}
use Rattle.mt_wire.specs.declared.fault.ReadError.TheVariants as errors
use Rattle.mt_wire.specs.Reading.{Reader, ◌>>=◌, Fails, times_at}

-- what was read before, and what is still read
abbrev pub with_front : {A : Type 0} → List A → Option (List A × List ℕ) → Option (List A × List ℕ)
with_front front read = read >>= λ x. Some (front ++ x.0, x.1)

regroup : {A : Type 0} (front : List A) (x : A) (read : Option (List A × List ℕ)) → with_front front (read >>= λ y. Some (x ∷ y.0, y.1)) ≡ with_front (front ++ x ∷ []) read
regroup {A} front x (Some y) = ap (λ (xs : List A). Some (xs, y.1)) (simp append_assoc)
regroup front x None = refl

pub goes_on : {A : Type 0} (item : Reader A) (front : List A) (count i : ℕ) (bytes : List ℕ) (x : A) (after : List ℕ) (total : Option (List A × List ℕ)) → i < count → item bytes ≡ Some (x, after)
    → with_front front (times_at item (count - i) bytes) ≡ total → with_front (front ++ x ∷ []) (times_at item (count - (i + 1)) after) ≡ total
unfolding times_at
goes_on item front count i bytes x after total lt h so_far =
    let k : count - i ≡ suc (count - (i + 1)) = omega arith in
    let one : with_front front (times_at item (count - i) bytes) ≡ with_front (front ++ x ∷ []) (times_at item (count - (i + 1)) after) = rw (k, h) (regroup front x (times_at item (count - (i + 1)) after)) in
    sym one ∙ so_far

pub ends : {A : Type 0} (item : Reader A) (e : ReadError) (front : List A) (count i : ℕ) (bytes : List ℕ) (total : Option (List A × List ℕ)) → i < count → Fails e (item bytes)
    → with_front front (times_at item (count - i) bytes) ≡ total → Fails e total
unfolding times_at
ends item errors.NoMemory front count i bytes total lt h so_far = tt
ends item errors.Misspelled front count i bytes total lt h so_far =
    let k : count - i ≡ suc (count - (i + 1)) = omega arith in
    let one : with_front front (times_at item (count - i) bytes) ≡ None = rw (k, h) refl in
    sym so_far ∙ one

pub is_done : {A : Type 0} (item : Reader A) (front : List A) (count i : ℕ) (bytes : List ℕ) (total : Option (List A × List ℕ)) → count ≤ i → with_front front (times_at item (count - i) bytes) ≡ total → total ≡ Some (front, bytes)
unfolding times_at
is_done {A} item front count i bytes total le so_far =
    let k : count - i ≡ 0 = omega arith in
    let one : with_front front (times_at item (count - i) bytes) ≡ Some (front, bytes) = rw k (ap (λ (xs : List A). Some (xs, bytes)) (append-nil front)) in
    sym so_far ∙ one

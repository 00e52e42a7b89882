-- Which fields a number holds, through masks, shifts and joins.
use Rattle.std.proofs.Common.{◌≡◌, ℕ, zero, suc, ◌+◌, ◌-◌, ◌*◌, ◌/◌, ◌%◌, ◌^◌, ◌<◌, ◌≤◌, List, [], ◌∷◌, ◌++◌, length, take, drop, refl, sym, ◌∙◌, arith, length-append}
use Rattle.std.specs.List.{All}
use Rattle.std.proofs.lemmas.List.{length-take-le}
use Rattle.std.proofs.lemmas.List.Elements.{All-append}
use Rattle.std.proofs.Math.Nat.{pow-le-pow_right}
use Rattle.std.proofs.Math.ListN.{length-drop}
use Rattle.mt_word.specs.Fields.{fields, word_of_fields}
use Rattle.mt_word.specs.Round.{length-fields, word_of_fields-fields}
use Rattle.mt_word.proofs.FieldsLemmas.{fields_fit, fit-take, fit-drop, fields-word_of_fields, word_of_fields_below, word_of_fields-take, word_of_fields-drop, word_of_fields-append}

-- the number w holds these n fields
pub record IsWordOf (w : ℕ) (xs : List ℕ) (n : ℕ) : Type 0 where
  pub is : w ≡ word_of_fields xs
  pub fit : All (λ field. field < 16) xs
  pub long : length xs ≡ n

pub own_fields : (n w : ℕ) → w < 16 ^ n → IsWordOf w (fields n w) n
own_fields n w h = record {
  is = sym (word_of_fields-fields n w h);
  fit = fields_fit n w;
  long = length-fields n w;
}

single : (x : ℕ) → x < 16 → All (λ field. field < 16) (x ∷ [])
single x h zero d l = h
single x h (suc k) d l = absurd (omega arith)

pub one_field : (x : ℕ) → x < 16 → IsWordOf x (x ∷ []) 1
one_field x h = record {
  is = omega arith;
  fit = single x h;
  long = refl;
}

pub lowest_fields : (w : ℕ) (xs : List ℕ) (n k r : ℕ) → IsWordOf w xs n → k ≤ n → r ≡ w % 16 ^ k → IsWordOf r (take k xs) k
lowest_fields w xs n k r h within e = record {
  is = e ∙ rw h.is (word_of_fields-take k xs h.fit);
  fit = fit-take k xs h.fit;
  long = length-take-le k xs (omega (arith, h.long));
}

pub upper_fields : (w : ℕ) (xs : List ℕ) (n k r : ℕ) → IsWordOf w xs n → r ≡ w / 16 ^ k → IsWordOf r (drop k xs) (n - k)
upper_fields w xs n k r h e = record {
  is = e ∙ rw h.is (word_of_fields-drop k xs h.fit);
  fit = fit-drop k xs h.fit;
  long = omega (arith, length-drop k xs, h.long);
}

pub joined_fields : (l h : ℕ) (xs ys : List ℕ) (n m total r : ℕ) → IsWordOf l xs n → IsWordOf h ys m → total ≡ n + m → r ≡ h * 16 ^ n + l → IsWordOf r (xs ++ ys) total
joined_fields l h xs ys n m total r low high t e = record {
  is = e ∙ (rw (low.is, high.is) (sym (word_of_fields-append xs ys n low.long)));
  fit = All-append (λ field. field < 16) xs ys low.fit high.fit;
  long = omega (arith, length-append xs ys, low.long, high.long);
}

pub fields_below : (w : ℕ) (xs : List ℕ) (n m : ℕ) → IsWordOf w xs n → n ≤ m → w < 16 ^ m
fields_below w xs n m h le =
    let short : length xs ≤ m = omega (arith, h.long) in
    let below : word_of_fields xs < 16 ^ length xs = word_of_fields_below xs h.fit in
    omega (arith, h.is, below, pow-le-pow_right {n = 16} (omega arith) short)

pub fields_are : (w : ℕ) (xs : List ℕ) (n : ℕ) → IsWordOf w xs n → fields n w ≡ xs
fields_are w xs n h = rw (h.is, ← h.long) (fields-word_of_fields xs h.fit)

-- what a mask and a shift leave of a number's own fields
pub own_lowest : (n w k r : ℕ) → w < 16 ^ n → k ≤ n → r ≡ w % 16 ^ k → IsWordOf r (take k (fields n w)) k
own_lowest n w k r h within e = lowest_fields w (fields n w) n k r (own_fields n w h) within e

pub own_upper : (n w k r : ℕ) → w < 16 ^ n → r ≡ w / 16 ^ k → IsWordOf r (drop k (fields n w)) (n - k)
own_upper n w k r h e = upper_fields w (fields n w) n k r (own_fields n w h) e

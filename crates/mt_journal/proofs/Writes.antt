-- What a write leaves of a list of bytes, part by part.
use Rattle.std.proofs.Common.{◌≡◌, ◌⊎◌, ℕ, suc, ◌+◌, ◌<◌, ◌≤◌, List, [], ◌∷◌, ◌++◌, length, get_or, take, drop, refl, sym, ap, ◌∙◌, arith, inl, inr, length-append}
use Rattle.std.proofs.lemmas.List.{append-nil, take-append-drop, length-take, length-drop, get_or_append_left, get_or-append-add, drop-drop}
use Rattle.std.proofs.lemmas.List.Prefix.{front_from_reads, at_from_reads}
use Rattle.sqlite_disk.specs.Disk.{Holds, Torn, Mixed}
use Rattle.mt_frame.specs.Laws.{OldOrNew}

-- a part of the bytes was written over: those before it and after it are the same
pub record IsOver (before after new : List ℕ) (n : ℕ) : Type 0 where
  pub part : List ℕ
  pub parts : new ≡ before ++ (part ++ after)
  pub len : length part ≡ n

none_left : (bytes : List ℕ) → length bytes ≡ 0 → bytes ≡ []
none_left [] e = refl
none_left (b ∷ bytes) e = absurd (omega (arith, e))

pub same_front : (before after new : List ℕ) (at n : ℕ) → length before ≤ at → Torn at n (before ++ after) new → new ≡ before ++ drop (length before) new
same_front before after new at n le torn =
    let size = length-append before after in
    front_from_reads 0 new before (omega (arith, size, torn.no_shorter))
    (λ i lt. torn.below i (omega (arith, size, lt)) (omega (arith, le, lt)) ∙ get_or_append_left before after 0 i lt)

pub torn_over : (before middle after new : List ℕ) (at n : ℕ) → at ≡ length before → length middle ≡ n → Torn at n (before ++ (middle ++ after)) new → IsOver before after new n
torn_over before middle after new at n e len torn =
    let size = length-append before (middle ++ after) in
    let size_more = length-append middle after in
    let a = torn.no_shorter in
    let b = torn.no_longer in
    let long : length new ≡ length before + n + length after = omega (arith, a, b, size, size_more, len, e) in
    let back = drop (length before) new in
    let front = same_front before (middle ++ after) new at n (omega (arith, e)) torn in
    let rest_reads : (i : ℕ) → i < length after → get_or new (length before + n + i) 0 ≡ get_or after i 0 = λ i lt.
    torn.above (length before + n + i) (omega (arith, size, size_more, len, lt)) (omega (arith, e))
    ∙ ap (λ (k : ℕ). get_or (before ++ (middle ++ after)) k 0) (omega (arith, len))
    ∙ get_or-append-add before (middle ++ after) (length middle + i) 0 ∙ get_or-append-add middle after i 0 in
    let tail : drop (length before + n) new ≡ after ++ drop (length before + n + length after) new = at_from_reads 0 new after (length before + n) (omega (arith, long)) rest_reads in
    let none : drop (length before + n + length after) new ≡ [] = none_left (drop (length before + n + length after) new) (omega (arith, length-drop (length before + n + length after) new, long)) in
    let after_is : drop n back ≡ after = drop-drop n (length before) new ∙ tail ∙ ap (λ (l : List ℕ). after ++ l) none ∙ append-nil after in
    record {
      part = take n back;
      parts = front ∙ ap (λ (l : List ℕ). before ++ l) (sym (take-append-drop n back) ∙ ap (λ (l : List ℕ). take n back ++ l) after_is);
      len = omega (arith, length-take n back, length-drop (length before) new, long);
    }

-- a byte of the part
part_read : (before after new : List ℕ) (n : ℕ) (over : IsOver before after new n) (i : ℕ) → i < n → get_or new (length before + i) 0 ≡ get_or over.part i 0
part_read before after new n over i lt =
    ap (λ (l : List ℕ). get_or l (length before + i) 0) over.parts ∙ get_or-append-add before (over.part ++ after) i 0 ∙ get_or_append_left over.part after 0 i (omega (arith, over.len, lt))

middle_read : (before middle after : List ℕ) (i : ℕ) → i < length middle → get_or (before ++ (middle ++ after)) (length before + i) 0 ≡ get_or middle i 0
middle_read before middle after i lt = get_or-append-add before (middle ++ after) i 0 ∙ get_or_append_left middle after 0 i lt

same_reads : (xs ys : List ℕ) → length xs ≡ length ys → ((i : ℕ) → i < length ys → get_or xs i 0 ≡ get_or ys i 0) → xs ≡ ys
same_reads xs ys len reads =
    front_from_reads 0 xs ys (omega (arith, len)) reads ∙ ap (λ (l : List ℕ). ys ++ l) (none_left (drop (length ys) xs) (omega (arith, length-drop (length ys) xs, len))) ∙ append-nil ys

-- what was written is there
pub holds_over : (before middle after new bytes : List ℕ) (at : ℕ) → at ≡ length before → length middle ≡ length bytes → Torn at (length bytes) (before ++ (middle ++ after)) new → Holds new at bytes
    → new ≡ before ++ (bytes ++ after)
holds_over before middle after new bytes at e len torn holds =
    let over = torn_over before middle after new at (length bytes) e len torn in
    let same : over.part ≡ bytes = same_reads over.part bytes over.len (λ i lt.
    sym (part_read before after new (length bytes) over i lt) ∙ ap (λ (k : ℕ). get_or new (k + i) 0) (sym e) ∙ holds.each i lt) in
    over.parts ∙ ap (λ (l : List ℕ). before ++ (l ++ after)) same

old_or_new_of : (ws cs : List ℕ) → length cs ≡ length ws → ((i : ℕ) → i < length ws → (get_or cs i 0 ≡ get_or ws i 0) ⊎ (get_or cs i 0 ≡ 0)) → OldOrNew ws cs
old_or_new_of [] [] len each = tt
old_or_new_of [] (c ∷ cs) len each = absurd (omega (arith, len))
old_or_new_of (w ∷ ws) [] len each = absurd (omega (arith, len))
old_or_new_of (w ∷ ws) (c ∷ cs) len each = (each 0 (omega arith), old_or_new_of ws cs (omega (arith, len)) (λ i lt. each (suc i) (omega (arith, lt))))

-- over zeros each byte is the one that was written, or zero
pub mixed_zeros : (before middle after left bytes : List ℕ) (at : ℕ) → at ≡ length before → length middle ≡ length bytes → ((i : ℕ) → i < length bytes → get_or middle i 0 ≡ 0)
    → Mixed at bytes (before ++ (middle ++ after)) left → (over : IsOver before after left (length bytes)) × OldOrNew bytes over.part
mixed_zeros before middle after left bytes at e len zeros mixed =
    let over = torn_over before middle after left at (length bytes) e len mixed.torn in
    let size = length-append before (middle ++ after) in
    let more = length-append middle after in (
      over,
      old_or_new_of bytes over.part over.len (λ i lt.
          let here : get_or over.part i 0 ≡ get_or left (at + i) 0 = sym (part_read before after left (length bytes) over i lt) ∙ ap (λ (k : ℕ). get_or left (k + i) 0) (sym e) in
          let was : get_or (before ++ (middle ++ after)) (at + i) 0 ≡ get_or middle i 0 =
          ap (λ (k : ℕ). get_or (before ++ (middle ++ after)) (k + i) 0) e ∙ middle_read before middle after i (omega (arith, len, lt)) in
          elim (mixed.each i lt (omega (arith, size, more, len, lt, e))) [
            | inl old ↦ inr (here ∙ old ∙ was ∙ zeros i lt)
            | inr new ↦ inl (here ∙ new)
          ]),
    )

-- zeros over bytes leave each byte, or zero
pub mixed_by_zeros : (before middle left bytes : List ℕ) (at : ℕ) → at ≡ length before → length middle ≡ length bytes → ((i : ℕ) → i < length bytes → get_or bytes i 0 ≡ 0)
    → Mixed at bytes (before ++ (middle ++ [])) left → (over : IsOver before [] left (length bytes)) × OldOrNew middle over.part
mixed_by_zeros before middle left bytes at e len zeros mixed =
    let over = torn_over before middle [] left at (length bytes) e len mixed.torn in
    let size = length-append before (middle ++ []) in
    let more = length-append middle [] in (
      over,
      old_or_new_of middle over.part (over.len ∙ sym len) (λ i lt.
          let few : i < length bytes = omega (arith, len, lt) in
          let here : get_or over.part i 0 ≡ get_or left (at + i) 0 = sym (part_read before [] left (length bytes) over i few) ∙ ap (λ (k : ℕ). get_or left (k + i) 0) (sym e) in
          let was : get_or (before ++ (middle ++ [])) (at + i) 0 ≡ get_or middle i 0 =
          ap (λ (k : ℕ). get_or (before ++ (middle ++ [])) (k + i) 0) e ∙ middle_read before middle [] i lt in
          elim (mixed.each i few (omega (arith, size, more, len, few, e))) [
            | inl old ↦ inl (here ∙ old ∙ was)
            | inr new ↦ inr (here ∙ new ∙ zeros i few)
          ]),
    )

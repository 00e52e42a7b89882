-- Bytes written into a buffer, one write after another.
use Rattle.std.proofs.Common.{◌≡◌, ◌≤◌, ◌<◌, ◌+◌, ℕ, List, [], ◌++◌, length, take, drop, get_or, inl, refl, sym, ap, subst, ◌∙◌, append_assoc, arith, length-append, length-take-le, length-drop, drop-drop}
use Rattle.std.specs.List.{flat_map}
use Rattle.std.proofs.lemmas.List.{take_more, flat_map_more, take-append-drop}
use Rattle.std.proofs.lemmas.List.Folds.{length-flat_map-take}
use Rattle.std.proofs.lemmas.Slice.{take-put_mid, drop-put_mid}
use borrow.Rule.Slice.PartMut.{put_mid, post_of}
use Rattle.rowanspan_c.specs.Placed.{Writes}
use Rattle.rowanspan_c.specs.Told.{HandsOut}
use Rattle.rowanspan_c.specs.declared.status.TheConstants.{DONE}

length-put_mid : (a n : ℕ) (xs ys : List ℕ) → length ys ≡ n → a + n ≤ length xs → length (put_mid a n xs ys) ≡ length xs
length-put_mid a n xs ys e fits =
    omega (arith, fits, e, length-append (take a xs) (ys ++ post_of a n xs), length-append ys (post_of a n xs), length-take-le a xs (omega (arith, fits)), length-drop n (drop a xs), length-drop a xs)

-- a part of the buffer that was replaced
pub written : (a n : ℕ) (xs ys bytes : List ℕ) → ys ≡ bytes → n ≡ length bytes → a + length bytes ≤ length xs
    → Writes bytes a xs (put_mid a n xs ys) (a + length bytes)
written a n xs ys bytes is count fits =
    let whole : length ys ≡ length bytes = ap length is in (
      refl,
      take-put_mid a n xs ys (a + length bytes) (omega (arith, whole)) (omega (arith, fits)) ∙ ap (λ (zs : List ℕ). take a xs ++ zs) is,
      drop-put_mid a n xs ys (a + length bytes) (omega (arith, count)) (omega (arith, fits)) (omega (arith, whole, count)),
      length-put_mid a n xs ys (omega (arith, whole, count)) (omega (arith, fits, count)),
    )

-- one write after another
pub then_writes : (a b old mid new : List ℕ) (at p q : ℕ) → Writes a at old mid p → Writes b p mid new q
    → Writes (a ++ b) at old new q
then_writes a b old mid new at p q first second =
    let ends : q ≡ p + length b = second.0 in
    let after : (xs : List ℕ) → drop q xs ≡ drop (length b) (drop p xs) =
    λ xs. ap (λ (n : ℕ). drop n xs) ends ∙ sym (drop-drop (length b) p xs) in (
      omega (arith, first.0, second.0, length-append a b),
      second.1 ∙ ap (λ (front : List ℕ). front ++ b) first.1 ∙ append_assoc (take at old) a b,
      second.2 ∙ after mid ∙ ap (drop (length b)) first.2 ∙ sym (after old),
      second.3 ∙ first.3,
    )

-- the next item of a list is written after those before it
pub writes_more : {X : Type 0} (f : X → List ℕ) (xs : List X) (i : ℕ) (d : X) (old mid new : List ℕ) (at p q : ℕ)
    → i < length xs → Writes (flat_map f (take i xs)) at old mid p → Writes (f (get_or xs i d)) p mid new q
    → Writes (flat_map f (take (i + 1) xs)) at old new q
writes_more {X} f xs i d old mid new at p q inside first second =
    subst (λ (bytes : List ℕ). Writes bytes at old new q)
    (flat_map_more f [] (take i xs) (get_or xs i d) ∙ ap (flat_map f) (sym (take_more xs i d inside)))
    (then_writes (flat_map f (take i xs)) (f (get_or xs i d)) old mid new at p q first second)

-- there is room for the next item of a list
pub has_room : {X : Type 0} (f : X → List ℕ) (xs : List X) (i : ℕ) (d : X) (old mid : List ℕ) (at p : ℕ)
    → i < length xs → at + length (flat_map f xs) ≤ length old → Writes (flat_map f (take i xs)) at old mid p
    → p + length (f (get_or xs i d)) ≤ length mid
has_room f xs i d old mid at p inside fits so_far =
    omega (arith, fits, so_far.0, so_far.3, length-flat_map-take f xs i d inside)

-- an answer that was written at the start of the buffer is handed out
pub handed_out : (bytes old new : List ℕ) (count after : ℕ) → count ≡ length bytes → count ≤ length old
    → Writes bytes 0 old new after → HandsOut bytes old new DONE count
handed_out bytes old new count after counted fits wrote =
    let ends : after ≡ length bytes = omega (arith, wrote.0) in
    inl (
      omega (arith, counted, fits),
      sym (take-append-drop after new) ∙ (λ i. wrote.1 i ++ wrote.2 i) ∙ ap (λ (n : ℕ). bytes ++ drop n old) ends,
      (refl, counted),
    )

-- Texts joined by commas, one by one.
use Rattle.std.proofs.Common.{◌≡◌, ℕ, zero, suc, ◌<◌, ◌+◌, List, [], ◌∷◌, ◌++◌, length, map, take, get_or, refl, ap, sym, ◌∙◌, arith, append_assoc, add-one}
use Rattle.std.specs.List.{join_with_byte}
use Rattle.mt_script.specs.Showing.{comma_before}

module _ {X : Type 0} (f : X → List ℕ) where
  pub joined_suc : (xs : List X) (i : ℕ) (d : X) → i < length xs → join_with_byte 44 (map f (take (suc i) xs)) ≡ (join_with_byte 44 (map f (take i xs)) ++ comma_before i) ++ f (get_or xs i d)
  joined_suc [] i d within = absurd (omega arith)
  joined_suc (x ∷ xs) zero d within = refl
  joined_suc (x ∷ []) (suc i) d within = absurd (omega arith)
  joined_suc (x ∷ y ∷ ys) (suc zero) d within = sym (append_assoc (f x) (44 ∷ []) (f y))
  joined_suc (x ∷ y ∷ ys) (suc (suc j)) d within =
      ap (λ l. f x ++ (44 ∷ l)) (joined_suc (y ∷ ys) (suc j) d (omega arith))
      ∙ sym (ap (λ l. l ++ f (get_or ys j d)) (append_assoc (f x) (44 ∷ join_with_byte 44 (map f (take (suc j) (y ∷ ys)))) (44 ∷ [])) ∙ append_assoc (f x) ((44 ∷ join_with_byte 44 (map f (take (suc j) (y ∷ ys)))) ++ (44 ∷ [])) (f (get_or ys j d)))

  -- one more text, after what was written for the ones before it
  pub joined_more : (xs : List X) (i : ℕ) (d : X) (start before comma after : List ℕ) → i < length xs → before ≡ start ++ join_with_byte 44 (map f (take i xs)) → comma ≡ before ++ comma_before i → after ≡ comma ++ f (get_or xs i d)
      → after ≡ start ++ join_with_byte 44 (map f (take (i + 1) xs))
  joined_more xs i d start before comma after within so_far with_comma then =
      then ∙ ap (λ l. l ++ f (get_or xs i d)) (with_comma ∙ ap (λ l. l ++ comma_before i) so_far)
      ∙ ap (λ l. l ++ f (get_or xs i d)) (append_assoc start (join_with_byte 44 (map f (take i xs))) (comma_before i))
      ∙ append_assoc start (join_with_byte 44 (map f (take i xs)) ++ comma_before i) (f (get_or xs i d))
      ∙ ap (λ l. start ++ l) (sym (joined_suc xs i d within)) ∙ ap (λ n. start ++ join_with_byte 44 (map f (take n xs))) (sym (add-one i))

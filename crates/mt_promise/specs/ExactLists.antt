-- If a test shows exactly which items are the same, the tests of lists, pairs and options do.
use Rattle.std.specs.Prelude.{◌≡◌, Bool, true, ◌&&◌, [], ◌∷◌, Some, None}
use Rattle.std.specs.Option.{option_eq}
use Rattle.std.specs.Cmp.{first_so, second_so}
use Rattle.std.specs.Cmp.Lexicographic.{pointwise}
use Rattle.std.proofs.Common.{refl, ap}
use Rattle.std.proofs.lemmas.Bool.{false≢true}

-- the test tells exactly which values are the same
abbrev pub TellsSame : {X : Type 0} → (X → X → Bool) → Type 0
TellsSame {X} test = (x y : X) → test x y ≡ true → x ≡ y

pub same_items : {X : Type 0} {test : X → X → Bool} → TellsSame test → TellsSame (pointwise test)
same_items same [] [] e = refl
same_items same [] (y ∷ ys) e = absurd (false≢true e)
same_items same (x ∷ xs) [] e = absurd (false≢true e)
same_items {test = test} same (x ∷ xs) (y ∷ ys) e =
    let head = same x y (first_so (test x y) (pointwise test xs ys) e) in
    let tail = same_items same xs ys (second_so (test x y) (pointwise test xs ys) e) in
    λ i. head i ∷ tail i

pub same_pairs : {A B : Type 0} {a : A → A → Bool} {b : B → B → Bool} → TellsSame a → TellsSame b → (x y : A × B)
    → a x.0 y.0 && b x.1 y.1 ≡ true → x ≡ y
same_pairs {a = a} {b = b} one other x y e =
    let head = one x.0 y.0 (first_so (a x.0 y.0) (b x.1 y.1) e) in
    let tail = other x.1 y.1 (second_so (a x.0 y.0) (b x.1 y.1) e) in
    λ i. (head i, tail i)

pub same_options : {X : Type 0} {test : X → X → Bool} → TellsSame test → TellsSame (option_eq test)
same_options same None None e = refl
same_options same None (Some y) e = absurd (false≢true e)
same_options same (Some x) None e = absurd (false≢true e)
same_options same (Some x) (Some y) e = ap Some (same x y e)

-- What a sorted map of versions has under each key once a version is added.
use Rattle.std.proofs.Common.{◌≡◌, ℕ, Bool, true, false, cond, List, [], ◌∷◌, ◌++◌, Option, Some, None, refl, ap, sym, ◌∙◌, subst}
use Rattle.std.specs.Global.{Vec}
use Rattle.std.specs.BTreeMap as tree
use Rattle.std.specs.Option.{IsSome, option_map_or}
use Rattle.std.specs.Ordering.{is_eq}
use Rattle.std.specs.Cmp.{eq_by_cmp_equiv}
use Rattle.std.specs.declared.cmp.Ordering.{Ordering}
use Rattle.std.specs.declared.cmp.Ordering.TheVariants.{Less, Equal, Greater}
use Rattle.mt_types.specs.Keys.{key_cmp}
use Rattle.mt_types.proofs.MapLemmas.{key_order, key_apart}
use Rattle.mt_check.specs.declared.versions.Version.{Version}

abbrev pub Tree : Type 0
Tree = tree.BTreeMap (List ℕ) (Vec Version)

abbrev pub items_in : Tree → List ℕ → List Version
items_in m key = option_map_or (λ (v : Vec Version). v.items) (tree.get key_cmp m key) []

equal : (o : Ordering) → is_eq o ≡ true → o ≡ Equal
equal Less p = cc
equal Equal p = refl
equal Greater p = cc

-- the versions under each key, where those under one get one more
pub added : (m n : Tree) (k : List ℕ) (version : Version) (new : Vec Version) → tree.Updates key_cmp m n k (Some new) → new.items ≡ items_in m k ++ version ∷ []
    → (q : List ℕ) → items_in n q ≡ cond (is_eq (key_cmp q k)) (items_in m q ++ version ∷ []) (items_in m q)
added m n k version new u e q =
    ap (λ (o : Option (Vec Version)). option_map_or (λ (v : Vec Version). v.items) o []) (u.0 q)
    ∙ ap (λ (b : Bool). option_map_or (λ (v : Vec Version). v.items) (cond b (Some new) (tree.get key_cmp m q)) []) ((eq_by_cmp_equiv key_order).symm k q)
    ∙ (elim (is_eq (key_cmp q k)) as (λ b. is_eq (key_cmp q k) ≡ b → option_map_or (λ (v : Vec Version). v.items) (cond b (Some new) (tree.get key_cmp m q)) [] ≡ cond b (items_in m q ++ version ∷ []) (items_in m q)) [
      | true ↦ λ t. e ∙ ap (λ (z : List ℕ). items_in m z ++ version ∷ []) (sym (key_apart q k (equal (key_cmp q k) t)))
      | false ↦ λ t. refl
    ] refl)

-- a version that is pushed where there are some
pub pushed : (m n : Tree) (k : List ℕ) (version : Version) (old new : Vec Version) → tree.WritesThrough key_cmp (key_cmp k) m new n → Some old ≡ tree.get key_cmp m k
    → new.items ≡ old.items ++ version ∷ []
    → (q : List ℕ) → items_in n q ≡ cond (is_eq (key_cmp q k)) (items_in m q ++ version ∷ []) (items_in m q)
pushed m n k version old new w found e =
    let there : IsSome (tree.get key_cmp m k) = subst IsSome found refl in
    let was : old.items ≡ items_in m k = ap (λ (o : Option (Vec Version)). option_map_or (λ (v : Vec Version). v.items) o []) found in
    added m n k version new (w.3 there) (e ∙ ap (λ (vs : List Version). vs ++ version ∷ []) was)

-- a version where there is none
pub first_added : (m l n : Tree) (k j : List ℕ) (version : Version) (new : Vec Version) → l ≡ m → None ≡ tree.get key_cmp m k → tree.Updates key_cmp l n j (Some new) → j ≡ k → new.items ≡ version ∷ []
    → (q : List ℕ) → items_in n q ≡ cond (is_eq (key_cmp q k)) (items_in m q ++ version ∷ []) (items_in m q)
first_added m l n k j version new unchanged none u same e =
    let was : items_in m k ≡ [] = ap (λ (o : Option (Vec Version)). option_map_or (λ (v : Vec Version). v.items) o []) (sym none) in
    let updates : tree.Updates key_cmp m n k (Some new) = subst (λ (z : List ℕ). tree.Updates key_cmp m n z (Some new)) same (subst (λ (z : Tree). tree.Updates key_cmp z n j (Some new)) unchanged u) in
    added m n k version new updates (e ∙ ap (λ (vs : List Version). vs ++ version ∷ []) (sym was))

-- Lists of entries in order: what a border's own type gives to the tree.
use Rattle.std.proofs.Common.{◌≡◌, ◌≢◌, ◌<◌, ◌⊎◌, ◌↔◌, inl, inr, ⊎_elim, List, [], ◌∷◌, ◌++◌, refl, sym, ap, subst, arith}
use Rattle.mt_chart.specs.Tree.{PlainEntry, Among, first, later}
use Rattle.mt_chart.specs.Chart.{class, Apart}

abbrev pub Before : PlainEntry → PlainEntry → Type 0
Before e f = (e.slice < f.slice) ⊎ ((e.slice ≡ f.slice) × (class e.content < class f.content))

-- strictly in order, by slice and then by class
abbrev pub InOrder : List PlainEntry → Type 0
InOrder [] = Unit {0}
InOrder (e ∷ es) = ((f : PlainEntry) → Among f es → Before e f) × InOrder es

not_same : (e f : PlainEntry) → Before e f → e.slice ≡ f.slice → class e.content ≡ class f.content → ⊥
not_same e f (inl h) s c = omega arith
not_same e f (inr h) s c = let k : class e.content < class f.content = h.1 in omega arith

pub in_order_apart : (es : List PlainEntry) → InOrder es → Apart es
in_order_apart [] o e f i j s c = elim i [ ]
in_order_apart (x ∷ es) o e f first first s c = refl
in_order_apart (x ∷ es) o e f first (later j) s c = absurd (not_same e f (o.0 f j) s c)
in_order_apart (x ∷ es) o e f (later i) first s c = absurd (not_same f e (o.0 e i) (sym s) (sym c))
in_order_apart (x ∷ es) o e f (later i) (later j) s c = in_order_apart es o.1 e f i j s c

among_parts : {A : Type 0} (e : A) (xs ys : List A) → Among e (xs ++ ys) → Among e xs ⊎ Among e ys
among_parts e [] ys i = inr i
among_parts e (x ∷ xs) ys first = inl first
among_parts e (x ∷ xs) ys (later i) = ⊎_elim (λ j. inl (later j)) (λ j. inr j) (among_parts e xs ys i)

among_whole : {A : Type 0} (e : A) (xs ys : List A) → Among e xs ⊎ Among e ys → Among e (xs ++ ys)
among_whole e [] ys (inl i) = elim i [ ]
among_whole e [] ys (inr i) = i
among_whole e (x ∷ xs) ys (inl first) = first
among_whole e (x ∷ xs) ys (inl (later i)) = later (among_whole e xs ys (inl i))
among_whole e (x ∷ xs) ys (inr i) = later (among_whole e xs ys (inr i))

pub among_append : {A : Type 0} (e : A) (xs ys : List A) → Among e (xs ++ ys) ↔ (Among e xs ⊎ Among e ys)
among_append e xs ys = (among_parts e xs ys, among_whole e xs ys)

pub among_cases : {A : Type 0} (e x : A) (ys : List A) → Among e (x ∷ ys) → (e ≡ x) ⊎ Among e ys
among_cases e x ys first = inl refl
among_cases e x ys (later i) = inr i

pub among_first : {A : Type 0} (e x : A) (ys : List A) → e ≡ x → Among e (x ∷ ys)
among_first e x ys q = subst (λ z. Among e (z ∷ ys)) q first

pub among_insert : {A : Type 0} (e x : A) (xs ys : List A) → Among e (xs ++ (x ∷ ys)) ↔ ((e ≡ x) ⊎ Among e (xs ++ ys))
among_insert e x xs ys = (λ i. there ((among_append e xs (x ∷ ys)).0 i), back)
  where
    behind : (e ≡ x) ⊎ Among e ys → (e ≡ x) ⊎ Among e (xs ++ ys)
    behind (inl q) = inl q
    behind (inr i) = inr ((among_append e xs ys).1 (inr i))

    there : Among e xs ⊎ Among e (x ∷ ys) → (e ≡ x) ⊎ Among e (xs ++ ys)
    there (inl i) = inr ((among_append e xs ys).1 (inl i))
    there (inr i) = behind (among_cases e x ys i)

    parts : Among e xs ⊎ Among e ys → Among e (xs ++ (x ∷ ys))
    parts (inl i) = (among_append e xs (x ∷ ys)).1 (inl i)
    parts (inr i) = (among_append e xs (x ∷ ys)).1 (inr (later i))

    back : (e ≡ x) ⊎ Among e (xs ++ ys) → Among e (xs ++ (x ∷ ys))
    back (inl q) = (among_append e xs (x ∷ ys)).1 (inr (among_first e x ys q))
    back (inr i) = parts ((among_append e xs ys).0 i)

-- an entry in order stands once: what `content_hidden` asks
pub stands_once : (e x : PlainEntry) (xs ys : List PlainEntry) → InOrder (xs ++ (x ∷ ys)) → Among e (xs ++ ys) → e ≢ x
stands_once e x [] ys o i q = not_same x e (o.0 e i) (ap (λ z. z.slice) (sym q)) (ap (λ (z : PlainEntry). class z.content) (sym q))
stands_once e x (y ∷ xs) ys o first q = not_same e x (o.0 x ((among_insert x x xs ys).1 (inl refl))) (ap (λ z. z.slice) q) (ap (λ (z : PlainEntry). class z.content) q)
stands_once e x (y ∷ xs) ys o (later i) q = stands_once e x xs ys o.1 i q

pub among_hidden : (x : PlainEntry) (xs ys : List PlainEntry) → InOrder (xs ++ (x ∷ ys)) → (e : PlainEntry) → Among e (xs ++ ys) ↔ (Among e (xs ++ (x ∷ ys)) × (e ≢ x))
among_hidden x xs ys o e = (λ i. ((among_insert e x xs ys).1 (inr i), stands_once e x xs ys o i), λ h. go h.1 ((among_insert e x xs ys).0 h.0))
  where
    go : e ≢ x → (e ≡ x) ⊎ Among e (xs ++ ys) → Among e (xs ++ ys)
    go ne (inl q) = absurd (ne q)
    go ne (inr i) = i

-- an entry replaces another: what `content_set` and the new layer ask
pub among_set : (x x' : PlainEntry) (xs ys : List PlainEntry) → InOrder (xs ++ (x ∷ ys)) → (e : PlainEntry) → Among e (xs ++ (x' ∷ ys)) ↔ ((e ≡ x') ⊎ (Among e (xs ++ (x ∷ ys)) × (e ≢ x)))
among_set x x' xs ys o e = (λ i. there ((among_insert e x' xs ys).0 i), back)
  where
    there : (e ≡ x') ⊎ Among e (xs ++ ys) → (e ≡ x') ⊎ (Among e (xs ++ (x ∷ ys)) × (e ≢ x))
    there (inl q) = inl q
    there (inr i) = inr ((among_hidden x xs ys o e).0 i)

    back : (e ≡ x') ⊎ (Among e (xs ++ (x ∷ ys)) × (e ≢ x)) → Among e (xs ++ (x' ∷ ys))
    back (inl q) = (among_insert e x' xs ys).1 (inl q)
    back (inr h) = (among_insert e x' xs ys).1 (inr ((among_hidden x xs ys o e).1 h))

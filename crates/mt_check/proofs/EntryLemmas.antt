-- The entries of a sorted map, as pairs that are among them.
use Rattle.std.proofs.Common.{◌≡◌, ℕ, Bool, true, false, cond, List, [], ◌∷◌, filter, Option, Some, refl, ap, sym, ◌∙◌, subst, inl, inr}
use Rattle.std.specs.Global.{Vec}
use Rattle.std.specs.BTreeMap as tree
use Rattle.std.specs.Map.{keys_of, lookup}
use Rattle.std.specs.List.{AllByRecursion}
use Rattle.std.specs.List.Sorted.{IsStrictlySortedBy}
use Rattle.std.specs.Option.{option_map_or}
use Rattle.std.specs.Ordering.{is_eq, is_ge}
use Rattle.std.specs.declared.cmp.Ordering.{Ordering}
use Rattle.std.specs.declared.cmp.Ordering.TheVariants.{Less, Equal, Greater}
use Rattle.std.proofs.lemmas.Bool.{false≢true, cases_Bool}
use Rattle.std.proofs.lemmas.Cmp.{tied_itself}
use Rattle.mt_types.specs.Keys.{key_cmp}
use Rattle.mt_types.proofs.MapLemmas.{key_order, key_apart}
use Rattle.mt_check.specs.declared.versions.Version.{Version}
use Rattle.mt_check.specs.declared.versions.Versions.{Versions}
use Rattle.mt_check.specs.Versions.{Rising, versions_in}
use Rattle.mt_check.specs.Ranges.{AllRise, entries_from}
use Rattle.mt_check.proofs.WalkLemmas.{In, Below, Sorted}

below_keys : {X : Type 0} (k : List ℕ) (es : List (List ℕ × X)) → AllByRecursion (λ y. key_cmp k y ≡ Less) (keys_of es) → Below k es
below_keys k [] h q x i = absurd i
below_keys k (e ∷ es) h q x i =
    elim i [
      | inl here ↦ subst (λ (y : List ℕ). key_cmp k y ≡ Less) here.0 h.0
      | inr there ↦ below_keys k es h.1 q x there
    ]

-- entries whose keys rise strictly
pub sorted_keys : {X : Type 0} (es : List (List ℕ × X)) → IsStrictlySortedBy key_cmp (keys_of es) → Sorted es
unfolding IsStrictlySortedBy
sorted_keys [] h = tt
sorted_keys (e ∷ es) h = (below_keys e.0 es h.0, sorted_keys es h.1)

pub equal_of : (o : Ordering) → is_eq o ≡ true → o ≡ Equal
equal_of Less e = absurd (false≢true e)
equal_of Equal e = refl
equal_of Greater e = absurd (false≢true e)

-- what a look-up finds stands among the entries
pub in_lookup : {X : Type 0} (k : List ℕ) (x : X) (es : List (List ℕ × X)) → lookup (tree.is_at (key_cmp k)) es ≡ Some x → In k x es
in_lookup k x [] e = cc
in_lookup {X} k x (f ∷ es) e =
    elim (cases_Bool (is_eq (key_cmp k f.0))) [
      | inl b ↦
          let here : Some f.1 ≡ Some x = rw b at e in
          let value : f.1 ≡ x = cc in
          inl (sym (key_apart k f.0 (equal_of (key_cmp k f.0) b)), value)
      | inr b ↦ inr (in_lookup k x es (rw b at e))
    ]

-- and what stands among them is found
pub lookup_in : {X : Type 0} (k : List ℕ) (x : X) (es : List (List ℕ × X)) → Sorted es → In k x es → lookup (tree.is_at (key_cmp k)) es ≡ Some x
lookup_in k x [] s i = absurd i
lookup_in {X} k x (f ∷ es) s i =
    elim i [
      | inl here ↦
          let tie : is_eq (key_cmp k f.0) ≡ true = ap is_eq (ap (key_cmp k) here.0 ∙ tied_itself key_order k) in
          rw tie (ap Some here.1)
      | inr there ↦
          let before : key_cmp f.0 k ≡ Less = s.0 k x there in
          elim (cases_Bool (is_eq (key_cmp k f.0))) [
            | inl b ↦
                let same : k ≡ f.0 = key_apart k f.0 (equal_of (key_cmp k f.0) b) in
                let itself : key_cmp f.0 f.0 ≡ Less = subst (λ (q : List ℕ). key_cmp f.0 q ≡ Less) same before in
                let tie : key_cmp f.0 f.0 ≡ Equal = tied_itself key_order f.0 in
                cc
            | inr b ↦ rw b (lookup_in k x es s.1 there)
          ]
    ]

pub in_filter : {X : Type 0} (p : List ℕ × X → Bool) (k : List ℕ) (x : X) (es : List (List ℕ × X)) → In k x (filter p es) → In k x es × (p (k, x) ≡ true)
in_filter p k x [] i = absurd i
in_filter {X} p k x (e ∷ es) i =
    elim (cases_Bool (p e)) [
      | inl b ↦
          let j = subst (λ (t : Bool). In k x (cond t (e ∷ filter p es) (filter p es))) b i in
          elim j [
            | inl here ↦
                let same : ◌≡◌ {A = List ℕ × X} e (k, x) = λ t. (here.0 t, here.1 t) in
                (inl here, ap p (sym same) ∙ b)
            | inr there ↦ let r = in_filter p k x es there in (inr r.0, r.1)
          ]
      | inr b ↦
          let j = subst (λ (t : Bool). In k x (cond t (e ∷ filter p es) (filter p es))) b i in
          let r = in_filter p k x es j in (inr r.0, r.1)
    ]

pub filter_in : {X : Type 0} (p : List ℕ × X → Bool) (k : List ℕ) (x : X) (es : List (List ℕ × X)) → In k x es → p (k, x) ≡ true → In k x (filter p es)
filter_in p k x [] i h = absurd i
filter_in {X} p k x (e ∷ es) i h =
    elim i [
      | inl here ↦
          let same : ◌≡◌ {A = List ℕ × X} e (k, x) = λ t. (here.0 t, here.1 t) in
          let b : p e ≡ true = ap p same ∙ h in
          subst (λ (t : Bool). In k x (cond t (e ∷ filter p es) (filter p es))) (sym b) (inl here)
      | inr there ↦
          let r = filter_in p k x es there h in
          elim (cases_Bool (p e)) [
            | inl b ↦ subst (λ (t : Bool). In k x (cond t (e ∷ filter p es) (filter p es))) (sym b) (inr r)
            | inr b ↦ subst (λ (t : Bool). In k x (cond t (e ∷ filter p es) (filter p es))) (sym b) r
          ]
    ]

pub sorted_filter : {X : Type 0} (p : List ℕ × X → Bool) (es : List (List ℕ × X)) → Sorted es → Sorted (filter p es)
sorted_filter p [] s = tt
sorted_filter {X} p (e ∷ es) s =
    let rest = sorted_filter p es s.1 in
    elim (p e) as (λ t. Sorted (cond t (e ∷ filter p es) (filter p es))) [
      | true ↦ (λ q x i. s.0 q x (in_filter p q x es i).0, rest)
      | false ↦ rest
    ]

-- the versions of an entry are those of its key
pub versions_of_entry : (versions : Versions) (k : List ℕ) (v : Vec Version) → tree.IsOrdered key_cmp versions.of → In k v versions.of.entries → versions_in versions k ≡ v.items
versions_of_entry versions k v ordered i =
    ap (λ (o : Option (Vec Version)). option_map_or (λ (w : Vec Version). w.items) o []) (lookup_in k v versions.of.entries (sorted_keys versions.of.entries ordered) i)

all_rise : (es : List (List ℕ × Vec Version)) → ((k : List ℕ) (v : Vec Version) → In k v es → Rising 0 v.items) → AllRise es
all_rise [] h = tt
all_rise (e ∷ es) h = (h e.0 e.1 (inl (refl, refl)), all_rise es (λ k v i. h k v (inr i)))

-- if the versions of each key rise, those of the entries do
pub entries_rise : (versions : Versions) (start : List ℕ) → tree.IsOrdered key_cmp versions.of → ((key : List ℕ) → Rising 0 (versions_in versions key)) → AllRise (entries_from start versions)
entries_rise versions start ordered rising =
    all_rise (entries_from start versions) (λ k v i.
    subst (λ (vs : List Version). Rising 0 vs) (versions_of_entry versions k v ordered (in_filter (λ entry. is_ge (key_cmp entry.0 start)) k v versions.of.entries i).0) (rising k))

-- What is read is what was spelled, and what was spelled is read again, whatever follows: for fields, and for what is
-- put together of them.
use Rattle.std.proofs.Common.{◌≡◌, ℕ, zero, suc, ◌+◌, ◌^◌, ◌<◌, ◌≤◌, Bool, true, false, cond, ltb, List, [], ◌∷◌, ◌++◌, length, get_or, take, drop, Option, Some, None, refl, sym, ap, subst, ◌∙◌, append_assoc, arith, inl, inr}
use Rattle.std.specs.List.{flat_map, AllByRecursion}
use Rattle.std.specs.Int.{Width, w16, w32, w64, byte_len, from_be_bytes, to_be_bytes}
use Rattle.std.proofs.lemmas.Bool.{cases_lt, ltb-false, le-ltb}
use Rattle.std.proofs.lemmas.List.{take_at, drop_at, take-append-drop, length-append, length-take, get_or-drop, get_or-take, get_or_past}
use Rattle.std.proofs.lemmas.List.Concat.{flat_map-cons}
use Rattle.std.proofs.lemmas.Nat.{be_bytes_2, be_bytes_4, be_bytes_8, from_be_bytes-to_be_bytes_2, from_be_bytes-to_be_bytes_4, from_be_bytes-to_be_bytes_8}
use Rattle.mt_wire.specs.Spelling.{key_spelling, short_spelling, counted, counted16}
use Rattle.mt_wire.specs.Fits.{KeyFits, ShortFits, CountedFits, Counted16Fits}
use Rattle.mt_wire.specs.Reading.{Reader, ◌>>=◌, both, made, nothing_at, bytes_at, number_at, byte_at, key_at, short_at, times_at, counted_at, counted16_at, kind_at}

abbrev pub IsBytes : List ℕ → Type 0
IsBytes bytes = (i : ℕ) → get_or bytes i 0 < 256

pub IsBytes-drop : (n : ℕ) (bytes : List ℕ) → IsBytes bytes → IsBytes (drop n bytes)
IsBytes-drop n bytes h i = rw get_or-drop (h (n + i))

pub IsBytes-take : (n : ℕ) (bytes : List ℕ) → IsBytes bytes → IsBytes (take n bytes)
IsBytes-take n bytes h i =
    elim (cases_lt i n) [
      | inl lt ↦ rw (get_or-take n bytes i 0 lt) (h i)
      | inr le ↦ rw (get_or_past (take n bytes) i 0 (omega (arith, length-take n bytes))) (omega arith)
    ]

pub IsBytes-rest : (b : ℕ) (bytes : List ℕ) → IsBytes (b ∷ bytes) → IsBytes bytes
IsBytes-rest b bytes h i = h (suc i)

-- the value of a step that did not fail
pub bind_some : {A B : Type 0} (r : Option A) (f : A → Option B) (y : B) → (r >>= f) ≡ Some y → (x : A) × (r ≡ Some x) × (f x ≡ Some y)
bind_some (Some x) f y e = (x, refl, e)
bind_some None f y e = absurd cc

pub guard_some : {A : Type 0} (b : Bool) (x y : A) → cond b None (Some x) ≡ Some y → (b ≡ false) × (x ≡ y)
guard_some true x y e = absurd cc
guard_some false x y e = (refl, cc)

abbrev pub some : {A : Type 0} → A → Option A
some x = Some x

pub some_is : {A : Type 0} (x y : A) → some x ≡ some y → x ≡ y
some_is x y e = cc

-- what a reader took from the front
pub record Takes (bytes text rest : List ℕ) : Type 0 where
  pub parts : bytes ≡ text ++ rest
  pub rest_fits : IsBytes rest

pub Takes-then : (a x b y c : List ℕ) → Takes a x b → Takes b y c → Takes a (x ++ y) c
Takes-then a x b y c p q = record { parts = p.parts ∙ ap (λ (t : List ℕ). x ++ t) q.parts ∙ sym (append_assoc x y c); rest_fits = q.rest_fits }

-- reading undoes spelling, and takes nothing else
pub record IsExact (A : Type 0) (Fits : A → Type 0) (spell : A → List ℕ) (read : Reader A) : Type 0 where
  pub takes : (bytes : List ℕ) (x : A × List ℕ) → IsBytes bytes → read bytes ≡ Some x → Takes bytes (spell x.0) x.1 × Fits x.0
  pub again : (x : A) (rest : List ℕ) → Fits x → read (spell x ++ rest) ≡ Some (x, rest)

-- ---- one after the other

pub both_exact : {A B : Type 0} {F : A → Type 0} {G : B → Type 0} {f : A → List ℕ} {g : B → List ℕ} {a : Reader A} {b : Reader B} → IsExact A F f a → IsExact B G g b
    → IsExact (A × B) (λ x. F x.0 × G x.1) (λ x. f x.0 ++ g x.1) (both a b)
both_exact {A} {B} {F} {G} {f} {g} {a} {b} ea eb = record {
  takes = λ bytes x fits e.
      let p = bind_some (a bytes) (λ u. b u.1 >>= λ v. Some ((u.0, v.0), v.1)) x e in
      let q = bind_some (b p.0.1) (λ v. Some ((p.0.0, v.0), v.1)) x p.2 in
      let t = ea.takes bytes p.0 fits p.1 in
      let s = eb.takes p.0.1 q.0 t.0.rest_fits q.1 in
      let found : (A × B) × List ℕ = ((p.0.0, q.0.0), q.0.1) in
      subst (λ (y : (A × B) × List ℕ). Takes bytes (f y.0.0 ++ g y.0.1) y.1 × (F y.0.0 × G y.0.1)) (some_is found x q.2) (Takes-then bytes (f p.0.0) p.0.1 (g q.0.0) q.0.1 t.0 s.0, (t.1, s.1));
  again = λ x rest h.
      ap (both a b) (append_assoc (f x.0) (g x.1) rest) ∙ rw (ea.again x.0 (g x.1 ++ rest) h.0, eb.again x.1 rest h.1) refl;
}

-- ---- what is made of a value

pub made_takes : {A B : Type 0} {F : A → Type 0} {spell : A → List ℕ} {a : Reader A} (make : A → B) (spell_made : B → List ℕ) (Fits : B → Type 0) (kind : ℕ) → IsExact A F spell a
    → ((x : A) → spell_made (make x) ≡ kind ∷ spell x) → ((x : A) → F x → Fits (make x))
    → (bytes : List ℕ) (y : B × List ℕ) → IsBytes bytes → made make a bytes ≡ Some y → Takes (kind ∷ bytes) (spell_made y.0) y.1 × Fits y.0
made_takes {A} {B} {F} {spell} {a} make spell_made Fits kind exact spelled fit bytes y fits e =
    let p = bind_some (a bytes) (λ x. Some (make x.0, x.1)) y e in
    let t = exact.takes bytes p.0 fits p.1 in
    let found : B × List ℕ = (make p.0.0, p.0.1) in
    let parts : kind ∷ bytes ≡ spell_made (make p.0.0) ++ p.0.1 = ap (λ (w : List ℕ). kind ∷ w) t.0.parts ∙ ap (λ (w : List ℕ). w ++ p.0.1) (sym (spelled p.0.0)) in
    subst (λ (z : B × List ℕ). Takes (kind ∷ bytes) (spell_made z.0) z.1 × Fits z.0) (some_is found y p.2) (record { parts = parts; rest_fits = t.0.rest_fits }, fit p.0.0 t.1)

pub made_again : {A B : Type 0} {F : A → Type 0} {spell : A → List ℕ} {a : Reader A} (make : A → B) → IsExact A F spell a → (x : A) (rest : List ℕ) → F x → made make a (spell x ++ rest) ≡ Some (make x, rest)
made_again {A} {B} {F} {spell} {a} make exact x rest h = rw (exact.again x rest h) refl

pub made_exact : {A B : Type 0} {F : A → Type 0} {spell : A → List ℕ} {a : Reader A} (make : A → B) (back : B → A) (spell_made : B → List ℕ) (Fits : B → Type 0) → IsExact A F spell a
    → ((x : A) → F x → spell_made (make x) ≡ spell x) → ((x : A) → F x → Fits (make x))
    → ((y : B) → Fits y → F (back y)) → ((y : B) → make (back y) ≡ y)
    → ((y : B) → spell_made y ≡ spell (back y))
    → IsExact B Fits spell_made (made make a)
made_exact {A} {B} {F} {spell} {a} make back spell_made Fits exact spelled fit unfit same respelled = record {
  takes = λ bytes y fits e.
      let p = bind_some (a bytes) (λ x. Some (make x.0, x.1)) y e in
      let t = exact.takes bytes p.0 fits p.1 in
      let found : B × List ℕ = (make p.0.0, p.0.1) in
      let parts : bytes ≡ spell_made (make p.0.0) ++ p.0.1 = t.0.parts ∙ ap (λ (w : List ℕ). w ++ p.0.1) (sym (spelled p.0.0 t.1)) in
      subst (λ (z : B × List ℕ). Takes bytes (spell_made z.0) z.1 × Fits z.0) (some_is found y p.2) (record { parts = parts; rest_fits = t.0.rest_fits }, fit p.0.0 t.1);
  again = λ y rest h.
      ap (λ (w : List ℕ). made make a (w ++ rest)) (respelled y) ∙ made_again make exact (back y) rest (unfit y h) ∙ ap (λ (z : B). Some (z, rest)) (same y);
}

pub kind_exact : {B : Type 0} {Fits : B → Type 0} {spell : B → List ℕ} {rest_at : ℕ → Reader B}
    → ((kind : ℕ) (bytes : List ℕ) (y : B × List ℕ) → IsBytes bytes → rest_at kind bytes ≡ Some y → Takes (kind ∷ bytes) (spell y.0) y.1 × Fits y.0)
    → ((x : B) (rest : List ℕ) → Fits x → kind_at rest_at (spell x ++ rest) ≡ Some (x, rest))
    → IsExact B Fits spell (kind_at rest_at)
unfolding kind_at byte_at
kind_exact {B} {Fits} {spell} {rest_at} takes again = record { takes = kind_takes takes; again = again }
  where
    kind_takes : ((kind : ℕ) (bytes : List ℕ) (y : B × List ℕ) → IsBytes bytes → rest_at kind bytes ≡ Some y → Takes (kind ∷ bytes) (spell y.0) y.1 × Fits y.0)
        → (bytes : List ℕ) (x : B × List ℕ) → IsBytes bytes → kind_at rest_at bytes ≡ Some x → Takes bytes (spell x.0) x.1 × Fits x.0
    kind_takes takes [] x fits e = absurd cc
    kind_takes takes (kind ∷ bytes) x fits e = takes kind bytes x (IsBytes-rest kind bytes fits) e

-- ---- no bytes, a byte, as many bytes, numbers

pub nothing_exact : IsExact (Unit {0}) (λ _. Unit {0}) (λ _. []) nothing_at
nothing_exact = record {
  takes = λ bytes x fits e. subst (λ (y : Unit {0} × List ℕ). Takes bytes [] y.1 × Unit {0}) (some_is (tt, bytes) x e) (record { parts = refl; rest_fits = fits }, tt);
  again = λ x rest h. refl;
}

byte_takes : (bytes : List ℕ) (x : ℕ × List ℕ) → IsBytes bytes → byte_at bytes ≡ Some x → Takes bytes (x.0 ∷ []) x.1 × (x.0 < 2 ^ 8)
unfolding byte_at
byte_takes [] x fits e = absurd cc
byte_takes (b ∷ bytes) x fits e = subst (λ (y : ℕ × List ℕ). Takes (b ∷ bytes) (y.0 ∷ []) y.1 × (y.0 < 2 ^ 8)) (some_is (b, bytes) x e) (record { parts = refl; rest_fits = IsBytes-rest b bytes fits }, fits 0)

pub byte_again : (x : ℕ) (rest : List ℕ) → byte_at (x ∷ rest) ≡ Some (x, rest)
unfolding byte_at
byte_again x rest = refl

pub byte_exact : IsExact ℕ (λ _. Unit {0}) (λ n. n ∷ []) byte_at
byte_exact = record {
  takes = λ bytes x fits e. ((byte_takes bytes x fits e).0, tt);
  again = λ x rest h. byte_again x rest;
}

pub bytes_take : (n : ℕ) (bytes : List ℕ) (x : List ℕ × List ℕ) → IsBytes bytes → bytes_at n bytes ≡ Some x → Takes bytes x.0 x.1 × (length x.0 ≡ n)
unfolding bytes_at
bytes_take n bytes x fits e =
    let g = guard_some (ltb (length bytes) n) (take n bytes, drop n bytes) x e in
    let long : n ≤ length bytes = ltb-false _ _ g.0 in
    let len : length (take n bytes) ≡ n = omega (arith, length-take n bytes) in
    subst (λ (y : List ℕ × List ℕ). Takes bytes y.0 y.1 × (length y.0 ≡ n)) g.1 (record { parts = sym (take-append-drop n bytes); rest_fits = IsBytes-drop n bytes fits }, len)

bytes_again : (text rest : List ℕ) → bytes_at (length text) (text ++ rest) ≡ Some (text, rest)
unfolding bytes_at
bytes_again text rest =
    let long : ltb (length (text ++ rest)) (length text) ≡ false = le-ltb _ _ (omega (arith, length-append text rest)) in
    rw (long, take_at text rest (length text) refl, drop_at text rest (length text) refl) refl

pub record IsWide (w : Width) (limit : ℕ) : Type 0 where
  pub len : (n : ℕ) → length (to_be_bytes w n) ≡ byte_len w
  pub back : (bytes : List ℕ) → length bytes ≡ byte_len w → IsBytes bytes → to_be_bytes w (from_be_bytes w bytes) ≡ bytes
  pub again : (n : ℕ) → n < limit → from_be_bytes w (to_be_bytes w n) ≡ n
  pub below : (bytes : List ℕ) → IsBytes bytes → from_be_bytes w bytes < limit

pub wide16 : IsWide w16 (2 ^ 16)
wide16 = record {
  len = λ n. refl;
  back = λ bytes len fits. be_bytes_2 bytes _ len fits refl;
  again = λ n lt. from_be_bytes-to_be_bytes_2 n lt;
  below = λ bytes fits. omega (arith, fits 0, fits 1);
}

pub wide32 : IsWide w32 (2 ^ 32)
wide32 = record {
  len = λ n. refl;
  back = λ bytes len fits. be_bytes_4 bytes _ len fits refl;
  again = λ n lt. from_be_bytes-to_be_bytes_4 n lt;
  below = λ bytes fits. omega (arith, fits 0, fits 1, fits 2, fits 3);
}

pub wide64 : IsWide w64 (2 ^ 64)
wide64 = record {
  len = λ n. refl;
  back = λ bytes len fits. be_bytes_8 bytes _ len fits refl;
  again = λ n lt. from_be_bytes-to_be_bytes_8 n lt;
  below = λ bytes fits. omega (arith, fits 0, fits 1, fits 2, fits 3, fits 4, fits 5, fits 6, fits 7);
}

number_takes : (w : Width) (limit : ℕ) (wide : IsWide w limit) (bytes : List ℕ) (x : ℕ × List ℕ) → IsBytes bytes → number_at w bytes ≡ Some x → Takes bytes (to_be_bytes w x.0) x.1 × (x.0 < limit)
unfolding number_at
number_takes w limit wide bytes x fits e =
    let front = take (byte_len w) bytes in
    let back = drop (byte_len w) bytes in
    let g = guard_some (ltb (length bytes) (byte_len w)) (from_be_bytes w front, back) x e in
    let long : byte_len w ≤ length bytes = ltb-false _ _ g.0 in
    let front_fits = IsBytes-take (byte_len w) bytes fits in
    let spelled : to_be_bytes w (from_be_bytes w front) ≡ front = wide.back front (omega (arith, length-take (byte_len w) bytes)) front_fits in
    let parts : bytes ≡ to_be_bytes w (from_be_bytes w front) ++ back = sym (take-append-drop (byte_len w) bytes) ∙ ap (λ (t : List ℕ). t ++ back) (sym spelled) in
    subst (λ (y : ℕ × List ℕ). Takes bytes (to_be_bytes w y.0) y.1 × (y.0 < limit)) g.1 (record { parts = parts; rest_fits = IsBytes-drop (byte_len w) bytes fits }, wide.below front front_fits)

number_again : (w : Width) (limit : ℕ) (wide : IsWide w limit) (n : ℕ) (rest : List ℕ) → n < limit → number_at w (to_be_bytes w n ++ rest) ≡ Some (n, rest)
unfolding number_at
number_again w limit wide n rest lt =
    let len = wide.len n in
    let long : ltb (length (to_be_bytes w n ++ rest)) (byte_len w) ≡ false = le-ltb _ _ (omega (arith, length-append (to_be_bytes w n) rest)) in
    rw (long, take_at (to_be_bytes w n) rest (byte_len w) len, drop_at (to_be_bytes w n) rest (byte_len w) len, wide.again n lt) refl

pub number_exact : (w : Width) (limit : ℕ) → IsWide w limit → IsExact ℕ (λ n. n < limit) (λ n. to_be_bytes w n) (number_at w)
number_exact w limit wide = record {
  takes = number_takes w limit wide;
  again = number_again w limit wide;
}

-- ---- bytes after their length

key_takes : (bytes : List ℕ) (x : List ℕ × List ℕ) → IsBytes bytes → key_at bytes ≡ Some x → Takes bytes (key_spelling x.0) x.1 × KeyFits x.0
unfolding key_at
key_takes bytes x fits e =
    let p = bind_some (number_at w16 bytes) (λ n. bytes_at n.0 n.1) x e in
    let t = number_takes w16 (2 ^ 16) wide16 bytes p.0 fits p.1 in
    let s = bytes_take p.0.0 p.0.1 x t.0.rest_fits p.2 in
    let whole = Takes-then bytes (to_be_bytes w16 p.0.0) p.0.1 x.0 x.1 t.0 s.0 in
    (subst (λ (n : ℕ). Takes bytes (to_be_bytes w16 n ++ x.0) x.1) (sym s.1) whole, omega (arith, s.1, t.1))

key_again : (key rest : List ℕ) → KeyFits key → key_at (key_spelling key ++ rest) ≡ Some (key, rest)
unfolding key_at
key_again key rest h =
    ap key_at (append_assoc (to_be_bytes w16 (length key)) key rest) ∙ rw (number_again w16 (2 ^ 16) wide16 (length key) (key ++ rest) h, bytes_again key rest) refl

pub key_exact : IsExact (List ℕ) KeyFits key_spelling key_at
key_exact = record { takes = key_takes; again = key_again }

short_takes : (bytes : List ℕ) (x : List ℕ × List ℕ) → IsBytes bytes → short_at bytes ≡ Some x → Takes bytes (short_spelling x.0) x.1 × ShortFits x.0
unfolding short_at
short_takes bytes x fits e =
    let p = bind_some (byte_at bytes) (λ n. bytes_at n.0 n.1) x e in
    let t = byte_takes bytes p.0 fits p.1 in
    let s = bytes_take p.0.0 p.0.1 x t.0.rest_fits p.2 in
    let whole = Takes-then bytes (p.0.0 ∷ []) p.0.1 x.0 x.1 t.0 s.0 in
    (subst (λ (n : ℕ). Takes bytes (n ∷ x.0) x.1) (sym s.1) whole, omega (arith, s.1, t.1))

short_again : (text rest : List ℕ) → ShortFits text → short_at (short_spelling text ++ rest) ≡ Some (text, rest)
unfolding short_at
short_again text rest h = rw (byte_again (length text) (text ++ rest), bytes_again text rest) refl

pub short_exact : IsExact (List ℕ) ShortFits short_spelling short_at
short_exact = record { takes = short_takes; again = short_again }

-- ---- items

pub times_take : {A : Type 0} {F : A → Type 0} {spell : A → List ℕ} {item : Reader A} → IsExact A F spell item
    → (n : ℕ) (bytes : List ℕ) (x : List A × List ℕ) → IsBytes bytes → times_at item n bytes ≡ Some x → Takes bytes (flat_map spell x.0) x.1 × (length x.0 ≡ n) × AllByRecursion F x.0
unfolding times_at
times_take {A} {F} {spell} {item} exact zero bytes x fits e =
    subst (λ (y : List A × List ℕ). Takes bytes (flat_map spell y.0) y.1 × (length y.0 ≡ 0) × AllByRecursion F y.0) (some_is ([], bytes) x e) (record { parts = refl; rest_fits = fits }, refl, tt)
times_take {A} {F} {spell} {item} exact (suc n) bytes x fits e =
    let a = bind_some (item bytes) (λ first. times_at item n first.1 >>= λ others. Some (first.0 ∷ others.0, others.1)) x e in
    let b = bind_some (times_at item n a.0.1) (λ others. Some (a.0.0 ∷ others.0, others.1)) x a.2 in
    let first = exact.takes bytes a.0 fits a.1 in
    let second = times_take exact n a.0.1 b.0 first.0.rest_fits b.1 in
    let whole = Takes-then bytes (spell a.0.0) a.0.1 (flat_map spell b.0.0) b.0.1 first.0 second.0 in
    let found : List A × List ℕ = (a.0.0 ∷ b.0.0, b.0.1) in
    subst (λ (y : List A × List ℕ). Takes bytes (flat_map spell y.0) y.1 × (length y.0 ≡ suc n) × AllByRecursion F y.0) (some_is found x b.2) (rw flat_map-cons whole, ap suc second.1, (first.1, second.2))

pub times_again : {A : Type 0} {F : A → Type 0} {spell : A → List ℕ} {item : Reader A} → IsExact A F spell item
    → (xs : List A) (rest : List ℕ) → AllByRecursion F xs → times_at item (length xs) (flat_map spell xs ++ rest) ≡ Some (xs, rest)
unfolding times_at
times_again exact [] rest fits = refl
times_again {A} {F} {spell} {item} exact (x ∷ xs) rest fits =
    let regrouped : flat_map spell (x ∷ xs) ++ rest ≡ spell x ++ (flat_map spell xs ++ rest) = ap (λ (w : List ℕ). w ++ rest) (flat_map-cons spell x xs) ∙ append_assoc (spell x) (flat_map spell xs) rest in
    ap (times_at item (suc (length xs))) regrouped ∙ rw (exact.again x (flat_map spell xs ++ rest) fits.0, times_again exact xs rest fits.1) refl

counted_takes : {A : Type 0} {F : A → Type 0} {spell : A → List ℕ} {item : Reader A} → IsExact A F spell item
    → (bytes : List ℕ) (x : List A × List ℕ) → IsBytes bytes → counted_at item bytes ≡ Some x → Takes bytes (counted spell x.0) x.1 × CountedFits F x.0
unfolding counted_at
counted_takes {A} {F} {spell} {item} exact bytes x fits e =
    let p = bind_some (byte_at bytes) (λ n. times_at item n.0 n.1) x e in
    let t = byte_takes bytes p.0 fits p.1 in
    let s = times_take exact p.0.0 p.0.1 x t.0.rest_fits p.2 in
    let whole = Takes-then bytes (p.0.0 ∷ []) p.0.1 (flat_map spell x.0) x.1 t.0 s.0 in
    (subst (λ (n : ℕ). Takes bytes (n ∷ flat_map spell x.0) x.1) (sym s.1) whole, (omega (arith, s.1, t.1), s.2))

counted_again : {A : Type 0} {F : A → Type 0} {spell : A → List ℕ} {item : Reader A} → IsExact A F spell item
    → (xs : List A) (rest : List ℕ) → CountedFits F xs → counted_at item (counted spell xs ++ rest) ≡ Some (xs, rest)
unfolding counted_at
counted_again {A} {F} {spell} {item} exact xs rest h =
    rw (byte_again (length xs) (flat_map spell xs ++ rest), times_again exact xs rest h.1) refl

pub counted_exact : {A : Type 0} {F : A → Type 0} {spell : A → List ℕ} {item : Reader A} → IsExact A F spell item → IsExact (List A) (CountedFits F) (counted spell) (counted_at item)
counted_exact exact = record { takes = counted_takes exact; again = counted_again exact }

counted16_takes : {A : Type 0} {F : A → Type 0} {spell : A → List ℕ} {item : Reader A} → IsExact A F spell item
    → (bytes : List ℕ) (x : List A × List ℕ) → IsBytes bytes → counted16_at item bytes ≡ Some x → Takes bytes (counted16 spell x.0) x.1 × Counted16Fits F x.0
unfolding counted16_at
counted16_takes {A} {F} {spell} {item} exact bytes x fits e =
    let p = bind_some (number_at w16 bytes) (λ n. times_at item n.0 n.1) x e in
    let t = number_takes w16 (2 ^ 16) wide16 bytes p.0 fits p.1 in
    let s = times_take exact p.0.0 p.0.1 x t.0.rest_fits p.2 in
    let whole = Takes-then bytes (to_be_bytes w16 p.0.0) p.0.1 (flat_map spell x.0) x.1 t.0 s.0 in
    (subst (λ (n : ℕ). Takes bytes (to_be_bytes w16 n ++ flat_map spell x.0) x.1) (sym s.1) whole, (omega (arith, s.1, t.1), s.2))

counted16_again : {A : Type 0} {F : A → Type 0} {spell : A → List ℕ} {item : Reader A} → IsExact A F spell item
    → (xs : List A) (rest : List ℕ) → Counted16Fits F xs → counted16_at item (counted16 spell xs ++ rest) ≡ Some (xs, rest)
unfolding counted16_at
counted16_again {A} {F} {spell} {item} exact xs rest h =
    ap (counted16_at item) (append_assoc (to_be_bytes w16 (length xs)) (flat_map spell xs) rest)
    ∙ rw (number_again w16 (2 ^ 16) wide16 (length xs) (flat_map spell xs ++ rest) h.0, times_again exact xs rest h.1) refl

pub counted16_exact : {A : Type 0} {F : A → Type 0} {spell : A → List ℕ} {item : Reader A} → IsExact A F spell item
    → IsExact (List A) (Counted16Fits F) (counted16 spell) (counted16_at item)
counted16_exact exact = record { takes = counted16_takes exact; again = counted16_again exact }

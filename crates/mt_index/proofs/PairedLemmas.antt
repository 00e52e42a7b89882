-- The machine's calls and the history's, paired one by one, and what each change leaves.
use Rattle.std.proofs.Common.{◌≡◌, ◌<◌, ◌≢◌, ◌≤◌, ◌+◌, ◌==◌, ℕ, suc, Bool, true, false, not, cond, List, [], ◌∷◌, ◌++◌, length, Option, Some, None, sym, ◌∙◌, ap, subst, refl, arith, inl, inr}
use Rattle.std.proofs.lemmas.Bool.{eq-eqb, ne_eqb}
use Rattle.std.proofs.lemmas.Bool.Decides.{eqb_tells}
use Rattle.mt_chart.specs.Tree.{Among, first, later}
use Rattle.mt_promise.specs.History.{OpenCall, call_of, without_call, replace_call}
use Rattle.mt_index.specs.declared.calls.Call.{Call}
use Rattle.std.specs.Option.{option_map}
use Rattle.mt_types.specs.declared.numbers.PassNo.{PassNo}
use Rattle.mt_index.specs.Calls.{call_at, pass_at, with_changed, without}
use Rattle.mt_index.specs.Paired.{Paired}
use Rattle.mt_index.proofs.NumberLemmas.{Entries, call_at-here, call_at-there, found-here, found-there, changed-here, changed-there, without-here, without-there}

abbrev pub Relation : Type 1
Relation = ℕ × Call → OpenCall → Type 0

-- calls other than this one go over to another relation
abbrev pub Others : ℕ → Entries → Relation → Relation → Type 0
Others n ks R R' = (k : ℕ × Call) (c : OpenCall) → Among k ks → k.0 ≢ n → R k c → R' k c

fewer : (n : ℕ) (k : ℕ × Call) (ks : Entries) (R R' : Relation) → Others n (k ∷ ks) R R' → Others n ks R R'
fewer n k ks R R' f j c i ne r = f j c (later i) ne r

-- where all numbers are above n, each call goes over
pub paired-above : (n : ℕ) (R R' : Relation) (low high : ℕ) (ks : Entries) (cs : List OpenCall) → Others n ks R R' → n ≤ low → Paired R low high ks cs → Paired R' low high ks cs
paired-above n R R' low high [] [] f le s = s
paired-above n R R' low high (k ∷ ks) (c ∷ cs) f le s =
    let b = s.0 in let e = s.1 in
    (s.0, s.1, f k c first (omega arith) s.2, paired-above n R R' c.number high ks cs (fewer n k ks R R' f) (omega arith) s.3)
paired-above n R R' low high [] (c ∷ cs) f le s = absurd s
paired-above n R R' low high (k ∷ ks) [] f le s = absurd s

-- there are as many on the one side as on the other
pub paired-length : (R : Relation) (low high : ℕ) (ks : Entries) (cs : List OpenCall) → Paired R low high ks cs → length ks ≡ length cs
paired-length R low high [] [] s = refl
paired-length R low high (k ∷ ks) (c ∷ cs) s = ap (λ n. suc n) (paired-length R c.number high ks cs s.3)
paired-length R low high [] (c ∷ cs) s = absurd s
paired-length R low high (k ∷ ks) [] s = absurd s

-- numbers that are above low are above what is lower
paired-wider : (R : Relation) (low low' high : ℕ) (ks : Entries) (cs : List OpenCall) → low' ≤ low → Paired R low high ks cs → Paired R low' high ks cs
paired-wider R low low' high [] [] le s = omega (arith, s)
paired-wider R low low' high (k ∷ ks) (c ∷ cs) le s = let b = s.0 in (omega arith, s.1, s.2, s.3)
paired-wider R low low' high [] (c ∷ cs) le s = absurd s
paired-wider R low low' high (k ∷ ks) [] le s = absurd s

-- one more call
pub paired-append : (R : Relation) (low high : ℕ) (ks : Entries) (cs : List OpenCall) (kept : ℕ × Call) (call : OpenCall)
    → Paired R low high ks cs → call.number ≡ high + 1 → call.number ≡ kept.0 → R kept call
    → Paired R low (high + 1) (ks ++ kept ∷ []) (cs ++ call ∷ [])
paired-append R low high [] [] kept call s e i t = (omega (arith, s), i, t, omega arith)
paired-append R low high (k ∷ ks) (c ∷ cs) kept call s e i t = (s.0, s.1, s.2, paired-append R c.number high ks cs kept call s.3 e i t)
paired-append R low high [] (c ∷ cs) kept call s e i t = absurd s
paired-append R low high (k ∷ ks) [] kept call s e i t = absurd s

-- a number is found on both sides, or on neither
pub paired-none : (R : Relation) (low high n : ℕ) (ks : Entries) (cs : List OpenCall) → Paired R low high ks cs → call_at n ks ≡ None → call_of n cs ≡ None
paired-none R low high n [] [] s e = refl
paired-none R low high n (k ∷ ks) (c ∷ cs) s e =
    ap (λ m. cond (m == n) (Some c) (call_of n cs)) s.1
    ∙ (let P : Bool → Type 0 = λ b. cond b (Some k.1) (call_at n ks) ≡ None → cond b (Some c) (call_of n cs) ≡ None in
    elim (k.0 == n) as P [ true ↦ λ e'. absurd (cc e') | false ↦ λ e'. paired-none R c.number high n ks cs s.3 e' ]) e
paired-none R low high n [] (c ∷ cs) s e = absurd s
paired-none R low high n (k ∷ ks) [] s e = absurd s

-- the history's call of this number, with what is true of it
pub record Found (R : Relation) (n : ℕ) (kept : Call) (cs : List OpenCall) : Type 0 where
  pub call : OpenCall
  pub of : call_of n cs ≡ Some call
  pub related : R (n, kept) call
  pub numbered : call.number ≡ n

pub paired-some : (R : Relation) (low high n : ℕ) (ks : Entries) (cs : List OpenCall) (kept : Call) → Paired R low high ks cs → call_at n ks ≡ Some kept → Found R n kept cs
paired-some R low high n [] [] kept s e = absurd (cc)
paired-some R low high n (k ∷ ks) (c ∷ cs) kept s e =
    elim (eqb_tells k.0 n) [
      | inl p ↦
          let one : k.1 ≡ kept = found-here n k ks p.0 kept e in
          record {
            call = c;
            of = ap (λ b. cond b (Some c) (call_of n cs)) (ap (λ m. m == n) s.1 ∙ p.0);
            related = subst (λ (z : Call). R (n, z) c) one (subst (λ (m : ℕ). R (m, k.1) c) p.1 s.2);
            numbered = s.1 ∙ p.1;
          }
      | inr p ↦
          let r = paired-some R c.number high n ks cs kept s.3 (found-there n k ks p.0 kept e) in
          record {
            call = r.call;
            of = ap (λ b. cond b (Some c) (call_of n cs)) (ap (λ m. m == n) s.1 ∙ p.0) ∙ r.of;
            related = r.related;
            numbered = r.numbered;
          }
    ]
paired-some R low high n [] (c ∷ cs) kept s e = absurd s
paired-some R low high n (k ∷ ks) [] kept s e = absurd s

-- the pass of an open call
pub paired-pass : (R : Relation) (low high n : ℕ) (ks : Entries) (cs : List OpenCall) → ((kept : Call) (call : OpenCall) → R (n, kept) call → call.pass ≡ kept.pass.0) → Paired R low high ks cs
    → option_map (λ (p : PassNo). p.0) (pass_at n ks) ≡ option_map (λ (c : OpenCall). c.pass) (call_of n cs)
paired-pass R low high n ks cs same s = go (call_at n ks) refl
  where
    go : (r : Option Call) → call_at n ks ≡ r → option_map (λ (p : PassNo). p.0) (option_map (λ (k : Call). k.pass) r) ≡ option_map (λ (c : OpenCall). c.pass) (call_of n cs)
    go None at = ap (option_map (λ (c : OpenCall). c.pass)) (sym (paired-none R low high n ks cs s at))
    go (Some kept) at =
        let f = paired-some R low high n ks cs kept s at in
        ap Some (sym (same kept f.call f.related)) ∙ ap (option_map (λ (c : OpenCall). c.pass)) (sym f.of)

-- a number that is below all of them names none that could be replaced or end
replace-above : (R : Relation) (low high : ℕ) (ks : Entries) (cs : List OpenCall) (new : OpenCall) → Paired R low high ks cs → new.number ≤ low → replace_call new cs ≡ cs
replace-above R low high [] [] new s le = refl
replace-above R low high (k ∷ ks) (c ∷ cs) new s le =
    let b = s.0 in
    ap (λ t. cond t new c ∷ replace_call new cs) (ne_eqb c.number new.number (omega arith))
    ∙ ap (λ (t : List OpenCall). c ∷ t) (replace-above R c.number high ks cs new s.3 (omega arith))
replace-above R low high [] (c ∷ cs) new s le = absurd s
replace-above R low high (k ∷ ks) [] new s le = absurd s

without-above : (R : Relation) (low high n : ℕ) (ks : Entries) (cs : List OpenCall) → Paired R low high ks cs → n ≤ low → without_call n cs ≡ cs
without-above R low high n [] [] s le = refl
without-above R low high n (k ∷ ks) (c ∷ cs) s le =
    let b = s.0 in
    ap (λ t. cond (not t) (c ∷ without_call n cs) (without_call n cs)) (ne_eqb c.number n (omega arith))
    ∙ ap (λ (t : List OpenCall). c ∷ t) (without-above R c.number high n ks cs s.3 (omega arith))
without-above R low high n [] (c ∷ cs) s le = absurd s
without-above R low high n (k ∷ ks) [] s le = absurd s

-- a call is changed on both sides, and the others go over to the other relation
pub paired-change : (change : Call → Call) (n : ℕ) (R R' : Relation) (low high : ℕ) (ks : Entries) (cs : List OpenCall) (kept : Call) (new : OpenCall) → Others n ks R R'
    → Paired R low high ks cs → call_at n ks ≡ Some kept → new.number ≡ n → R' (n, change kept) new
    → Paired R' low high (with_changed change n ks) (replace_call new cs)
paired-change change n R R' low high [] [] kept new f s e i t = absurd (cc)
paired-change change n R R' low high (k ∷ ks) (c ∷ cs) kept new f s e i t =
    let b = s.0 in
    elim (eqb_tells k.0 n) [
      | inl p ↦
          let one : kept ≡ k.1 = sym (found-here n k ks p.0 kept e) in
          let at : c.number ≡ n = s.1 ∙ p.1 in
          let here : (c.number == new.number) ≡ true = eq-eqb _ _ (at ∙ sym i) in
          subst (λ (ks' : Entries). Paired R' low high ks' (replace_call new (c ∷ cs))) (sym (changed-here n k ks p.0 change))
          (subst (λ (cs' : List OpenCall). Paired R' low high ((k.0, change k.1) ∷ ks) cs')
          (sym (ap (λ b. cond b new c ∷ replace_call new cs) here ∙ ap (λ (t : List OpenCall). new ∷ t) (replace-above R c.number high ks cs new s.3 (omega arith)))) (
            omega arith,
            i ∙ sym p.1,
            subst (λ (m : ℕ). R' (m, change k.1) new) (sym p.1) (subst (λ (z : Call). R' (n, change z) new) one t),
            subst (λ (m : ℕ). Paired R' m high ks cs) (at ∙ sym i) (paired-above n R R' c.number high ks cs (fewer n k ks R R' f) (omega arith) s.3),
          ))
      | inr p ↦
          let there : (c.number == new.number) ≡ false = ne_eqb c.number new.number (λ z. p.1 (sym s.1 ∙ z ∙ i)) in
          subst (λ (ks' : Entries). Paired R' low high ks' (replace_call new (c ∷ cs))) (sym (changed-there n k ks p.0 change))
          (subst (λ (cs' : List OpenCall). Paired R' low high (k ∷ with_changed change n ks) cs')
          (sym (ap (λ b. cond b new c ∷ replace_call new cs) there))
          (s.0, s.1, f k c first p.1 s.2, paired-change change n R R' c.number high ks cs kept new (fewer n k ks R R' f) s.3 (found-there n k ks p.0 kept e) i t))
    ]
paired-change change n R R' low high [] (c ∷ cs) kept new f s e i t = absurd s
paired-change change n R R' low high (k ∷ ks) [] kept new f s e i t = absurd s

-- a call ends
pub paired-without : (n : ℕ) (R R' : Relation) (low high : ℕ) (ks : Entries) (cs : List OpenCall) → Others n ks R R'
    → Paired R low high ks cs → Paired R' low high (without n ks) (without_call n cs)
paired-without n R R' low high [] [] f s = s
paired-without n R R' low high (k ∷ ks) (c ∷ cs) f s =
    let b = s.0 in
    elim (eqb_tells k.0 n) [
      | inl p ↦
          let at : c.number ≡ n = s.1 ∙ p.1 in
          subst (λ (ks' : Entries). Paired R' low high ks' (without_call n (c ∷ cs))) (sym (without-here n k ks p.0))
          (subst (λ (cs' : List OpenCall). Paired R' low high ks cs')
          (sym (ap (λ b. cond (not b) (c ∷ without_call n cs) (without_call n cs)) (eq-eqb c.number n at) ∙ without-above R c.number high n ks cs s.3 (omega arith)))
          (paired-wider R' c.number low high ks cs (omega arith) (paired-above n R R' c.number high ks cs (fewer n k ks R R' f) (omega arith) s.3)))
      | inr p ↦
          let there : (c.number == n) ≡ false = ne_eqb c.number n (λ z. p.1 (sym s.1 ∙ z)) in
          subst (λ (ks' : Entries). Paired R' low high ks' (without_call n (c ∷ cs))) (sym (without-there n k ks p.0))
          (subst (λ (cs' : List OpenCall). Paired R' low high (k ∷ without n ks) cs')
          (sym (ap (λ b. cond (not b) (c ∷ without_call n cs) (without_call n cs)) there))
          (s.0, s.1, f k c first p.1 s.2, paired-without n R R' c.number high ks cs (fewer n k ks R R' f) s.3))
    ]
paired-without n R R' low high [] (c ∷ cs) f s = absurd s
paired-without n R R' low high (k ∷ ks) [] f s = absurd s

-- what is said of each call of the machine
pub paired-each : (R : Relation) (low high : ℕ) (ks : Entries) (cs : List OpenCall) → Paired R low high ks cs → (k : ℕ × Call) → Among k ks → (c : OpenCall) × R k c
paired-each R low high [] cs s k i = elim i [ ]
paired-each R low high (k ∷ ks) [] s j i = absurd s
paired-each R low high (k ∷ ks) (c ∷ cs) s j first = (c, s.2)
paired-each R low high (k ∷ ks) (c ∷ cs) s j (later i) = paired-each R c.number high ks cs s.3 j i

-- numbers are above low, and each names one call
paired-low : (R : Relation) (low high : ℕ) (ks : Entries) (cs : List OpenCall) → Paired R low high ks cs → (k : ℕ × Call) → Among k ks → low < k.0
paired-low R low high [] cs s k i = elim i [ ]
paired-low R low high (j ∷ ks) [] s k i = absurd s
paired-low R low high (j ∷ ks) (c ∷ cs) s k first = let b = s.0 in let e = s.1 in omega (arith, b, e)
paired-low R low high (j ∷ ks) (c ∷ cs) s k (later i) = let b = s.0 in let more = paired-low R c.number high ks cs s.3 k i in omega (arith, b, more)

pub paired-one : (R : Relation) (low high : ℕ) (ks : Entries) (cs : List OpenCall) → Paired R low high ks cs → (k : ℕ × Call) → Among k ks → call_at k.0 ks ≡ Some k.1
paired-one R low high [] cs s k i = elim i [ ]
paired-one R low high (j ∷ ks) [] s k i = absurd s
paired-one R low high (j ∷ ks) (c ∷ cs) s k first = call_at-here k.0 k ks (eq-eqb k.0 k.0 refl)
paired-one R low high (j ∷ ks) (c ∷ cs) s k (later i) =
    let above = paired-low R c.number high ks cs s.3 k i in
    let e = s.1 in
    let differ : j.0 ≢ k.0 = omega (arith, above, e) in
    call_at-there k.0 j ks (ne_eqb j.0 k.0 differ) ∙ paired-one R c.number high ks cs s.3 k i

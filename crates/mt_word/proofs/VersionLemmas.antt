-- A version's word through each change of a flag or a counter.
use Rattle.std.proofs.Common.{◌≡◌, ◌≢◌, ◌==◌, ◌⊎◌, inl, inr, ℕ, ◌+◌, ◌-◌, ◌*◌, ◌/◌, ◌%◌, ◌^◌, ◌<◌, Bool, true, false, refl, ap, sym, ◌∙◌, arith, bit_and, bit_or}
use Rattle.std.specs.Int.{bit_at}
use Rattle.std.proofs.lemmas.Bool.{cases_eq}
use Rattle.std.proofs.Math.Bool.{not}
use Rattle.std.proofs.lemmas.Bool.Decides.{eqb_tells}
use Rattle.std.proofs.lemmas.Nat.{or_disjoint, pow_pos}
use Rattle.std.proofs.lemmas.Nat.Bits.{and_pow, same_from_bits, bit_at-pow_same, bit_at-pow_other, bit_at_or, bit_at-lt}
use Rattle.mt_word.specs.Version.{VersionView, IsVersion, IsUnspent, number_of, inserted, split, word_of_version, flag_at, version_of_word, IsVersionWord}
use Rattle.mt_word.specs.VersionRound.{word_of_version-version_of_word}

-- this number is the word of this version
pub record IsWordOfVersion (w : ℕ) (v : VersionView) : Type 0 where
  pub is : w ≡ word_of_version v
  pub whole : IsVersion v

pub number_below : (b : Bool) → number_of b < 2
number_below false = omega arith
number_below true = omega arith

-- the test of a flag's bit is the flag
flag_of_number : (b : Bool) (n : ℕ) → n ≡ number_of b → (n == 1) ≡ b
flag_of_number false n e = rw e
flag_of_number true n e = rw e

pub version_is : (w : ℕ) (v : VersionView) → IsVersionWord w → version_of_word w ≡ v → IsWordOfVersion w v
version_is w v h e = record {
  is = sym (word_of_version-version_of_word w h) ∙ ap word_of_version e;
  whole = rw (← e) (record { vinsert_fits = omega arith; vsplit_fits = omega (arith, h.fits) });
}

-- the bits of a word
pub bit_locked : (w : ℕ) (v : VersionView) → IsWordOfVersion w v → bit_at w 0 ≡ number_of v.locked
bit_locked w v h = omega (arith, h.is, number_below v.locked)

pub bit_inserting : (w : ℕ) (v : VersionView) → IsWordOfVersion w v → bit_at w 1 ≡ number_of v.inserting
bit_inserting w v h = omega (arith, h.is, number_below v.locked, number_below v.inserting)

pub bit_splitting : (w : ℕ) (v : VersionView) → IsWordOfVersion w v → bit_at w 2 ≡ number_of v.splitting
bit_splitting w v h = omega (arith, h.is, number_below v.locked, number_below v.inserting, number_below v.splitting)

pub bit_deleted : (w : ℕ) (v : VersionView) → IsWordOfVersion w v → bit_at w 3 ≡ number_of v.deleted
bit_deleted w v h = omega (arith, h.is, number_below v.locked, number_below v.inserting, number_below v.splitting, number_below v.deleted)

pub bit_border : (w : ℕ) (v : VersionView) → IsWordOfVersion w v → bit_at w 4 ≡ number_of v.border
bit_border w v h = omega (arith, h.is, number_below v.locked, number_below v.inserting, number_below v.splitting, number_below v.deleted, number_below v.border)

-- the flags together are below 32
flags_below : (v : VersionView) → number_of v.locked + 2 * number_of v.inserting + 4 * number_of v.splitting + 8 * number_of v.deleted + 16 * number_of v.border < 32
flags_below v = omega (arith, number_below v.locked, number_below v.inserting, number_below v.splitting, number_below v.deleted, number_below v.border)

pub vinsert_at : (w : ℕ) (v : VersionView) → IsWordOfVersion w v → w / 2 ^ 8 % 2 ^ 56 ≡ v.vinsert
vinsert_at w v h = omega (arith, h.is, flags_below v, h.whole.vinsert_fits)

pub vsplit_at : (w : ℕ) (v : VersionView) → IsWordOfVersion w v → w / 2 ^ 64 ≡ v.vsplit
vsplit_at w v h = omega (arith, h.is, flags_below v, h.whole.vinsert_fits)

pub word_of_version_is_word : (w : ℕ) (v : VersionView) → IsWordOfVersion w v → IsVersionWord w
word_of_version_is_word w v h = record {
  fits = omega (arith, h.is, flags_below v, h.whole.vinsert_fits, h.whole.vsplit_fits);
  spare = omega (arith, h.is, flags_below v);
}

pub version_of_word_is : (w : ℕ) (v : VersionView) → IsWordOfVersion w v → version_of_word w ≡ v
version_of_word_is w v h =
    let a = flag_of_number v.locked _ (bit_locked w v h) in
    let b = flag_of_number v.inserting _ (bit_inserting w v h) in
    let d = flag_of_number v.splitting _ (bit_splitting w v h) in
    let e = flag_of_number v.deleted _ (bit_deleted w v h) in
    let f = flag_of_number v.border _ (bit_border w v h) in
    rw (a, b, d, e, f, vinsert_at w v h, vsplit_at w v h)

eqb_apart : (a b : ℕ) → a ≢ b → (a == b) ≡ false
eqb_apart a b d = elim (eqb_tells a b) [ inl p ↦ absurd (d p.1) | inr p ↦ p.0 ]

positive : (k : ℕ) → 2 ^ k ≢ 0
positive k e = omega (arith, pow_pos k, e)

-- to set a bit that is clear adds it
set_clear_bit : (w k : ℕ) → bit_at w k ≡ 0 → bit_or w (2 ^ k) ≡ w + 2 ^ k
set_clear_bit w k h = or_disjoint w (2 ^ k) (and_pow w k ∙ rw h (omega arith))

-- to set a bit that is set changes nothing
set_set_bit : (w k : ℕ) → bit_at w k ≡ 1 → bit_or w (2 ^ k) ≡ w
set_set_bit w k h = same_from_bits (bit_or w (2 ^ k)) w (λ i. elim (cases_eq i k) [
  | inl e ↦ (let same : bit_at (2 ^ k) i ≡ 1 = rw e (bit_at-pow_same k) in
      let old : bit_at w i ≡ 1 = rw e h in
      bit_at_or w (2 ^ k) i ∙ rw (same, old) refl)
  | inr d ↦ (let none : bit_at (2 ^ k) i ≡ 0 = bit_at-pow_other k i d in
      bit_at_or w (2 ^ k) i ∙ omega (arith, none))
])

-- the test of one bit
pub flag_test : (w k : ℕ) → not (bit_and w (2 ^ k) == 0) ≡ flag_at w k
flag_test w k =
    elim (eqb_tells (bit_at w k) 1) [
      | inl p ↦ (let some : bit_and w (2 ^ k) ≡ 2 ^ k = and_pow w k ∙ (rw p.1 (omega arith)) in
          rw (p.0, some) (rw (eqb_apart (2 ^ k) 0 (positive k))))
      | inr p ↦ (let clear : bit_at w k ≡ 0 = omega (arith, bit_at-lt w k, p.1) in
          let none : bit_and w (2 ^ k) ≡ 0 = and_pow w k ∙ (rw clear (omega arith)) in
          rw (p.0, none))
    ]

pub locked_word : (w : ℕ) (v : VersionView) → v.locked ≡ false → IsWordOfVersion w v → IsWordOfVersion (bit_or w 1) (record v { locked = true })
locked_word w v free h =
    let clear : number_of v.locked ≡ 0 = ap number_of free in
    record {
      is = set_clear_bit w 0 (bit_locked w v h ∙ clear) ∙ omega (arith, h.is, clear);
      whole = record { vinsert_fits = h.whole.vinsert_fits; vsplit_fits = h.whole.vsplit_fits };
    }

-- to set a bit, of which this is the flag, adds it if it is clear
set_bit : (w k : ℕ) (flag : Bool) → bit_at w k ≡ number_of flag → ((number_of flag ≡ 1) × (bit_or w (2 ^ k) ≡ w)) ⊎ ((number_of flag ≡ 0) × (bit_or w (2 ^ k) ≡ w + 2 ^ k))
set_bit w k true h = inl (refl, set_set_bit w k h)
set_bit w k false h = inr (refl, set_clear_bit w k h)

pub inserting_word : (w : ℕ) (v : VersionView) → IsWordOfVersion w v → IsWordOfVersion (bit_or w 2) (record v { inserting = true })
inserting_word w v h = record {
  is = elim (set_bit w 1 v.inserting (bit_inserting w v h)) [
    | inl p ↦ p.1 ∙ omega (arith, h.is, p.0)
    | inr p ↦ p.1 ∙ omega (arith, h.is, p.0)
  ];
  whole = record { vinsert_fits = h.whole.vinsert_fits; vsplit_fits = h.whole.vsplit_fits };
}

pub splitting_word : (w : ℕ) (v : VersionView) → IsWordOfVersion w v → IsWordOfVersion (bit_or w 4) (record v { splitting = true })
splitting_word w v h = record {
  is = elim (set_bit w 2 v.splitting (bit_splitting w v h)) [
    | inl p ↦ p.1 ∙ omega (arith, h.is, p.0)
    | inr p ↦ p.1 ∙ omega (arith, h.is, p.0)
  ];
  whole = record { vinsert_fits = h.whole.vinsert_fits; vsplit_fits = h.whole.vsplit_fits };
}

pub deleted_word : (w : ℕ) (v : VersionView) → IsWordOfVersion w v → IsWordOfVersion (bit_or w 8) (record v { deleted = true })
deleted_word w v h = record {
  is = elim (set_bit w 3 v.deleted (bit_deleted w v h)) [
    | inl p ↦ p.1 ∙ omega (arith, h.is, p.0)
    | inr p ↦ p.1 ∙ omega (arith, h.is, p.0)
  ];
  whole = record { vinsert_fits = h.whole.vinsert_fits; vsplit_fits = h.whole.vsplit_fits };
}

-- a flag that is set is cleared, and its counter raised
pub ended_insert_word : (w : ℕ) (v : VersionView) → v.inserting ≡ true → IsUnspent v → IsWordOfVersion w v → IsWordOfVersion (w + 254) (inserted v)
ended_insert_word w v set unspent h =
    let one : number_of v.inserting ≡ 1 = ap number_of set in
    let room = unspent.inserts set in
    record { is = omega (arith, h.is, one); whole = record { vinsert_fits = omega (arith, room, one); vsplit_fits = h.whole.vsplit_fits } }

pub ended_split_word : (w : ℕ) (v : VersionView) → v.splitting ≡ true → IsUnspent v → IsWordOfVersion w v → IsWordOfVersion (w + (2 ^ 64 - 4)) (split v)
ended_split_word w v set unspent h =
    let one : number_of v.splitting ≡ 1 = ap number_of set in
    let room = unspent.splits set in
    record { is = omega (arith, h.is, one); whole = record { vinsert_fits = h.whole.vinsert_fits; vsplit_fits = omega (arith, room, one) } }

-- what is said of a word's view, from its version
pub view_after : (w new : ℕ) (v next : VersionView) → (IsWordOfVersion w v → IsWordOfVersion new next) → IsVersionWord w → version_of_word w ≡ v → version_of_word new ≡ next
view_after w new v next step h e = version_of_word_is new next (step (version_is w v h e))

pub word_after : (w new : ℕ) (v next : VersionView) → (IsWordOfVersion w v → IsWordOfVersion new next) → IsVersionWord w → version_of_word w ≡ v → IsVersionWord new
word_after w new v next step h e = word_of_version_is_word new next (step (version_is w v h e))

pub whole_after : (w new : ℕ) (v next : VersionView) → (IsWordOfVersion w v → IsWordOfVersion new next) → IsVersionWord w → version_of_word w ≡ v → IsVersion (version_of_word new)
whole_after w new v next step h e =
    let after = step (version_is w v h e) in
    rw (version_of_word_is new next after) after.whole

-- two versions that are `==` are the same
pub same_version : (a b : VersionView) → IsVersion a → IsVersion b → word_of_version a ≡ word_of_version b → a ≡ b
same_version a b h k e =
    sym (version_of_word_is (word_of_version a) a (record { is = refl; whole = h }))
    ∙ (ap version_of_word e ∙ version_of_word_is (word_of_version b) b (record { is = refl; whole = k }))

-- Reading a log: the first deltas are sound, and the versions are theirs.
use Rattle.std.proofs.Common.{◌≡◌, ℕ, zero, suc, ◌+◌, ◌-◌, Bool, true, false, cond, List, [], ◌∷◌, ◌++◌, take, length, filter, map, Option, Some, None, refl, ap, sym, ◌∙◌, subst, arith, inl, inr, length-take}
use Rattle.std.specs.Prelude.{slice_get}
use Rattle.std.specs.Ordering.{is_eq}
use Rattle.std.specs.FinMap as map
use Rattle.std.proofs.lemmas.Bool.Decides.{eqb_tells}
use Rattle.std.proofs.lemmas.Option.{slice_get_within}
use Rattle.mt_types.specs.Keys.{key_cmp}
use Rattle.mt_types.specs.declared.row.Row.{Row}
use Rattle.mt_types.specs.declared.row.Delta.{Delta}
use Rattle.mt_commit.specs.Log.{Numbered}
use Rattle.mt_check.specs.declared.versions.Version.{Version}
use Rattle.mt_check.specs.declared.versions.Versions.{Versions}
use Rattle.mt_check.specs.declared.fault.Rule.{Rule}
use Rattle.mt_check.specs.declared.fault.Rule.TheVariants.{DeltaNumber, DeltaRows}
use Rattle.mt_check.specs.Receipts.{rows_at, FitsRow, IsSoundLog}
use Rattle.mt_check.specs.Faults.{BreaksThere, DeltaBreaks, IsSmallest, AreClean, IsFirstFault}
use Rattle.mt_check.specs.Versions.{version_of, versions_of, versions_in, last_row, AreVersions, AreSound}
use Rattle.mt_check.proofs.VersionLemmas.{get-rows_after}

-- the row that the last version leaves is the one that the key has
pub standing_there : (deltas : List Delta) (i : ℕ) (versions : Versions) (key : List ℕ) → AreVersions (take i deltas) versions
    → last_row None (versions_in versions key) ≡ map.get (rows_at deltas i) key
standing_there deltas i versions key h =
    ap (last_row None) (h key)
    ∙ ap (λ (r : Option Row). last_row r (versions_of key (take i deltas))) (sym (map.get-empty key_cmp key))
    ∙ sym (get-rows_after key (take i deltas) map.empty)

-- one more delta is sound
pub sound_more : (deltas : List Delta) (i : ℕ) (d : Delta) → AreSound deltas i → slice_get deltas i ≡ Some d → d.number ≡ i + 1 → FitsRow (map.get (rows_at deltas i) d.key) d
    → AreSound deltas (i + 1)
sound_more deltas i d sound at number fits j e below found =
    elim (eqb_tells j i) [
      | inl p ↦
          let here : slice_get deltas i ≡ Some e = subst (λ (k : ℕ). slice_get deltas k ≡ Some e) p.1 found in
          let same : d ≡ e = cc in
          subst (λ (k : ℕ). (e.number ≡ k + 1) × FitsRow (map.get (rows_at deltas k) e.key) e) (sym p.1)
          (subst (λ (x : Delta). (x.number ≡ i + 1) × FitsRow (map.get (rows_at deltas i) x.key) x) same (number, fits))
      | inr p ↦ sound j e (let apart = p.1 in omega (arith, apart)) found
    ]

take_next : (deltas : List Delta) (i : ℕ) (d : Delta) → slice_get deltas i ≡ Some d → take (suc i) deltas ≡ take i deltas ++ d ∷ []
take_next [] i d e = cc
take_next (x ∷ deltas) zero d e = let same : x ≡ d = cc in ap (λ (y : Delta). y ∷ []) same
take_next (x ∷ deltas) (suc i) d e = ap (λ (ds : List Delta). x ∷ ds) (take_next deltas i d e)

pub take_more : (deltas : List Delta) (i : ℕ) (d : Delta) → slice_get deltas i ≡ Some d → take (i + 1) deltas ≡ take i deltas ++ d ∷ []
take_more deltas i d e = let next : i + 1 ≡ suc i = omega arith in ap (λ (n : ℕ). take n deltas) next ∙ take_next deltas i d e

versions_of-append : (key : List ℕ) (deltas : List Delta) (d : Delta)
    → versions_of key (deltas ++ d ∷ []) ≡ cond (is_eq (key_cmp key d.key)) (versions_of key deltas ++ version_of d ∷ []) (versions_of key deltas)
versions_of-append key [] d =
    elim (is_eq (key_cmp key d.key)) as (λ b. map version_of (cond b (d ∷ []) []) ≡ cond b (version_of d ∷ []) []) [
      | true ↦ refl
      | false ↦ refl
    ]
versions_of-append key (x ∷ deltas) d =
    elim (is_eq (key_cmp key x.key)) as (λ b. map version_of (cond b (x ∷ filter (λ e. is_eq (key_cmp key e.key)) (deltas ++ d ∷ [])) (filter (λ e. is_eq (key_cmp key e.key)) (deltas ++ d ∷ [])))
    ≡ cond (is_eq (key_cmp key d.key)) (map version_of (cond b (x ∷ filter (λ e. is_eq (key_cmp key e.key)) deltas) (filter (λ e. is_eq (key_cmp key e.key)) deltas)) ++ version_of d ∷ [])
    (map version_of (cond b (x ∷ filter (λ e. is_eq (key_cmp key e.key)) deltas) (filter (λ e. is_eq (key_cmp key e.key)) deltas)))) [
      | true ↦ ap (λ (vs : List Version). version_of x ∷ vs) (versions_of-append key deltas d) ∙ pushed_in (is_eq (key_cmp key d.key)) (version_of x) (versions_of key deltas) (version_of d)
      | false ↦ versions_of-append key deltas d
    ]
  where
    pushed_in : (b : Bool) (v : Version) (vs : List Version) (w : Version) → v ∷ cond b (vs ++ w ∷ []) vs ≡ cond b ((v ∷ vs) ++ w ∷ []) (v ∷ vs)
    pushed_in true v vs w = refl
    pushed_in false v vs w = refl

-- and its version is added
pub versions_more : (deltas : List Delta) (i : ℕ) (d : Delta) (old new : Versions) → slice_get deltas i ≡ Some d → AreVersions (take i deltas) old
    → ((key : List ℕ) → versions_in new key ≡ cond (is_eq (key_cmp key d.key)) (versions_in old key ++ version_of d ∷ []) (versions_in old key))
    → AreVersions (take (i + 1) deltas) new
versions_more deltas i d old new at were added key =
    added key
    ∙ ap (λ (vs : List Version). cond (is_eq (key_cmp key d.key)) (vs ++ version_of d ∷ []) vs) (were key)
    ∙ sym (versions_of-append key (take i deltas) d)
    ∙ ap (versions_of key) (sym (take_more deltas i d at))

-- deltas that are sound break no rule
pub sound_clean : (deltas : List Delta) (count : ℕ) → AreSound deltas count → AreClean DeltaBreaks deltas count
sound_clean deltas count sound i d DeltaNumber below at broken =
    let within = slice_get_within deltas i d at in
    let size : length (take i deltas) ≡ i = omega (arith, length-take i deltas) in
    broken ((sound i d below at).0 ∙ ap (λ (n : ℕ). n + 1) (sym size))
sound_clean deltas count sound i d DeltaRows below at broken = broken (sound i d below at).1
sound_clean deltas count sound i d _ below at broken = broken

-- the first delta that isn't sound
pub first_unsound : (deltas : List Delta) (i : ℕ) (d : Delta) (rule : Rule) → AreSound deltas i → slice_get deltas i ≡ Some d
    → IsSmallest (BreaksThere (i + 1) (map.get (rows_at deltas i) d.key) d) rule → IsFirstFault DeltaBreaks deltas (record { index = i + 1; rule = rule })
first_unsound deltas i d rule sound at small =
    let within = slice_get_within deltas i d at in
    let place : i + 1 - 1 ≡ i = omega arith in
    let size : length (take i deltas) ≡ i = omega (arith, length-take i deltas) in
    let here : IsSmallest (DeltaBreaks (take i deltas) d) rule = subst (λ (n : ℕ). IsSmallest (BreaksThere (n + 1) (map.get (rows_at deltas i) d.key) d) rule) (sym size) small in
    record {
      line = d;
      there = omega arith;
      at = ap (slice_get deltas) place ∙ at;
      smallest = subst (λ (p : ℕ). IsSmallest (DeltaBreaks (take p deltas) d) rule) (sym place) here;
      first = subst (λ (p : ℕ). AreClean DeltaBreaks deltas p) (sym place) (sound_clean deltas i sound);
    }

numbered_from : (number : ℕ) (deltas : List Delta) → ((i : ℕ) (d : Delta) → slice_get deltas i ≡ Some d → d.number ≡ number + i + 1) → Numbered number deltas
numbered_from number [] h = tt
numbered_from number (d ∷ deltas) h =
    let first = h zero d refl in
    (omega (arith, first), numbered_from (number + 1) deltas (λ i e at. let later = h (suc i) e at in omega (arith, later)))

-- deltas that are sound make a sound log
pub sound_log : (deltas : List Delta) → AreSound deltas (length deltas) → IsSoundLog deltas
sound_log deltas sound = record {
  numbered = numbered_from 0 deltas (λ i d at. let e = (sound i d (slice_get_within deltas i d at) at).0 in omega (arith, e));
  fits = λ i d at. (sound i d (slice_get_within deltas i d at) at).1;
}

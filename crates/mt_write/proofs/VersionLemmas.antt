-- What a put that asks for a version finds.
use Rattle.std.proofs.Common.{ℕ, ◌≡◌, ◌≢◌, ◌∙◌, true, false, Option, Some, None, refl, sym}
use Rattle.std.specs.Prelude.{◌==◌, if◌then◌else◌}
use Rattle.std.proofs.lemmas.Bool.{eqb-true, eq-eqb, false≢true}
use Rattle.mt_types.specs.Rows.{version_of}
use Rattle.mt_types.specs.declared.row.Row.{Row}
use Rattle.mt_types.specs.declared.refusal.Refusal.{Refusal}
use Rattle.mt_types.specs.declared.refusal.Refusal.TheVariants.{OtherVersion}
use Rattle.mt_write.specs.Causes.{version_fault}

-- the version that it asks for
pub same_version : (version : ℕ) (row : Option Row) → version_fault (Some version) row ≡ None → version_of row ≡ version
same_version version row agrees = elim (version_of row == version) as (λ t. version_of row == version ≡ t → (if t then None else Some (OtherVersion (version_of row))) ≡ None → version_of row ≡ version) [
  | true ↦ λ e none. eqb-true (version_of row) version e
  | false ↦ λ e none. (let clash : ◌≡◌ {A = Option Refusal} (Some (OtherVersion (version_of row))) None = none in absurd (cc))
] refl agrees

-- or another one
pub other_found : (version : ℕ) (row : Option Row) (refusal : Refusal) → Some refusal ≡ version_fault (Some version) row → (version_of row ≢ version) × (refusal ≡ OtherVersion (version_of row))
other_found version row refusal fault = elim (version_of row == version) as (λ t. version_of row == version ≡ t → Some refusal ≡ (if t then None else Some (OtherVersion (version_of row))) → (version_of row ≢ version) × (refusal ≡ OtherVersion (version_of row))) [
  | true ↦ λ e none. (let clash : ◌≡◌ {A = Option Refusal} (Some refusal) None = none in absurd (cc))
  | false ↦ λ e some. ((λ same. absurd (false≢true (sym e ∙ eq-eqb (version_of row) version same))), (let both : ◌≡◌ {A = Option Refusal} (Some refusal) (Some (OtherVersion (version_of row))) = some in cc))
] refl fault

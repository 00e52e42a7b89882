-- What is so of the other file, whatever it is, and of one that is needed.
use Rattle.std.proofs.Common.{◌≡◌, ℕ, Bool, List, Option, Result, Ok, Err, subst, sym}
use Rattle.std.specs.Prelude.{OnOk, OnErr}
use Rattle.mt_folder_log.specs.declared.checkpoint.Other.{Other}
use Rattle.mt_folder_log.specs.declared.checkpoint.Other.TheVariants.{Free, Needed, Gone}
use Rattle.mt_folder_log.specs.Moving.{IfFree, IfNeeded, Needs}

pub if_free : {D : Type 0} (P : Type 0) (other : Other D) → P → IfFree other P
if_free P (Free disk most) p = p
if_free P (Needed disk last copied has_all) p = tt
if_free P Gone p = tt

-- the file that is needed
pub needs_of : {D : Type 0} (P : D → Type 0) (other : Other D) (file : D) → Needs other (λ disk. disk ≡ file) → P file → Needs other P
needs_of P (Free disk most) file is p = absurd is
needs_of P (Needed disk last copied has_all) file is p = subst P (sym is) p
needs_of P Gone file is p = absurd is

module _ {D : Type 0} (P : ℕ → Type 0) (other : Other D) (disk : D) (last : Option (List ℕ)) (copied : ℕ) (has_all : Bool) (is : other ≡ Needed disk last copied has_all) where
  pub if_needed : P copied → IfNeeded other P
  if_needed p = subst (λ (o : Other D). IfNeeded o P) (sym is) p

  pub is_needed : IfNeeded other P → P copied
  is_needed p = subst (λ (o : Other D). IfNeeded o P) is p

pub any_needed : {D : Type 0} (P : ℕ → Type 0) (other : Other D) → ((copied : ℕ) → P copied) → IfNeeded other P
any_needed P (Free disk most) p = tt
any_needed P (Needed disk last copied has_all) p = p copied
any_needed P Gone p = tt

pub if_err : {A E P : Type 0} (result : Result A E) → P → OnErr result P
if_err (Ok x) p = tt
if_err (Err e) p = p

pub both_err : {A E P Q R : Type 0} (result : Result A E) → (P → Q → R) → OnErr result P → OnErr result Q → OnErr result R
both_err (Ok x) f p q = tt
both_err (Err e) f p q = f p q

pub both_ok : {A E P Q R : Type 0} (result : Result A E) → (P → Q → R) → OnOk result P → OnOk result Q → OnOk result R
both_ok (Ok x) f p q = f p q
both_ok (Err e) f p q = tt

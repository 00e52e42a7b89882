-- What comes of batches that C passes, case by case.
use Rattle.std.proofs.Common.{◌≡◌, ◌∙◌, ◌+◌, ◌<◌, ◌++◌, ◌∷◌, [], ℕ, List, Bool, get_or, take, true, false, refl, sym, ap, subst, inl, inr}
use Rattle.std.specs.Prelude.{◌⊎◌, Option, Some, None, Result, Ok, Err, IfErr, IfOk, OnOk, OnErr, MatchOption, nat_lt, ◌||◌, if◌then◌else◌, length, map}
use Rattle.std.specs.Option.{option_map, option_or}
use Rattle.std.proofs.lemmas.List.{map-append, take_more}
use Rattle.mt_types.specs.declared.refusal.Refusal.TheVariants.{NoMemory}
use Rattle.mt_batch.specs.declared.batch.Batched.{Batched}
use Rattle.mt_batch.specs.declared.batch.BatchError.{BatchError}
use Rattle.mt_batch.specs.declared.batch.BatchError.TheVariants.{BadBatch, Refused}
use Rattle.mt_batch.specs.declared.batch.Change.{Change}
use Rattle.mt_batch.specs.declared.batch.Condition.{Condition}
use Rattle.mt_batch.specs.declared.batch.TheConstants.{MAX_BATCH}
use Rattle.mt_batch.specs.Batch.{MayFail, StaysThere, batch_fault, changes_fault, conditions_fault}
use Rattle.mt_batch.specs.Changes.{IsTwice, key_of}
use Rattle.mt_map.specs.Batches.{MapBatches}
use Rattle.mt_map.specs.Tidies.{MapView}
use Rattle.rowanspan_c.specs.declared.batching.BorrowedChange.{BorrowedChange}
use Rattle.rowanspan_c.specs.Batches.{BatchEnds, Batches, TellsBatch, change_of}

-- ---- its changes

-- one more is made
pub one_more : (xs : List BorrowedChange) (i : ℕ) (d : BorrowedChange) (before later : List Change) (change : Change)
    → i < length xs → before ≡ map change_of (take i xs) → change ≡ change_of (get_or xs i d)
    → later ≡ before ++ change ∷ [] → later ≡ map change_of (take (i + 1) xs)
one_more xs i d before later change within is made pushed =
    pushed ∙ ap (λ (l : List Change). l ++ change ∷ []) is ∙ ap (λ (x : Change). map change_of (take i xs) ++ x ∷ []) made
    ∙ sym (map-append change_of (take i xs) (get_or xs i d ∷ []))
    ∙ ap (λ (l : List BorrowedChange). map change_of l) (sym (take_more xs i d within))

-- ---- how it ends

either : {X : Type 0} (a b : Bool) (x y : X) → b ≡ true → (if a || b then x else y) ≡ x
either true b x y is = refl
either false b x y is = ap (λ (t : Bool). if t then x else y) is

-- a batch with too many changes breaks that limit
too_many : (C : ℕ) (conditions : List Condition) (changes : List Change) → nat_lt MAX_BATCH (length changes) ≡ true
    → batch_fault C conditions changes ≡ Some BadBatch
too_many C conditions changes many =
    either (nat_lt MAX_BATCH (length conditions)) (nat_lt MAX_BATCH (length changes)) (Some BadBatch)
    (option_map Refused (option_or (conditions_fault conditions) (changes_fault C changes))) many

pub ends_too_long : (s : MapView) (conditions : List Condition) (changes : List Change)
    → nat_lt MAX_BATCH (length changes) ≡ true → BatchEnds s conditions changes (Err BadBatch) s
ends_too_long s conditions changes many = record {
  made = tt;
  stays = λ h stands. stands;
  fault = subst (λ (fault : Option BatchError). MatchOption fault (MayFail changes BadBatch)
      (λ error. (◌≡◌ {A = Result Batched BatchError} (Err BadBatch) (Err error)) ⊎ (◌≡◌ {A = Result Batched BatchError} (Err BadBatch) (Err (Refused NoMemory)))))
      (sym (too_many s.machine.columns conditions changes many)) (inl refl);
  once = tt;
  tidies = refl;
}

no_memory : (fault : Option BatchError) (changes : List Change) → MatchOption fault (MayFail changes (Refused NoMemory))
    (λ error. (◌≡◌ {A = Result Batched BatchError} (Err (Refused NoMemory)) (Err error)) ⊎ (◌≡◌ {A = Result Batched BatchError} (Err (Refused NoMemory)) (Err (Refused NoMemory))))
no_memory None changes = tt
no_memory (Some error) changes = inr refl

pub ends_unmade : (s : MapView) (conditions : List Condition) (changes : List Change)
    → BatchEnds s conditions changes (Err (Refused NoMemory)) s
ends_unmade s conditions changes = record {
  made = tt;
  stays = λ h stands. stands;
  fault = no_memory (batch_fault s.machine.columns conditions changes) changes;
  once = tt;
  tidies = refl;
}

weaker : (fault : Option BatchError) (T : Type 0) (came : Result Batched BatchError) → MatchOption fault T (λ error. came ≡ Err error)
    → MatchOption fault T (λ error. (came ≡ Err error) ⊎ (came ≡ Err (Refused NoMemory)))
weaker None T came is = is
weaker (Some error) T came is = inl is

pub ends_as_map : (s t : MapView) (conditions : List Condition) (changes : List Change) (came : Result Batched BatchError)
    → IfOk came (λ batched. MapBatches s conditions changes batched t) → OnErr came (StaysThere s.machine t.machine)
    → MatchOption (batch_fault s.machine.columns conditions changes) (IfErr came (MayFail changes)) (λ error. came ≡ Err error)
    → OnOk came (IsTwice (map key_of changes) → ⊥) → t.tidies ≡ s.tidies → BatchEnds s conditions changes came t
ends_as_map s t conditions changes came made stays fault once tidies = record {
  made = made;
  stays = stays;
  fault = weaker (batch_fault s.machine.columns conditions changes) (IfErr came (MayFail changes)) came fault;
  once = once;
  tidies = tidies;
}

-- ---- what is reported

pub batch_closed : (held next : Option MapView) (conditions : List Condition) (changes : List Change) (numbers : List ℕ)
    → held ≡ None → next ≡ None → Batches held conditions changes numbers next numbers 100 0 0
batch_closed held next conditions changes numbers is after =
    subst (λ (h : Option MapView). Batches h conditions changes numbers next numbers 100 0 0) (sym is) (after, refl, (refl, refl), refl)

pub batch_done : (held next : Option MapView) (s t : MapView) (conditions : List Condition) (changes : List Change)
    (old new : List ℕ) (came : Result Batched BatchError) (status told found : ℕ) → held ≡ Some s → next ≡ Some t
    → BatchEnds s conditions changes came t → TellsBatch came old new status told found
    → Batches held conditions changes old next new status told found
batch_done held next s t conditions changes old new came status told found is after ends tells =
    subst (λ (h : Option MapView). Batches h conditions changes old next new status told found) (sym is) (t, after, came, ends, tells)

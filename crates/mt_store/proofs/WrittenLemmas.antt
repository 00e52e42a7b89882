-- A commit that is returned is in the log.
use Rattle.std.proofs.Common.{◌≡◌, List, ℕ, refl, Result, Ok, Err, OnOk}
use Rattle.mt_types.specs.declared.row.Change.{Change}
use Rattle.mt_store.specs.Changing.{IsLogged, IsWritten, made_of, removed_of}
use Rattle.mt_store.specs.declared.error.StoreError.{StoreError}
use Rattle.mt_store.specs.declared.error.StoreError.TheVariants.{Refused, Behind, NotWritten, Journal, Damaged}

pub written : (commit : ℕ) (result : Result ℕ StoreError) (P : Type 0) → IsLogged commit result → OnOk result P → IsWritten result P
written commit (Ok number) P logged holds = holds
written commit (Err (Refused refusal)) P logged holds = absurd logged
written commit (Err Behind) P logged holds = tt
written commit (Err (NotWritten number error)) P logged holds = tt
written commit (Err (Journal error)) P logged holds = tt
written commit (Err (Damaged number)) P logged holds = tt

-- it is the change of the call
pub made_is : (change : List Change) (commit : ℕ) (result : Result ℕ StoreError) → IsLogged commit result → made_of change result ≡ change
made_is change commit (Ok number) logged = refl
made_is change commit (Err (NotWritten number error)) logged = refl
made_is change commit (Err (Refused refusal)) logged = absurd logged
made_is change commit (Err Behind) logged = absurd logged
made_is change commit (Err (Journal error)) logged = absurd logged
made_is change commit (Err (Damaged number)) logged = absurd logged

pub removed_is : (change : List Change) (commit : ℕ) (error : StoreError) → IsLogged commit (Err error) → removed_of change (Err error) ≡ change
removed_is change commit (NotWritten number error) logged = refl
removed_is change commit (Refused refusal) logged = absurd logged
removed_is change commit Behind logged = absurd logged
removed_is change commit (Journal error) logged = absurd logged
removed_is change commit (Damaged number) logged = absurd logged

use Rattle.std.proofs.Common.{◌∙◌, refl, inl, inr}
use Rattle.std.proofs.lemmas.Result.{err_from_is_err_and}
use Rattle.mt_folder.proofs.LookLemmas.{first_lost, read_to}
use Rattle.mt_folder.proofs.looking.look.Goals as goal

-- another error than of missing commits
pub returns-in_err-bytes-clause-refused : goal.returns-in_err-bytes-clause-refused
returns-in_err-bytes-clause-refused g c =
    let p = err_from_is_err_and c.from_residual.result c.from_residual.ensures.1 in
    rw (p.1) (elim p.2 [
      | inl is ↦ rw (is) (λ clean. tt)
      | inr is ↦ rw (is) (λ clean. tt)
    ])

pub returns-in_err-place-in-Ok-clause-refused : goal.returns-in_err-place-in-Ok-clause-refused
returns-in_err-place-in-Ok-clause-refused g c =
    let p = err_from_is_err_and c.from_residual-in_err-place-in-Ok.result c.from_residual-in_err-place-in-Ok.ensures.1 in
    rw (p.1, p.2) (λ clean. tt)

-- what was read, and the first frame after it
pub returns-in-Some-clause-refused : goal.returns-in-Some-clause-refused
returns-in-Some-clause-refused g c = λ clean.
    let bytes = c.in_ok-bytes.ensures.bytes clean in
    record {
      at = c.in-Ok.read.at;
      read = read_to c.args.columns (record { header = c.in-Ok.read.header; entries = c.in-Ok.read.entries }) c.in-Ok.read.at c.deref.result.now _ c.in-Ok.ensures.columns c.in-Ok.ensures.read (c.deref.ensures.value ∙ bytes);
      newest = refl;
      first = first_lost c.in-Ok.read.at c.deref-in-Ok.result.now _ _ _ (c.deref-in-Ok.ensures.value ∙ bytes) c.in-Some.is c.in_ok-place-in-Ok.ensures;
    }

-- and that there is none
pub returns-in-Ok-clause-whole : goal.returns-in-Ok-clause-whole
returns-in-Ok-clause-whole g c = λ clean.
    let bytes = c.in_ok-bytes.ensures.bytes clean in
    record {
      at = c.in-Ok.read.at;
      read = read_to c.args.columns (record { header = c.in-Ok.read.header; entries = c.in-Ok.read.entries }) c.in-Ok.read.at c.deref.result.now _ c.in-Ok.ensures.columns c.in-Ok.ensures.read (c.deref.ensures.value ∙ bytes);
      none = first_lost c.in-Ok.read.at c.deref-in-Ok.result.now _ _ _ (c.deref-in-Ok.ensures.value ∙ bytes) c.in-None.is c.in_ok-place-in-Ok.ensures;
    }

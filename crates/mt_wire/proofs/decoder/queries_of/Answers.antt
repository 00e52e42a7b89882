use Rattle.std.proofs.Common.{◌≡◌, Bool, true, false, List, sym, subst, rules}
use Rattle.std.specs.List.{AllByRecursion}
use Rattle.std.proofs.lemmas.Result.{err_from_is_err_and}
use Rattle.mt_wire.specs.declared.query.Query.{Query}
use Rattle.mt_wire.specs.Versions.{HasQuery}
use Rattle.mt_wire.proofs.FrameLaws.{queries_found, fault_stands, lacks_version}
use Rattle.mt_wire.proofs.decoder.queries_of.Goals as goal

not_both : (b : Bool) → b ≡ true → b ≡ false → ⊥
not_both b is isnt = cc

pub returns-in_err-found-clause-fault : goal.returns-in_err-found-clause-fault
returns-in_err-found-clause-fault c =
    let p = err_from_is_err_and c.from_residual.result c.from_residual.ensures.1 in
    rw (p.1, p.2) (λ other rest. fault_stands c.args.frame.now rest c.in_err-found.field-0.0 c.requires c.in_err-found.ensures.read other)

pub returns-then-not-has_all-clause-fault : goal.returns-then-not-has_all-clause-fault
returns-then-not-has_all-clause-fault c = λ other rest.
    lacks_version c.args.frame.now rest c.in_ok-found.found c.requires c.in_ok-found.ensures.read
    (λ has. not_both c.has_all.result (c.has_all.ensures.1 (subst (λ (l : List Query). AllByRecursion (HasQuery c.in_ok-found.found.version) l) (sym c.as_slice.ensures) has)) (search rules))

pub returns-clause-found : goal.returns-clause-found
returns-clause-found c =
    queries_found c.args.frame.now c.in_ok-found.found c.in_ok-found.ensures.bytes c.requires c.in_ok-found.ensures.read
    (subst (λ (l : List Query). AllByRecursion (HasQuery c.in_ok-found.found.version) l) c.as_slice.ensures (c.has_all.ensures.0 (search rules)))

use Rattle.std.proofs.Common.{◌+◌, ◌++◌, ◌∷◌, [], ◌≡◌, ◌≤◌, ◌∙◌, ap, sym, subst, length, arith}
use Rattle.mt_types.specs.declared.limits.TheConstants.{MAX_OPEN_CALLS}
use Rattle.mt_index.specs.Calls.{CallsView, AreBegun, changing, with_first}
use Rattle.mt_index.proofs.NumberLemmas.{Entries, begun-append}
use Rattle.mt_index.proofs.CountLemmas.{changes_few, changing_few, changing_begun}
use Rattle.mt_index.proofs.FirstLemmas.{inserted_last, many_appended}
use Rattle.mt_index.proofs.calls.Calls.begin.Goals as goal

pub invariant_of-self-2 : goal.invariant_of-self-2
invariant_of-self-2 c =
    let all = with_first c.self.inside.first.value c.self.inside.others.entries in
    let last = inserted_last c.self.inside.begun c.args.call c.self.inside.first.value c.self.inside.others.entries c.insert.new.self.entries c.self.invariant.0 c.in_ok-insert.ensures.entries in (
      subst (λ (entries : Entries). AreBegun (c.self.inside.begun + 1) entries) (sym last) (begun-append c.self.inside.begun c.args.call all c.self.invariant.0),
      subst (λ (entries : Entries). length entries ≤ MAX_OPEN_CALLS) (sym last)
          (let many = many_appended all (c.self.inside.begun + 1, c.args.call) in let few = c.requires.few in let same = ap (λ (s : CallsView). length s.calls) c.self.view_is in omega (arith, many, few, same)),
      subst (λ (entries : Entries). c.self.inside.writers + c.changes-more.result ≡ changing entries) (sym last)
          (let n = changing_begun all (c.self.inside.begun + 1) c.args.call in let old = c.self.invariant.2 in let one = c.changes-more.ensures in omega (arith, n, old, one)),
    )

pub overflow_add-self : goal.overflow_add-self
overflow_add-self c =
    let all = with_first c.self.inside.first.value c.self.inside.others.entries in
    let few = changing_few all in
    let old = c.self.invariant.2 in
    let many = c.self.invariant.1 in
    let more = changes_few c.args.call in
    let one = c.changes-more.ensures in
    omega (arith, few, old, many, more, one)

pub returns-clause-ok : goal.returns-clause-ok
returns-clause-ok c =
    ap (λ (entries : Entries). record { begun = c.self.inside.begun + 1; calls = entries })
    (inserted_last c.self.inside.begun c.args.call c.self.inside.first.value c.self.inside.others.entries c.insert.new.self.entries c.self.invariant.0 c.in_ok-insert.ensures.entries)
    ∙ ap (λ (s : CallsView). record { begun = s.begun + 1; calls = s.calls ++ (s.begun + 1, c.args.call) ∷ [] }) c.self.view_is

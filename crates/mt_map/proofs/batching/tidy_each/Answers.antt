use Rattle.std.proofs.Common.{ℕ, List, [], ◌≡◌, refl, subst, arith}
use Rattle.std.proofs.lemmas.List.{nil_from_length}
use Rattle.mt_map.proofs.BatchLemmas.{AllFollow, follow_on}
use Rattle.mt_map.proofs.batching.tidy_each.Goals as goal

pub loop-place-init : goal.loop-place-init
loop-place-init c =
    let e : c.args.places.items ≡ c.into_iter-place-iterator.result.rest.items = search in
    record {
      idle = c.requires;
      all = subst (λ (ks : List (List ℕ)). AllFollow c.args.machine.now c.args.places.items c.args.machine.now ks) e (λ t others. others);
    }

pub tidy_after-requires : goal.tidy_after-requires
tidy_after-requires c = c.loop-place.invariant.idle

pub loop-place-preserved : goal.loop-place-preserved
loop-place-preserved c = record {
  idle = c.tidy_after.ensures.idle;
  all = follow_on c.args.machine.now c.loop-place.machine c.tidy_after.new.machine c.args.places.items c.in-Some.place c.next.new.self.rest.items
      (subst (λ (ks : List (List ℕ)). AllFollow c.args.machine.now c.args.places.items c.loop-place.machine ks) c.in-Some.ensures.steps.0 c.loop-place.invariant.all)
      c.tidy_after.ensures.purges;
}

pub returns : goal.returns
returns c = record {
  purges =
      let e : c.loop-place.place-iterator.rest.items ≡ [] = nil_from_length c.loop-place.place-iterator.rest.items (let none = c.in-None.ensures.steps.0 in let many = c.loop-place.place-iterator.rest.ok.0 in omega (arith, none, many)) in
      subst (λ (ks : List (List ℕ)). AllFollow c.args.machine.now c.args.places.items c.loop-place.machine ks) e c.loop-place.invariant.all c.loop-place.machine refl;
  idle = c.loop-place.invariant.idle;
}

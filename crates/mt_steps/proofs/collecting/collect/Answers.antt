use Rattle.std.proofs.Common.{ℕ, ◌≡◌, ◌≤◌, ◌<◌, ◌+◌, ◌∙◌, [], List, length, drop, take, refl, sym, ap, subst, arith}
use Rattle.std.specs.Prelude.{All}
use Rattle.std.proofs.lemmas.List.Elements.{All-nil}
use Rattle.mt_arena.specs.Arena.{ArenaView}
use Rattle.mt_arena.specs.declared.retired.Retired.{Retired}
use Rattle.mt_steps.specs.Collecting.{GivesBack, CollectLaw}
use Rattle.mt_steps.proofs.CollectingLemmas.{gives_one_more, law_none, law_more, first_is, frees_first, frees_more, none_left, some_left, all_late, all_freed}
use Rattle.mt_steps.proofs.collecting.collect.Goals as goal

pub loop-freed-init : goal.loop-freed-init
loop-freed-init c = record { few = omega arith; left = record { nodes = λ number. refl; rest = refl }; gone = All-nil (λ (r : Retired). r.epoch < c.args.upto + 1); law = law_none c.args.tree.now (c.args.upto + 1) }

pub returns-in_default-clause-exactly : goal.returns-in_default-clause-exactly
returns-in_default-clause-exactly c =
    let old = c.loop-freed.invariant in
    record { few = old.few; left = old.left; freed = old.gone; kept = subst (λ (l : List Retired). All (λ (r : Retired). c.args.upto + 1 ≤ r.epoch) l) (sym (none_left c.loop-freed.tree.retired c.in_default.ensures.value)) (All-nil (λ (r : Retired). c.args.upto + 1 ≤ r.epoch)) }

pub returns-then-first-upto-clause-exactly : goal.returns-then-first-upto-clause-exactly
returns-then-first-upto-clause-exactly c =
    let old = c.loop-freed.invariant in
    let (others, is) = first_is c.loop-freed.tree.retired c.in-Some.first (sym c.in-Some.ensures.value) in
    record { few = old.few; left = old.left; freed = old.gone; kept = all_late c.loop-freed.tree.retired (c.args.upto + 1) c.in-Some.first others c.free_numbers-here.ensures.arena.retired.epochs is (let late = c.if-first-upto.true in omega (arith, late)) }

pub loop-freed-preserved : goal.loop-freed-preserved
loop-freed-preserved c =
    let old = c.loop-freed.invariant in
    let (others, is) = first_is c.loop-freed.tree.retired c.in-Some.first (sym c.in-Some.ensures.value) in
    let late = c.if-first-upto.false in
    let early : c.in-Some.first.epoch < c.args.upto + 1 = omega (arith, late) in
    let gone = frees_more c.args.tree.now c.loop-freed.tree (c.args.upto + 1) c.loop-freed.freed c.in-Some.first others old.left.rest old.gone is early in
    record {
      few = some_left c.args.tree.now.retired c.loop-freed.freed c.in-Some.first others (sym old.left.rest ∙ is);
      left = gives_one_more c.args.tree.now c.loop-freed.tree c.free_first_retired.new.self c.loop-freed.freed c.in-Some.first others old.left is c.free_first_retired.ensures.value;
      gone = gone;
      law = law_more c.args.tree.now c.loop-freed.tree c.free_first_retired.new.self (c.args.upto + 1) c.in-Some.first others old.law c.free_numbers-here.ensures.arena is c.free_first_retired.ensures.value
          (frees_first c.loop-freed.tree c.free_first_retired.new.self c.in-Some.first c.free_first_retired.result c.in-Some.ensures.value c.free_first_retired.ensures.first c.free_first_retired.ensures.frees) early;
    }

pub returns-clause-exactly : goal.returns-clause-exactly
returns-clause-exactly c =
    let old = c.loop-freed.invariant in
    let past = c.loop-freed-test.false in
    let end = c.loop-freed.auto.freed-end in
    let all : c.loop-freed.freed ≡ 4294967295 = omega (arith, past, end) in
    let none : c.loop-freed.tree.retired ≡ [] = old.left.rest ∙ all_freed c.args.tree.now c.loop-freed.freed c.free_numbers-sound.ensures.arena (omega (arith, all)) in
    record {
      few = subst (λ (n : ℕ). n ≤ length c.args.tree.now.retired) all old.few;
      left = subst (λ (n : ℕ). GivesBack n c.args.tree.now c.loop-freed.tree) all old.left;
      freed = subst (λ (n : ℕ). All (λ (r : Retired). r.epoch < c.args.upto + 1) (take n c.args.tree.now.retired)) all old.gone;
      kept = subst (λ (l : List Retired). All (λ (r : Retired). c.args.upto + 1 ≤ r.epoch) l) (sym none) (All-nil (λ (r : Retired). c.args.upto + 1 ≤ r.epoch));
    }

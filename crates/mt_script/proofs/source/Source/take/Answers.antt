use Rattle.std.proofs.Common.{◌-◌, length, drop, ap, ◌∙◌, arith, take_all, length-drop}
use Rattle.mt_script.proofs.LineLemmas.{takes_feed, takes_within, takes_all}
use Rattle.mt_script.proofs.source.Source.take.Goals as goal

pub invariant_of-self-clause-within : goal.invariant_of-self-clause-within
invariant_of-self-clause-within g c =
    let d = c.deref.result.now in
    let t = c.args.self.now.taken in
    let within = takes_within c.args.self.now.piece.items t _ c.in-Some.front.now _ (take_all (length d - t) (drop t d) (omega (arith, length-drop t d)) ∙ ap (drop t) c.deref.ensures.value) c.in-Some.ensures.found in
    omega (arith, within, c.args.self.now.piece.ok.0)

pub returns-in_ok-extend_from_slice-in-Some-clause-taken : goal.returns-in_ok-extend_from_slice-in-Some-clause-taken
returns-in_ok-extend_from_slice-in-Some-clause-taken g c =
    let d = c.deref.result.now in
    let t = c.args.self.now.taken in (
      c.in-Some.front.now,
      c.in_ok-extend_from_slice-in-Some.ensures.items,
      takes_feed c.args.self.now.piece.items t _ c.in-Some.front.now _ (take_all (length d - t) (drop t d) (omega (arith, length-drop t d)) ∙ ap (drop t) c.deref.ensures.value) c.in-Some.ensures.found,
    )

pub returns-in_ok-extend_from_slice-in-None-clause-taken : goal.returns-in_ok-extend_from_slice-in-None-clause-taken
returns-in_ok-extend_from_slice-in-None-clause-taken g c =
    let d = c.deref.result.now in
    let t = c.args.self.now.taken in (
      _,
      c.in_ok-extend_from_slice-in-None.ensures.items,
      takes_all c.args.self.now.piece.items t c.len-self.result _ (take_all (length d - t) (drop t d) (omega (arith, length-drop t d)) ∙ ap (drop t) c.deref.ensures.value) c.in-None.ensures.found (omega (arith, c.len-self.ensures, c.args.self.now.piece.ok.0)),
    )

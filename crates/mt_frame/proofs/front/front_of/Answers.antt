use Rattle.std.proofs.Common.{◌≡◌, ℕ, ◌≤◌, List, length, take, drop, Some, Ok, sym, ap, ◌∙◌, arith}
use Rattle.std.proofs.lemmas.List.{length-take}
use Rattle.mt_frame.specs.declared.limits.TheConstants.{LENGTH_BYTES}
use Rattle.mt_frame.specs.Ends.{has_zero, is_length, announced, length_part}
use Rattle.mt_frame.proofs.FrontLaws.{zero_in_length, too_short, no_length, zero_in_text, cut_in_text, whole_text, chosen_none, chosen_some}
use Rattle.mt_frame.proofs.front.front_of.Goals as goal

pub returns-then-contains_zero-clause-value : goal.returns-then-contains_zero-clause-value
returns-then-contains_zero-clause-value c =
    sym (zero_in_length c.args.bytes.now (ap has_zero (sym c.first-head.ensures) ∙ sym c.contains_zero.ensures ∙ c.if-contains_zero.true))

pub returns-then-head-lt-LENGTH_BYTES-clause-value : goal.returns-then-head-lt-LENGTH_BYTES-clause-value
returns-then-head-lt-LENGTH_BYTES-clause-value c =
    let z = ap has_zero (sym c.first-head.ensures) ∙ sym c.contains_zero.ensures ∙ c.if-contains_zero.false in
    sym (too_short c.args.bytes.now z (omega (arith, ap length c.first-head.ensures, length-take LENGTH_BYTES c.args.bytes.now, c.if-head-lt-LENGTH_BYTES.true)))

pub returns-in_default-clause-value : goal.returns-in_default-clause-value
returns-in_default-clause-value c =
    let z = ap has_zero (sym c.first-head.ensures) ∙ sym c.contains_zero.ensures ∙ c.if-contains_zero.false in
    let long : LENGTH_BYTES ≤ length c.args.bytes.now = omega (arith, ap length c.first-head.ensures, length-take LENGTH_BYTES c.args.bytes.now, c.if-head-lt-LENGTH_BYTES.false) in
    let l = chosen_none (is_length c.first-head.result.now) (announced c.first-head.result.now) c.length_of.result c.length_of.ensures c.in_default.is in
    sym (no_length c.args.bytes.now z long (ap is_length (sym c.first-head.ensures) ∙ l))

pub returns-then-contains_zero-2-clause-value : goal.returns-then-contains_zero-2-clause-value
returns-then-contains_zero-2-clause-value c =
    let z = ap has_zero (sym c.first-head.ensures) ∙ sym c.contains_zero.ensures ∙ c.if-contains_zero.false in
    let l = chosen_some (is_length c.first-head.result.now) (announced c.first-head.result.now) c.in-Some.length c.length_of.result c.length_of.ensures c.in-Some.is in
    let n : c.in-Some.length ≡ announced (length_part c.args.bytes.now) = l.1 ∙ ap announced c.first-head.ensures in
    let t = ap (λ (k : ℕ). has_zero (take k (drop LENGTH_BYTES c.args.bytes.now))) (sym n) ∙ ap (λ (rest : List ℕ). has_zero (take c.in-Some.length rest)) (sym c.after_length.ensures) ∙ ap has_zero (sym c.first-text.ensures) ∙ sym c.contains_zero-2.ensures ∙ c.if-contains_zero-2.true in
    sym (zero_in_text c.args.bytes.now z (ap is_length (sym c.first-head.ensures) ∙ l.0) t)

pub returns-then-text-length-clause-value : goal.returns-then-text-length-clause-value
returns-then-text-length-clause-value c =
    let z = ap has_zero (sym c.first-head.ensures) ∙ sym c.contains_zero.ensures ∙ c.if-contains_zero.false in
    let long : LENGTH_BYTES ≤ length c.args.bytes.now = omega (arith, ap length c.first-head.ensures, length-take LENGTH_BYTES c.args.bytes.now, c.if-head-lt-LENGTH_BYTES.false) in
    let l = chosen_some (is_length c.first-head.result.now) (announced c.first-head.result.now) c.in-Some.length c.length_of.result c.length_of.ensures c.in-Some.is in
    let n : c.in-Some.length ≡ announced (length_part c.args.bytes.now) = l.1 ∙ ap announced c.first-head.ensures in
    let t = ap (λ (k : ℕ). has_zero (take k (drop LENGTH_BYTES c.args.bytes.now))) (sym n) ∙ ap (λ (rest : List ℕ). has_zero (take c.in-Some.length rest)) (sym c.after_length.ensures) ∙ ap has_zero (sym c.first-text.ensures) ∙ sym c.contains_zero-2.ensures ∙ c.if-contains_zero-2.false in
    sym (cut_in_text c.args.bytes.now z long (ap is_length (sym c.first-head.ensures) ∙ l.0) t
    (omega (arith, n, ap length c.first-text.ensures, ap length c.after_length.ensures, length-take c.in-Some.length c.after_length.result.now, c.if-text-length.true)))

pub returns-clause-value : goal.returns-clause-value
returns-clause-value c =
    let z = ap has_zero (sym c.first-head.ensures) ∙ sym c.contains_zero.ensures ∙ c.if-contains_zero.false in
    let long : LENGTH_BYTES ≤ length c.args.bytes.now = omega (arith, ap length c.first-head.ensures, length-take LENGTH_BYTES c.args.bytes.now, c.if-head-lt-LENGTH_BYTES.false) in
    let l = chosen_some (is_length c.first-head.result.now) (announced c.first-head.result.now) c.in-Some.length c.length_of.result c.length_of.ensures c.in-Some.is in
    let n : c.in-Some.length ≡ announced (length_part c.args.bytes.now) = l.1 ∙ ap announced c.first-head.ensures in
    let t = ap (λ (k : ℕ). has_zero (take k (drop LENGTH_BYTES c.args.bytes.now))) (sym n) ∙ ap (λ (rest : List ℕ). has_zero (take c.in-Some.length rest)) (sym c.after_length.ensures) ∙ ap has_zero (sym c.first-text.ensures) ∙ sym c.contains_zero-2.ensures ∙ c.if-contains_zero-2.false in
    sym (whole_text c.args.bytes.now z long (ap is_length (sym c.first-head.ensures) ∙ l.0) t
    (omega (arith, n, ap length c.first-text.ensures, ap length c.after_length.ensures, length-take c.in-Some.length c.after_length.result.now, c.if-text-length.false))
    ∙ ap (λ (k : ℕ). Ok (Some k)) (sym n))

use Rattle.std.proofs.Common.{◌<◌, ◌∙◌, Bool, true, length, ap, sym, arith}
use Rattle.std.proofs.lemmas.Bool.{eqb-false}
use Rattle.mt_types.specs.Rows.{Rows}
use Rattle.mt_replay.specs.Redo.{entries_redone, number_after}
use Rattle.mt_replay.specs.Reading.{counted}
use Rattle.mt_replay.proofs.ReadingLemmas.{front_done, front_some, front_within, number_split}
use Rattle.mt_replay.proofs.reading.redo_fronts.Goals as goal

pub split_at-requires : goal.split_at-requires
split_at-requires c = omega (arith, front_within c.loop-rest.rest.now)

pub redo-requires : goal.redo-requires
redo-requires c =
    let all = number_split c.loop-rest.number c.front_length.result c.loop-rest.rest.now c.split_at.result.0.now c.split_at.result.1.now c.split_at.ensures.front c.split_at.ensures.back in
    omega (arith, all)

pub loop-rest-smaller : goal.loop-rest-smaller
loop-rest-smaller c =
    let rest = c.loop-rest.rest.now in
    let some = eqb-false (length rest) 0 (sym c.is_empty.ensures ∙ c.loop-rest-test.true) in
    let less : length c.split_at.result.1.now < length rest = omega (arith, some, front_within rest, front_some rest) in
    less

pub loop-rest-preserved : goal.loop-rest-preserved
loop-rest-preserved c =
    let n = c.loop-rest.number in
    let rest = c.loop-rest.rest.now in
    let front = c.split_at.result.0.now in
    let later = c.split_at.result.1.now in
    record {
      ends = ap (λ k. number_after k later) c.in_ok-number.ensures.number ∙ number_split n c.front_length.result rest front later c.split_at.ensures.front c.split_at.ensures.back ∙ c.loop-rest.invariant.ends;
      so_far =
          ap (λ k. entries_redone true k (counted later) c.redo.new.rows) c.in_ok-number.ensures.number
          ∙ ap (λ (made : Rows). entries_redone true (number_after n front) (counted later) made) (c.in_ok-number.ensures.rows ∙ ap (λ (b : Bool). entries_redone b n front c.loop-rest.rows) c.is_sealed.ensures)
          ∙ sym (front_done n c.front_length.result rest front later c.loop-rest.rows c.front_length.ensures c.split_at.ensures.front c.split_at.ensures.back)
          ∙ c.loop-rest.invariant.so_far;
    }

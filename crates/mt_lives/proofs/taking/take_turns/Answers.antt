use Rattle.std.proofs.Common.{◌≡◌, ◌∙◌, ◌+◌, ◌∷◌, [], ℕ, List, length, take, drop, sym, ap, subst, arith}
use Rattle.std.proofs.lemmas.List.{length-append, take-append-drop, take_all}
use Rattle.mt_lives.specs.Sentence.{opened_at}
use Rattle.mt_lives.specs.Turns.{LeadsAll}
use Rattle.mt_lives.specs.declared.turn.Told.{Told}
use Rattle.mt_lives.specs.declared.turn.Turn.{Turn}
use Rattle.mt_lives.proofs.ReachLemmas.{lived_left}
use Rattle.mt_lives.proofs.SentenceLemmas.{life_of}
use Rattle.mt_lives.proofs.TurnLemmas.{leads_at, leads_left}
use Rattle.mt_lives.proofs.taking.take_turns.Goals as goal

-- a turn failed: the others were left
pub returns-in-Err-clause-taken : goal.returns-in-Err-clause-taken
returns-in-Err-clause-taken g c = λ C a lived mixes.
    let (b, leads, then) = c.loop-turn.invariant.leads C a lived mixes in
    let i = c.loop-turn.turn-index in
    let turns = c.args.turns.now in (
      b,
      subst (λ (ts : List Turn). LeadsAll C ts c.loop-turn.told.items a b) (take-append-drop i turns) (leads_left C (take i turns) (drop i turns) c.loop-turn.told.items a b leads),
      c.in-Err.ensures.fails C b then mixes,
      tt,
    )

pub returns-in-Err-clause-life : goal.returns-in-Err-clause-life
returns-in-Err-clause-life g c = λ mixes C even odd left others begins are changes n first.
    let (b, leads, all, then) = returns-in-Err-clause-taken g c C (opened_at changes n) (begins changes n first) mixes in
    life_of g.D.Disk.may_leave C changes n c.args.turns.now c.loop-turn.told.items c.take_turn.new.opened.log left others b leads all are

-- all were taken
pub returns-clause-taken : goal.returns-clause-taken
returns-clause-taken g c = λ C a lived mixes.
    let (b, leads, then) = c.loop-turn.invariant.leads C a lived mixes in
    let all : take c.loop-turn.turn-index c.args.turns.now ≡ c.args.turns.now = take_all c.loop-turn.turn-index c.args.turns.now c.loop-turn-test.false in (
      b,
      subst (λ (ts : List Turn). LeadsAll C ts c.loop-turn.told.items a b) all leads,
      lived_left g.D.Disk.seen g.D.Disk.may_leave C b c.loop-turn.opened.map.machine c.loop-turn.opened.log then,
      then,
    )

pub returns-clause-life : goal.returns-clause-life
returns-clause-life g c = λ mixes C even odd left others begins are changes n first.
    let (b, leads, all, then) = returns-clause-taken g c C (opened_at changes n) (begins changes n first) mixes in
    life_of g.D.Disk.may_leave C changes n c.args.turns.now c.loop-turn.told.items c.loop-turn.opened.log left others b leads all are

-- one more turn
pub loop-turn-preserved : goal.loop-turn-preserved
loop-turn-preserved g c =
    let at = c.loop-turn in
    let i = at.turn-index in
    let turns = c.args.turns.now in
    let own = at.invariant in
    record {
      leads = λ C a lived mixes.
          let (m, leads, then) = own.leads C a lived mixes in
          let (b, next, more) = c.in-Ok.ensures.leads C m then mixes in (
            b,
            subst (λ (told : List Told). LeadsAll C (take (i + 1) turns) told a b) (sym c.in-Ok-push.ensures.items)
                (leads_at C turns i _ at.told.items c.in-Ok.answer a m b c.loop-turn-test.true own.many leads next),
            more,
          );
      many = ap length c.in-Ok-push.ensures.items ∙ length-append at.told.items (c.in-Ok.answer ∷ []) ∙ ap (λ (n : ℕ). n + 1) own.many;
      len = c.in-Ok-push.ensures.len ∙ ap (λ (n : ℕ). n + 1) own.len;
      room = omega (arith, own.room, c.in-Ok-push.ensures.capacity);
    }

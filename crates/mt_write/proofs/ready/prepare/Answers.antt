use Rattle.std.proofs.Common.{◌≡◌, Result, sym, subst}
use Rattle.mt_types.specs.declared.refusal.Refusal.{Refusal}
use Rattle.mt_border.specs.Border.{BorderView}
use Rattle.mt_border.specs.declared.found.Found.{Found}
use Rattle.mt_arena.specs.Node.{border_at}
use Rattle.mt_steps.proofs.FoundLemmas.{some_at}
use Rattle.mt_write.specs.declared.writing.Stage.{Stage}
use Rattle.mt_write.specs.Causes.{ReadyFor, put_fault}
use Rattle.mt_write.specs.Ready.{NeedsNoSplit}
use Rattle.mt_write.proofs.CauseLemmas.{prepares_ok, room_ready}
use Rattle.mt_write.proofs.ready.prepare.Goals.{in-Row, in-Absent, in-OtherSuffix}
use Rattle.mt_write.proofs.ready.prepare.Goals as goal

pub returns-in-Ok-clause-fault : goal.returns-in-Ok-clause-fault
returns-in-Ok-clause-fault c =
    prepares_ok c.args.tree.now c.args.log.now c.args.row.now.key.now c.args.row.now.way c.args.found c.match-found.made c.in-Ok.stage
    c.requires.value c.in-Ok.is (elim c.match-found.branch [
      | in-Row w ↦ λ b named. by_found c.args.found c.match-found.made _ _ b w.in-Row.is w.made-is w.make-made.ensures.fault
      | in-Absent w ↦ λ b named.
          let none = some_at (λ (x : BorderView). NeedsNoSplit x c.args.found) (border_at c.args.tree.now.nodes c.args.row.now.way.node.0) b c.requires.room named in
          by_found c.args.found c.match-found.made _ _ b w.in-Absent.is w.made-is
          (room_ready c.args.tree.now c.args.log.now b w.in-Absent.place _ (subst (λ (f : Found). NeedsNoSplit b f) w.in-Absent.is none) (some_at _ (border_at c.args.tree.now.nodes c.args.row.now.way.node.0) b w.reserve-made.ensures.fault named))
      | in-OtherSuffix w ↦ λ b named. by_found c.args.found c.match-found.made _ _ b w.in-OtherSuffix.is w.made-is w.spare_layer_found-made.ensures.fault
    ])
  where
    by_found : (found : Found) (made : Result Stage Refusal) (at : Found) (result : Result Stage Refusal) (b : BorderView) → found ≡ at → made ≡ result → ReadyFor (put_fault c.args.tree.now c.args.log.now b at) result → ReadyFor (put_fault c.args.tree.now c.args.log.now b found) made
    by_found found made at result b found_is made_is ready = subst (λ (f : Found). ReadyFor (put_fault c.args.tree.now c.args.log.now b f) made) (sym found_is) (subst (λ (r : Result Stage Refusal). ReadyFor (put_fault c.args.tree.now c.args.log.now b at) r) (sym made_is) ready)

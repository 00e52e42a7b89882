use Rattle.std.proofs.Common.{◌≡◌, ◌∙◌, ◌+◌, ◌++◌, ◌∷◌, [], List, take, length, refl, sym, ap, subst}
use Rattle.std.proofs.lemmas.List.{take_more, take_all}
use Rattle.mt_types.specs.Limits.{open_fault}
use Rattle.mt_types.specs.declared.event.Event.{Event}
use Rattle.mt_types.specs.declared.event.Outcome.{Outcome}
use Rattle.mt_promise.specs.History.{History, GoesOn, happening}
use Rattle.mt_promise.specs.Legal.{Legal}
use Rattle.mt_promise.proofs.KeepLemmas.{keeps_promise}
use Rattle.mt_promise.proofs.HistoryLemmas.{GoesOn-append, GoesOn-length}
use Rattle.mt_index.specs.Events.{AllHappen}
use Rattle.mt_index.proofs.EventLemmas.{all-more}
use Rattle.mt_index.proofs.OpenStands.{no_fault}
use Rattle.mt_index.proofs.machine.Machine.run.Goals as goal

pub loop-event-init : goal.loop-event-init
loop-event-init c =
    record {
      told = ([], rw c.new-outcomes.ensures.items refl, c.in_ok-machine.ensures.opened.2);
      happen = (
        c.in_ok-machine.machine,
        record { columns = c.in_ok-machine.ensures.opened.0; bounds = c.in_ok-machine.ensures.opened.1; stands = c.in_ok-machine.ensures.opened.2 },
        rw c.new-outcomes.ensures.items refl,
      );
      columns = c.in_ok-machine.ensures.opened.0;
      bounds = c.in_ok-machine.ensures.opened.1;
      opened = no_fault _ _ c.in_ok-machine.machine (open_fault c.args.options.columns c.args.options.log_capacity c.args.options.log_retention) c.in_ok-machine.ensures.fault;
    }

-- the history grows by what happened
pub loop-event-preserved : goal.loop-event-preserved
loop-event-preserved c =
    let told = c.loop-event.invariant.told in
    let h : History = told.0 in
    let more : take (c.loop-event.event-index + 1) c.args.events.now ≡ take c.loop-event.event-index c.args.events.now ++ c.event-item.result ∷ [] =
    take_more c.args.events.now c.loop-event.event-index c.event-item.result c.loop-event-test.true
    ∙ ap (λ (e : Event). take c.loop-event.event-index c.args.events.now ++ e ∷ []) (sym c.event-item.is) in
    record {
      happen =
          let (opened, is, happen) = c.loop-event.invariant.happen in (
            opened,
            is,
            subst (λ (es : List Event). AllHappen opened es c.push.new.self.items c.event-outcome.new.self) (sym more)
                (subst (λ (os : List Outcome). AllHappen opened (take c.loop-event.event-index c.args.events.now ++ c.event-item.result ∷ []) os c.event-outcome.new.self) (sym c.in-Ok.ensures.items)
                (all-more opened c.loop-event.machine c.event-outcome.new.self _ _ c.event-item.result c.event-outcome.result happen
                (record {
                  stands = c.event-outcome.ensures.stands;
                  happens = record { does = c.event-outcome.ensures.does; caused = c.event-outcome.ensures.caused; one_step = c.event-outcome.ensures.one_step; one_field = c.event-outcome.ensures.one_field };
                  columns = c.event-outcome.ensures.columns;
                  bounds = c.event-outcome.ensures.bounds;
                }))),
          );
      columns = c.event-outcome.ensures.columns ∙ c.loop-event.invariant.columns;
      bounds = (c.event-outcome.ensures.bounds.0 ∙ c.loop-event.invariant.bounds.0, c.event-outcome.ensures.bounds.1 ∙ c.loop-event.invariant.bounds.1);
      opened = c.loop-event.invariant.opened;
      told =
          let (opens, stands) = c.event-outcome.ensures.stands h told.2 in (
            happening c.event-item.result c.event-outcome.result opens ∷ h,
            subst (λ (es : List Event). GoesOn [] es c.push.new.self.items (happening c.event-item.result c.event-outcome.result opens ∷ h)) (sym more)
                (subst (λ (os : List Outcome). GoesOn [] (take c.loop-event.event-index c.args.events.now ++ c.event-item.result ∷ []) os (happening c.event-item.result c.event-outcome.result opens ∷ h)) (sym c.in-Ok.ensures.items)
                (GoesOn-append [] h _ _ c.event-item.result c.event-outcome.result opens told.1)),
            stands,
          );
    }

pub returns-clause-legal : goal.returns-clause-legal
returns-clause-legal c =
    let told = c.loop-event.invariant.told in
    let legal = subst (λ C. Legal C told.0) c.loop-event.invariant.columns told.2.legal in
    let promise = keeps_promise _ told.0 legal in (
      told.0,
      record {
        told = subst (λ (es : List Event). GoesOn [] es c.loop-event.outcomes.items told.0) (take_all c.loop-event.event-index c.args.events.now c.loop-event-test.false) told.1;
        legal = legal;
        gets = promise.gets;
        ranges = promise.ranges;
        views = promise.views;
        columns = c.loop-event.invariant.columns;
        stands = told.2;
        first = c.loop-event.invariant.happen.0;
        opened = c.loop-event.invariant.happen.1;
        happen = subst (λ (es : List Event). AllHappen c.loop-event.invariant.happen.0 es c.loop-event.outcomes.items c.loop-event.machine) (take_all c.loop-event.event-index c.args.events.now c.loop-event-test.false) c.loop-event.invariant.happen.2;
      },
    )

pub returns-clause-length : goal.returns-clause-length
returns-clause-length c =
    let told = c.loop-event.invariant.told in
    GoesOn-length [] told.0 _ c.loop-event.outcomes.items told.1 ∙ ap length (take_all c.loop-event.event-index c.args.events.now c.loop-event-test.false)

pub returns-clause-bounds : goal.returns-clause-bounds
returns-clause-bounds c = c.loop-event.invariant.bounds

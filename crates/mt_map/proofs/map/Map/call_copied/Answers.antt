use Rattle.std.proofs.Common.{inl, subst}
use Rattle.mt_types.specs.declared.event.Request.{Request}
use Rattle.mt_index.specs.Alone.{IsIdle}
use Rattle.mt_asked.specs.Borrowed.{request_of}
use Rattle.mt_map.specs.Tidies.{MapCameTo, MapView}
use Rattle.mt_map.proofs.MapLemmas.{asked_refused}
use Rattle.mt_map.proofs.map.Map.call_copied.Goals as goal

pub returns-in-Ok-clause-comes : goal.returns-in-Ok-clause-comes
returns-in-Ok-clause-comes c =
    inl (subst (λ (request : Request). MapCameTo c.args.self.now request c.call.result c.call.new.self) c.in-Ok.ensures.request c.call.ensures.came)

pub returns-in-Err-clause-comes : goal.returns-in-Err-clause-comes
returns-in-Err-clause-comes c =
    asked_refused c.args.self.now c.columns-columns.result (request_of c.args.asked.now) c.in-Err.refusal (subst (λ (m : MapView). IsIdle m.machine) c.self.view_is c.self.invariant) c.columns-columns.ensures c.in-Err.ensures.fault

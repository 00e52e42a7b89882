use Rattle.std.proofs.Common.{◌∙◌, ◌≡◌, ◌+◌, ◌++◌, ◌∷◌, [], ℕ, None, ap, sym, subst}
use Rattle.mt_types.specs.Limits.{request_fault}
use Rattle.mt_promise.proofs.RowLimits.{neither_of}
use Rattle.mt_commit.specs.Log.{newest}
use Rattle.mt_write.specs.Runs.{WriteState}
use Rattle.mt_works.specs.declared.work.Work.TheVariants.{Write as WriteWork}
use Rattle.mt_index.specs.declared.calling.CallRun.{CallRun}
use Rattle.mt_index.specs.Alone.{IsIdle}
use Rattle.mt_index.specs.Runs.{BeginsAndGoes, BeginsOrNot}
use Rattle.mt_index.specs.Stands.{MachineView, fault_of, outcome_of}
use Rattle.mt_index.proofs.LaterStands.{seen}
use Rattle.mt_index.proofs.MachineLemmas.{key_fits_in}
use Rattle.mt_index.proofs.RunLemmas.{has_begun_and_run, left_counted, left_stored, may_run, nothing_to_trim, run_stands}
use Rattle.mt_index.proofs.machine.Machine.run_write.Goals as goal

pub write_of-write-requires-clause-fits : goal.write_of-write-requires-clause-fits
write_of-write-requires-clause-fits c = key_fits_in c.args.self.now.columns c.args.request (neither_of (request_fault c.args.self.now.columns c.args.request) _ c.requires.none).0

pub run-run-requires-clause-may : goal.run-run-requires-clause-may
run-run-requires-clause-may c =
    let (h, st) = c.self.invariant in
    let s : MachineView = seen c.self.inside.columns c.self.inside.epoch c.self.inside.tree c.self.inside.log c.self.inside.calls c.self.inside.views in
    may_run s c.args.pass c.write_of-write.result (c.write_of-write.ensures.new s.columns (newest s.log)) h st

pub run-run-requires-clause-trimmed : goal.run-run-requires-clause-trimmed
run-run-requires-clause-trimmed c =
    let (h, st) = c.self.invariant in
    nothing_to_trim (seen c.self.inside.columns c.self.inside.epoch c.self.inside.tree c.self.inside.log c.self.inside.calls c.self.inside.views) h st

pub invariant_of-self : goal.invariant_of-self
invariant_of-self c =
    let s : MachineView = seen c.self.inside.columns c.self.inside.epoch c.self.inside.tree c.self.inside.log c.self.inside.calls c.self.inside.views in
    let idle = subst IsIdle (sym c.self.view_is) c.requires.idle in
    let none = subst (λ (m : MachineView). fault_of m c.args.request ≡ None) (sym c.self.view_is) c.requires.none in
    let y : WriteState = record { tree = c.run-run.new.tree; log = c.run-run.new.log; write = c.run-run.new.self } in
    let goes = has_begun_and_run s c.args.pass idle c.write_of-write.result c.args.request c.run-run.result y c.count_one-number.result c.number-from.result c.number-to.result c.count_one-number.new.self
    (c.write_of-write.ensures.new s.columns c.number-from.result) none c.write_of-write.ensures.request c.run-run.ensures.runs c.count_one-number.ensures.number c.number-from.ensures.value c.number-to.ensures.value
    (left_counted s c.args.pass idle c.run-run.result.last y c.count_one-number.new.self (sym c.has_ended.ensures ∙ c.if-has_ended.true) c.count_one-number.ensures.counts) in
    let (h, st) = c.self.invariant in
    run_stands s _ c.args.pass c.args.request _ _ goes h st

pub returns-then-has_ended-clause-begins : goal.returns-then-has_ended-clause-begins
returns-then-has_ended-clause-begins c =
    let s : MachineView = seen c.self.inside.columns c.self.inside.epoch c.self.inside.tree c.self.inside.log c.self.inside.calls c.self.inside.views in
    let idle = subst IsIdle (sym c.self.view_is) c.requires.idle in
    let none = subst (λ (m : MachineView). fault_of m c.args.request ≡ None) (sym c.self.view_is) c.requires.none in
    let y : WriteState = record { tree = c.run-run.new.tree; log = c.run-run.new.log; write = c.run-run.new.self } in
    let goes = has_begun_and_run s c.args.pass idle c.write_of-write.result c.args.request c.run-run.result y c.count_one-number.result c.number-from.result c.number-to.result c.count_one-number.new.self
    (c.write_of-write.ensures.new s.columns c.number-from.result) none c.write_of-write.ensures.request c.run-run.ensures.runs c.count_one-number.ensures.number c.number-from.ensures.value c.number-to.ensures.value
    (left_counted s c.args.pass idle c.run-run.result.last y c.count_one-number.new.self (sym c.has_ended.ensures ∙ c.if-has_ended.true) c.count_one-number.ensures.counts) in
    subst (λ (r : CallRun). BeginsOrNot c.args.self.now c.args.pass c.args.request r (seen c.self.inside.columns c.self.inside.epoch c.run-run.new.tree c.run-run.new.log c.count_one-number.new.self c.self.inside.views)) (sym c.ran.ensures)
    (subst (λ (m : MachineView). BeginsAndGoes m c.args.pass c.args.request (record { 0 = c.count_one-number.result }) (record { steps = c.run-run.result.steps; commits = c.run-run.result.commits; last = outcome_of c.count_one-number.result c.args.pass c.number-from.result c.number-to.result c.run-run.result.last }) (seen c.self.inside.columns c.self.inside.epoch c.run-run.new.tree c.run-run.new.log c.count_one-number.new.self c.self.inside.views)) c.self.view_is goes)

pub invariant_of-self-2 : goal.invariant_of-self-2
invariant_of-self-2 c =
    let s : MachineView = seen c.self.inside.columns c.self.inside.epoch c.self.inside.tree c.self.inside.log c.self.inside.calls c.self.inside.views in
    let idle = subst IsIdle (sym c.self.view_is) c.requires.idle in
    let none = subst (λ (m : MachineView). fault_of m c.args.request ≡ None) (sym c.self.view_is) c.requires.none in
    let y : WriteState = record { tree = c.run-run.new.tree; log = c.run-run.new.log; write = c.run-run.new.self } in
    let goes = has_begun_and_run s c.args.pass idle c.write_of-write.result c.args.request c.run-run.result y c.begin_first-number.result c.number-from.result c.number-to.result c.begin_first-number.new.self
    (c.write_of-write.ensures.new s.columns c.number-from.result) none c.write_of-write.ensures.request c.run-run.ensures.runs c.begin_first-number.ensures.number c.number-from.ensures.value c.number-to.ensures.value
    (left_stored s c.args.pass idle c.run-run.result.last y c.begin_first-number.new.self (sym c.has_ended.ensures ∙ c.if-has_ended.false) (c.begin_first-number.ensures.begins ∙ ap (λ (n : ℕ). record { begun = s.calls.begun + 1; calls = s.calls.calls ++ (s.calls.begun + 1, record { pass = c.args.pass; from = n; epoch = s.epoch; work = WriteWork c.run-run.new.self }) ∷ [] }) c.number-from.ensures.value)) in
    let (h, st) = c.self.invariant in
    run_stands s _ c.args.pass c.args.request _ _ goes h st

pub returns-clause-begins : goal.returns-clause-begins
returns-clause-begins c =
    let s : MachineView = seen c.self.inside.columns c.self.inside.epoch c.self.inside.tree c.self.inside.log c.self.inside.calls c.self.inside.views in
    let idle = subst IsIdle (sym c.self.view_is) c.requires.idle in
    let none = subst (λ (m : MachineView). fault_of m c.args.request ≡ None) (sym c.self.view_is) c.requires.none in
    let y : WriteState = record { tree = c.run-run.new.tree; log = c.run-run.new.log; write = c.run-run.new.self } in
    let goes = has_begun_and_run s c.args.pass idle c.write_of-write.result c.args.request c.run-run.result y c.begin_first-number.result c.number-from.result c.number-to.result c.begin_first-number.new.self
    (c.write_of-write.ensures.new s.columns c.number-from.result) none c.write_of-write.ensures.request c.run-run.ensures.runs c.begin_first-number.ensures.number c.number-from.ensures.value c.number-to.ensures.value
    (left_stored s c.args.pass idle c.run-run.result.last y c.begin_first-number.new.self (sym c.has_ended.ensures ∙ c.if-has_ended.false) (c.begin_first-number.ensures.begins ∙ ap (λ (n : ℕ). record { begun = s.calls.begun + 1; calls = s.calls.calls ++ (s.calls.begun + 1, record { pass = c.args.pass; from = n; epoch = s.epoch; work = WriteWork c.run-run.new.self }) ∷ [] }) c.number-from.ensures.value)) in
    subst (λ (r : CallRun). BeginsOrNot c.args.self.now c.args.pass c.args.request r (seen c.self.inside.columns c.self.inside.epoch c.run-run.new.tree c.run-run.new.log c.begin_first-number.new.self c.self.inside.views)) (sym c.ran-2.ensures)
    (subst (λ (m : MachineView). BeginsAndGoes m c.args.pass c.args.request (record { 0 = c.begin_first-number.result }) (record { steps = c.run-run.result.steps; commits = c.run-run.result.commits; last = outcome_of c.begin_first-number.result c.args.pass c.number-from.result c.number-to.result c.run-run.result.last }) (seen c.self.inside.columns c.self.inside.epoch c.run-run.new.tree c.run-run.new.log c.begin_first-number.new.self c.self.inside.views)) c.self.view_is goes)

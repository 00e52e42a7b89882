use Rattle.std.proofs.Common.{◌∙◌, ap}
use Rattle.std.specs.Option.{option_map}
use Rattle.mt_types.specs.declared.numbers.PassNo.{PassNo}
use Rattle.mt_index.specs.Calls.{pass_at}
use Rattle.mt_index.specs.Stands.{MachineView}
use Rattle.mt_index.proofs.PairedLemmas.{paired-pass}
use Rattle.mt_index.proofs.machine.Machine.pass_of.Goals as goal

pub returns-clause-told : goal.returns-clause-told
returns-clause-told c = λ h st.
    ap (option_map (λ (p : PassNo). p.0)) (c.pass_of.ensures ∙ ap (λ (s : MachineView). pass_at c.args.call.0 s.calls.calls) c.self.view_is)
    ∙ paired-pass _ _ _ c.args.call.0 c.args.self.now.calls.calls _ (λ kept call related. related.pass) st.calls

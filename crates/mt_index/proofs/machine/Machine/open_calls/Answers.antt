use Rattle.std.proofs.Common.{◌∙◌, ap, sym, length}
use Rattle.mt_index.specs.Stands.{MachineView}
use Rattle.mt_index.proofs.PairedLemmas.{paired-length}
use Rattle.mt_index.proofs.FirstLemmas.{no_calls}
use Rattle.mt_index.proofs.machine.Machine.open_calls.Goals as goal

pub returns-clause-idle : goal.returns-clause-idle
returns-clause-idle c = λ none. no_calls c.args.self.now.calls.calls (sym (c.len.ensures ∙ ap (λ (s : MachineView). length s.calls.calls) c.self.view_is) ∙ none)

pub returns-clause-told : goal.returns-clause-told
returns-clause-told c = λ h st. c.len.ensures ∙ ap (λ (s : MachineView). length s.calls.calls) c.self.view_is ∙ paired-length _ _ _ _ _ st.calls

use Rattle.std.proofs.Common.{◌<◌, ℕ, get_or}
use Rattle.mt_shared.specs.Passes.{PassView}
use Rattle.mt_shared.specs.Traces.{Keeps, part}
use Rattle.mt_shared.proofs.inner.Inner.settle_trace.Given as goal

abbrev pub invariant-loop-pass : goal.invariant-loop-pass
invariant-loop-pass l = (k : ℕ) (d : PassView) → k < l.pass-index → Keeps (get_or l.passes k d).trace (part (get_or l.passes k d).number l.entries.items)

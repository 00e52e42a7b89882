-- A trace that isn't kept fits each history.
use Rattle.std.proofs.Common.{false}
use Rattle.mt_promise.specs.History.{History}
use Rattle.mt_shared.specs.declared.trace.Trace.{Trace}
use Rattle.mt_shared.specs.declared.trace.Trace.TheVariants.{Off, On, Lost}
use Rattle.mt_shared.specs.Traces.{IsNewTrace, IsTraceOf}

pub is_untraced : (trace : Trace) (h : History) → IsNewTrace false trace → IsTraceOf trace h
is_untraced Off h new = tt
is_untraced (On kept) h new = absurd new
is_untraced Lost h new = absurd new

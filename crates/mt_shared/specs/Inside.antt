-- The fields of `Inner` and `Pass`, as contracts see them.
use Rattle.mt_shared.specs.declared.inner.Inner.TheInside.{Inside}
use Rattle.mt_shared.specs.declared.pass.Pass.TheInside.{Inside as PassInside}
use Rattle.mt_shared.specs.Passes.{PassView}
use Rattle.mt_shared.specs.Inner.{InnerView}

abbrev pub inner_view : Inside → InnerView
inner_view k = record { machine = k.machine; events = k.events; counters = k.counters.items; trace = k.trace; tidies = k.tidies }

abbrev pub pass_view : PassInside → PassView
pass_view p = record { number = p.number; seen = p.seen; events = p.events; commits = p.commits; trace = p.trace }

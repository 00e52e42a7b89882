-- A machine into which rows were loaded, and the counters of its passes.
use Rattle.std.specs.Prelude.{ℕ, ◌≡◌, length}
use Rattle.mt_types.specs.Rows.{Rows}
use Rattle.mt_index.specs.declared.options.Options.{Options}
use Rattle.mt_index.specs.Stands.{HasBounds}
use Rattle.mt_load.specs.Loaded.{IsLoaded}
use Rattle.mt_shared.specs.Inner.{InnerView}

-- a machine into which these rows were loaded, after this many commits, with counters for each of this many passes
pub record HasRowsLoaded (options : Options) (passes commits : ℕ) (map : Rows) (s : InnerView) : Type 0 where
  pub loaded : IsLoaded options.columns commits map s.machine
  pub bounds : HasBounds options.log_capacity options.log_retention s.machine.log
  pub counters : length s.counters ≡ passes
  pub tidies : s.tidies ≡ options.tidies

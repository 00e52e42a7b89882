-- The views of an index, as a server lists them.
use Rattle.std.specs.Prelude.{ℕ, ◌≡◌, List, length, map}
use Rattle.std.specs.FinMap.{entries}
use Rattle.mt_promise.specs.History.{History}
use Rattle.mt_view.specs.State.{StateView}
use Rattle.mt_index.specs.Stands.{MachineView, Stands}
use Rattle.mt_wire.specs.declared.server.ListedView.{ListedView}

-- a view with its number
abbrev pub listed : ℕ × StateView → ListedView
listed view = record {
  number = record { 0 = view.0 };
  at = view.1.at;
  rows = length (entries view.1.rows);
  spec = view.1.spec;
}

-- these are all views of an index, as they were at some moment, in the order of their numbers
pub record ListsSomewhere (views : List ListedView) : Type 0 where
  pub machine : MachineView
  pub history : History
  pub stands : Stands machine history
  pub lists : views ≡ map listed machine.views.views

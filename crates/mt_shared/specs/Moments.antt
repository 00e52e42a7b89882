-- What a moment of an index shows.
use Rattle.mt_index.specs.Stands.{MachineView}
use Rattle.mt_shared.specs.declared.moment.Moment.{Moment}

-- the machine as it is under the lock that the moment holds
abbrev pub machine_of : Moment → MachineView
machine_of moment = moment.kept.value.machine

use Rattle.std.proofs.Common.{◌≡◌, drop}
use Rattle.mt_check.specs.Versions.{some_until, shows_as}
use Rattle.mt_check.proofs.versions.shows_until.Given as goal

abbrev pub invariant-loop-version : goal.invariant-loop-version
invariant-loop-version l = some_until (shows_as l.asked l.answer) l.to (drop l.version-index l.versions) ≡ some_until (shows_as l.asked l.answer) l.to l.versions

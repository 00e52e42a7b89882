use Rattle.std.proofs.Common.{◌≡◌, drop}
use Rattle.std.specs.Option.{is_none}
use Rattle.mt_check.specs.Versions.{some_until}
use Rattle.mt_check.proofs.versions.lacks_until.Given as goal

abbrev pub invariant-loop-version : goal.invariant-loop-version
invariant-loop-version l = some_until is_none l.to (drop l.version-index l.versions) ≡ some_until is_none l.to l.versions

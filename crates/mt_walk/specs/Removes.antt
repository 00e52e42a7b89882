-- Requests that may remove a row, and those that don't.
use Rattle.std.specs.Prelude.{◌<◌, ◌≤◌, length}
use Rattle.mt_types.specs.declared.limits.TheConstants.{MAX_KEY_BYTES}
use Rattle.mt_types.specs.declared.event.Request.{Request}
use Rattle.mt_types.specs.declared.event.Request.TheVariants.{Remove}

-- a request that removes no row: it is no remove, or its key is too long
abbrev pub RemovesNone : Request → Type 0
RemovesNone (Remove key) = MAX_KEY_BYTES < length key
RemovesNone request = Unit {0}

-- a remove of a key that isn't too long
abbrev pub RemovesWithin : Request → Type 0
RemovesWithin (Remove key) = length key ≤ MAX_KEY_BYTES
RemovesWithin request = ⊥

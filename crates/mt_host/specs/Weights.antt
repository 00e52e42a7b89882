-- Which queries are gets and ranges.
use Rattle.std.specs.Prelude.{Bool, true, false}
use Rattle.mt_types.specs.declared.event.Request.TheVariants.{Get, Range}
use Rattle.mt_wire.specs.declared.query.Query.{Query}
use Rattle.mt_wire.specs.declared.query.Query.TheVariants.{Call}

-- it is no get and no range
abbrev pub is_other : Query → Bool
is_other (Call (Get key columns)) = false
is_other (Call (Range start limit columns)) = false
is_other _ = true

-- What a server refuses while the memory is full.
use Rattle.std.specs.Prelude.{Bool, true, false, List, map, Option, Some, None, if◌then◌else◌}
use Rattle.std.specs.List.{list_any}
use Rattle.mt_types.specs.declared.event.Request.TheVariants.{Put, PutIf, Build}
use Rattle.mt_types.specs.declared.refusal.Refusal.TheVariants.{NoMemory}
use Rattle.mt_wire.specs.declared.query.Query.{Query}
use Rattle.mt_wire.specs.declared.query.Query.TheVariants.{Call}
use Rattle.mt_wire.specs.declared.response.Response.{Response}
use Rattle.mt_wire.specs.declared.response.Response.TheVariants.{Refused}

-- puts, and builds of views
abbrev pub grows : Query → Bool
grows (Call (Put key sets)) = true
grows (Call (PutIf key sets version)) = true
grows (Call (Build spec)) = true
grows _ = false

abbrev pub any_grows : List Query → Bool
any_grows queries = list_any grows queries

-- each query is refused, as out of memory
abbrev pub memory_refusals : List Query → List Response
memory_refusals queries = map (λ (query : Query). Refused NoMemory) queries

-- queries are left to what is inside (None); or each is refused, since one of them grows and the memory is full
abbrev pub within_memory : Bool → List Query → Option (List Response)
within_memory false queries = None
within_memory true queries = if any_grows queries then Some (memory_refusals queries) else None

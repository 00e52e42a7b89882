-- Reading a query of any kind: from 13 on they are reads of one moment, and from 16 on of the server.
use Rattle.std.specs.Prelude.{ℕ, nat_lt, if◌then◌else◌}
use Rattle.mt_wire.specs.declared.query.Query.{Query}
use Rattle.mt_wire.specs.declared.query.Query.TheVariants.{Read, Server}
use Rattle.mt_wire.specs.Reading.{Reader, made, index_rest}
use Rattle.mt_wire.specs.ReadReading.{read_rest}
use Rattle.mt_wire.specs.ServerReading.{server_rest}

unfoldable pub query_rest : ℕ → Reader Query
query_rest kind =
    if nat_lt kind 13 then index_rest kind
    else if nat_lt kind 16 then made (λ x. Read x) (read_rest kind)
    else made (λ x. Server x) (server_rest kind)

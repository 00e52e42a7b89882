-- Reading queries of the server from left to right, as Reading does all.
use Rattle.std.specs.Prelude.{ℕ, zero, suc, ◌==◌, if◌then◌else◌, Bool, true, false, None}
use Rattle.std.specs.Int.{w32, w64}
use Rattle.mt_wire.specs.declared.server.Awaited.{Awaited}
use Rattle.mt_wire.specs.declared.server.Awaited.TheVariants as awaits
use Rattle.mt_wire.specs.declared.server.ServerQuery.{ServerQuery}
use Rattle.mt_wire.specs.declared.server.ServerQuery.TheVariants.{Hello, Ping, Info, Views, Wait, Stop}
use Rattle.mt_wire.specs.Reading.{Reader, both, made, nothing_at, byte_at, number_at, key_at, kind_at}

unfoldable pub flag_rest : ℕ → Reader Bool
flag_rest zero = made (λ _. false) nothing_at
flag_rest (suc zero) = made (λ _. true) nothing_at
flag_rest (suc (suc kind)) = λ bytes. None

unfoldable pub hello_at : Reader ServerQuery
hello_at = made (λ x. Hello x.0.0 x.0.1 x.1) (both (both byte_at key_at) key_at)

unfoldable pub ping_at : Reader ServerQuery
ping_at = made (λ x. Ping x) (number_at w64)

unfoldable pub awaited_rest : ℕ → Reader Awaited
awaited_rest zero = made (λ _. awaits.Commits) nothing_at
awaited_rest (suc zero) = made (λ x. awaits.View (record { 0 = x })) (number_at w64)
awaited_rest (suc (suc zero)) = made (λ _. awaits.Durable) nothing_at
awaited_rest (suc (suc (suc kind))) = λ bytes. None

unfoldable pub wait_at : Reader ServerQuery
wait_at = made (λ x. Wait x.0.0 x.0.1 x.1) (both (both (kind_at awaited_rest) (number_at w64)) (number_at w32))

unfoldable pub stop_at : Reader ServerQuery
stop_at = made (λ x. Stop x) (kind_at flag_rest)

unfoldable pub server_rest : ℕ → Reader ServerQuery
server_rest kind =
    if kind == 16 then hello_at
    else if kind == 17 then ping_at
    else if kind == 18 then made (λ _. Info) nothing_at
    else if kind == 19 then made (λ _. Views) nothing_at
    else if kind == 20 then wait_at
    else if kind == 21 then stop_at
    else λ bytes. None

use Rattle.std.proofs.Common.{◌≡◌, drop, None}
use Rattle.std.specs.Prelude.{IfSome}
use Rattle.mt_wire.specs.declared.server.Role.{Role}
use Rattle.mt_talk.specs.Tokens.{HasRole, HasNone}
use Rattle.mt_talk.proofs.tokens.role_of.Given as goal

-- what was found is one of the tokens; if nothing was, it is none of those so far; and those to come are among all
abbrev pub invariant-loop-token : goal.invariant-loop-token
invariant-loop-token l =
    IfSome l.found (λ role. HasRole l.tokens l.digest role)
    × (l.found ≡ None → HasNone (drop l.token-index l.tokens) l.digest → HasNone l.tokens l.digest)
    × ((role : Role) → HasRole (drop l.token-index l.tokens) l.digest role → HasRole l.tokens l.digest role)

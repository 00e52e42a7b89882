-- Who is admitted, by the digest of a secret.
use Rattle.std.specs.Prelude.{◌≡◌, ◌≢◌, ◌⊎◌, ℕ, List, [], ◌∷◌, Option, Some, None, IfSome, IfNone}
use Rattle.std.specs.List.{AllByRecursion}
use Rattle.mt_wire.specs.declared.server.Role.{Role}
use Rattle.mt_wire.specs.declared.server.Role.TheVariants.{All}
use Rattle.mt_talk.specs.declared.tokens.Token.{Token}

-- one of these tokens has this digest and this role
abbrev pub HasRole : List Token → List ℕ → Role → Type 0
HasRole [] digest role = ⊥
HasRole (token ∷ tokens) digest role = ((token.digest ≡ digest) × (token.role ≡ role)) ⊎ HasRole tokens digest role

-- none has this digest
abbrev pub HasNone : List Token → List ℕ → Type 0
HasNone tokens digest = AllByRecursion (λ token. token.digest ≢ digest) tokens

-- the role of a client that has said no hello: each role if there are no tokens
abbrev pub first_role : List Token → Option Role
first_role [] = Some All
first_role (token ∷ tokens) = None

-- the role that a secret of this digest gives: without tokens each role
abbrev pub Admits : List Token → List ℕ → Option Role → Type 0
Admits [] digest found = found ≡ Some All
Admits (token ∷ tokens) digest found =
    IfSome found (HasRole (token ∷ tokens) digest) × IfNone found (HasNone (token ∷ tokens) digest)

-- What is so whatever round is made is so of this one.
use Rattle.std.proofs.Common.{◌≡◌, subst}
use Rattle.mt_folder_log.specs.declared.checkpoint.Round.{Round}
use Rattle.mt_folder_log.specs.declared.checkpoint.Round.TheVariants.{Rests, Moves, Copies, Seals}
use Rattle.mt_map_folder.specs.Rounds.{IfCopies, IfMoves, IfSeals}

pub if_moves : (round : Round) (P : Type 0) → P → IfMoves round P
if_moves Rests P p = p
if_moves Moves P p = p
if_moves Copies P p = tt
if_moves Seals P p = tt

pub if_copies : (round : Round) (P : Type 0) → P → IfCopies round P
if_copies Rests P p = tt
if_copies Moves P p = tt
if_copies Copies P p = p
if_copies Seals P p = tt

pub if_seals : (round : Round) (P : Type 0) → P → IfSeals round P
if_seals Rests P p = tt
if_seals Moves P p = tt
if_seals Copies P p = tt
if_seals Seals P p = p

-- and of a round that is the same
pub moves_as : (a b : Round) (P : Type 0) → a ≡ b → IfMoves a P → IfMoves b P
moves_as a b P is p = subst (λ (r : Round). IfMoves r P) is p

pub seals_as : (a b : Round) (P : Type 0) → a ≡ b → IfSeals a P → IfSeals b P
seals_as a b P is p = subst (λ (r : Round). IfSeals r P) is p

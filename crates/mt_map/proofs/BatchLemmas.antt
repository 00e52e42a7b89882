-- Tidies that follow a batch, one after the other.
use Rattle.std.proofs.Common.{ℕ, List, ◌∷◌}
use Rattle.mt_index.specs.Stands.{MachineView}
use Rattle.mt_map.specs.Batches.{PurgesEach}
use Rattle.mt_map.specs.Tidies.{PurgesIfEmptied}

-- what is left of a list of places, and that all follow once these do
abbrev pub AllFollow : MachineView → List (List ℕ) → MachineView → List (List ℕ) → Type 0
AllFollow s keys m rest = (t : MachineView) → PurgesEach m rest t → PurgesEach s keys t

pub follow_on : (s m n : MachineView) (keys : List (List ℕ)) (key : List ℕ) (rest : List (List ℕ))
    → AllFollow s keys m (key ∷ rest) → PurgesIfEmptied m key n → AllFollow s keys n rest
follow_on s m n keys key rest all purges t others = all t (n, purges, others)
